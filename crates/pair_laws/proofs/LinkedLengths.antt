-- How many bytes the parts of a linked module take in its shortest encoding: a part of a side takes at most four times
-- as many as before. An index takes at most five, and at most four if it is that of one of few.
use Rattle.std.proofs.Common.{◌≡◌, ℕ, ◌+◌, ◌*◌, ◌^◌, ◌<◌, ◌≤◌, List, [], ◌∷◌, ◌++◌, map, length, Some, true, not, refl, arith, length-append}
use Rattle.leb_bytes.specs.Unsigned.{unsigned_bytes, u32_bytes}
use Rattle.base.specs.declared.marks.TheConstants.{ELEMENT_DECLARED, ELEMENT_FUNCS}
use Rattle.wasm_syntax.specs.declared.values.ValType.{ValType}
use Rattle.wasm_syntax.specs.declared.values.ValType.TheVariants.{I32}
use Rattle.wasm_syntax.specs.declared.instructions.Instr.{Instr}
use Rattle.wasm_syntax.specs.declared.instructions.Instr.TheVariants.{Call, CallIndirect, Const, End, GlobalGet, GlobalSet, RefFunc}
use Rattle.wasm_syntax.specs.declared.modules.Module.{Module}
use Rattle.wasm_syntax.specs.declared.modules.Func.{Func}
use Rattle.wasm_syntax.specs.declared.modules.Global.{Global}
use Rattle.wasm_syntax.specs.declared.modules.Import.{Import}
use Rattle.wasm_syntax.specs.declared.modules.ImportKind.{ImportKind}
use Rattle.wasm_syntax.specs.declared.modules.ImportKind.TheVariants as imports
use Rattle.wasm_syntax.specs.declared.modules.Export.{Export}
use Rattle.wasm_syntax.specs.declared.modules.ExportKind.{ExportKind}
use Rattle.wasm_syntax.specs.declared.modules.ExportKind.TheVariants as exports
use Rattle.wasm_syntax.specs.declared.modules.ElemSeg.{ElemSeg}
use Rattle.wasm_syntax.specs.declared.modules.ElemSeg.TheVariants.{Active, Declared}
use Rattle.wasm_syntax.specs.declared.modules.DataSeg.{DataSeg}
use Rattle.wasm_syntax.specs.Encoding.Modules.{code_of}
use Rattle.wasm_syntax.specs.Encoding.Sections.{export_index}
use Rattle.wasm_syntax.specs.Encoding.Shortest.{body_bytes, code_bytes, data_bytes, elem_bytes, export_bytes, export_kind_bytes, global_bytes, global_type_bytes, import_bytes, import_kind_bytes, instr_bytes, run_bytes, sized_bytes, vector_bytes}
use Rattle.wasm_syntax.specs.Validity.{AreFuncs, IsConstant, IsData, IsDeclaredFunc, IsElem, IsGlobal, IsThere, IsValid}
use Rattle.wasm_syntax.proofs.ItemLists.{items_as, sized_length, u32_most, vector_length, const_most}
use Rattle.wasm_syntax.proofs.Encoding.Writing.{u32_rise, u32_some, u32_sum}
use Rattle.instance_spec.specs.declared.sides.Side.{Side}
use Rattle.instance_spec.specs.declared.sides.Side.TheVariants.{Left, Right}
use Rattle.instance_spec.specs.Instances.{Instance, resolved_instr}
use Rattle.pair_spec.specs.Pairs.{ModulePair, module_of, is_from_other, host_imports, Funcs, Globals}
use Rattle.pair_spec.specs.Chains.{ChainEnd, Defined, HostImport}
use Rattle.pair_spec.specs.Numbers.{count_in, number_of, side_instance}
use Rattle.pair_spec.specs.PairRuns.{init_at}
use Rattle.pair_spec.specs.Linked.{constant_by, linked_constant, linked_data, linked_elem, linked_export, linked_export_kind, linked_func, linked_global, linked_import, linked_import_kind, side_prefix}
use Rattle.pair_spec.specs.Faults.{is_one_const}
use Rattle.pair_laws.specs.Laws.{AreLinkable}
use Rattle.pair_laws.proofs.Lists.{filter_fewer}
use Rattle.pair_laws.proofs.Chains.{HasValue}
use Rattle.pair_laws.proofs.Constants.{constant_becomes, valid_side}
use Rattle.pair_laws.proofs.LinkedEncodable.{func_low, global_low}
use Rattle.pair_laws.proofs.GrownLists.{HasGrown, items_filter, made_grown, map_grown, u32_few, vector_grown}

four_times : (n : ℕ) → n ≤ 4 * n
four_times n = omega arith

-- ---- bodies

module _ (i : Instance) where
  instr_grown : (instr : Instr) → length (instr_bytes (resolved_instr i instr)) ≤ 4 * length (instr_bytes instr)
  unfolding instr_bytes
  instr_grown (Call func) = omega (arith, u32_most (i.funcs func), u32_some func)
  instr_grown (CallIndirect ty) = omega (
    arith,
    length-append (u32_bytes ty) (0x00 ∷ []),
    length-append (u32_bytes (i.types ty)) (0x00 ∷ []),
    u32_most (i.types ty),
    u32_some ty,
  )
  instr_grown (GlobalGet global) = omega (arith, u32_most (i.globals global), u32_some global)
  instr_grown (GlobalSet global) = omega (arith, u32_most (i.globals global), u32_some global)
  instr_grown (RefFunc func) = omega (arith, u32_most (i.funcs func), u32_some func)
  instr_grown instr = four_times (length (instr_bytes instr))

  body_grown : (body : List Instr) → length (body_bytes (map (resolved_instr i) body)) ≤ 4 * length (body_bytes body)
  body_grown body =
      let all = map_grown (λ instr. Unit {0}) instr_bytes (resolved_instr i) (λ instr any. instr_grown instr) body (λ k d low. tt) in
      let bytes = all.bytes in
      omega (arith, items_as instr_bytes body, items_as instr_bytes (map (resolved_instr i) body), bytes)

  code_grown : (f : Func) → length (code_bytes (code_of (linked_func i f))) ≤ 4 * length (code_bytes (code_of f))
  unfolding code_bytes
  code_grown f =
      let locals = vector_bytes run_bytes f.locals in
      let body = map (resolved_instr i) f.body in
      omega (
        arith,
        sized_length (locals ++ body_bytes f.body),
        sized_length (locals ++ body_bytes body),
        u32_some (length (locals ++ body_bytes f.body)),
        u32_most (length (locals ++ body_bytes body)),
        length-append locals (body_bytes f.body),
        length-append locals (body_bytes body),
        vector_length run_bytes f.locals,
        u32_some (length f.locals),
        body_grown f.body,
      )

  pub codes_grown : (funcs : List Func)
      → HasGrown code_bytes (map code_of funcs) (map code_of (map (linked_func i) funcs))
  codes_grown funcs =
      made_grown (λ f. Unit {0}) code_bytes code_of (linked_func i) (λ f any. code_grown f) funcs (λ k d low. tt)

  -- ---- imports

  kind_grown : (kind : ImportKind)
      → length (import_kind_bytes (linked_import_kind i kind)) ≤ 4 * length (import_kind_bytes kind)
  kind_grown (imports.Func ty) = omega (arith, u32_most (i.types ty), u32_some ty)
  kind_grown (imports.Table limits) = four_times (length (import_kind_bytes (imports.Table limits)))
  kind_grown (imports.Memory limits) = four_times (length (import_kind_bytes (imports.Memory limits)))
  kind_grown (imports.Global ty) = four_times (length (import_kind_bytes (imports.Global ty)))

  import_grown : (x : Import) → length (import_bytes (linked_import i x)) ≤ 4 * length (import_bytes x)
  unfolding import_bytes
  import_grown x =
      let kind = import_kind_bytes (linked_import_kind i x.kind) in
      omega (
        arith,
        length-append (sized_bytes x.module) (sized_bytes x.name ++ import_kind_bytes x.kind),
        length-append (sized_bytes x.module) (sized_bytes x.name ++ kind),
        length-append (sized_bytes x.name) (import_kind_bytes x.kind),
        length-append (sized_bytes x.name) kind,
        kind_grown x.kind,
      )

  pub imports_grown : (side : Side) (all : List Import)
      → HasGrown import_bytes all (map (linked_import i) (host_imports side all))
  imports_grown side all =
      let hosts = host_imports side all in
      let own = map_grown (λ x. Unit {0}) import_bytes (linked_import i) (λ x any. import_grown x) hosts (λ k d low. tt) in
      let few = own.few in
      let bytes = own.bytes in
      record {
        few = omega (arith, few, filter_fewer (λ x. not (is_from_other side x)) all);
        bytes = omega (arith, bytes, items_filter import_bytes (λ x. not (is_from_other side x)) all);
      }

-- ---- constant expressions

end_length : length (body_bytes (End ∷ [])) ≡ 1
unfolding instr_bytes
end_length = refl

-- an expression of one instruction
one_length : (instr : Instr) → length (body_bytes (instr ∷ End ∷ [])) ≡ length (instr_bytes instr) + 1
one_length instr = omega (arith, length-append (instr_bytes instr) (body_bytes (End ∷ [])), end_length)

one_const_most : (body : List Instr) → is_one_const body ≡ true → length (body_bytes body) ≤ 12
unfolding instr_bytes
one_const_most (Const value ∷ End ∷ []) one = omega (arith, one_length (Const value), const_most value.ty value.bits)
one_const_most body one = cc

get_length : (x : ℕ) → length (body_bytes (GlobalGet x ∷ End ∷ [])) ≡ length (u32_bytes x) + 2
unfolding instr_bytes
get_length x = omega (arith, one_length (GlobalGet x))

module _ (pair : ModulePair) where
  end_most : (body : List Instr) (e : ChainEnd) → HasValue pair e
      → length (body_bytes (constant_by pair body (Some e))) ≤ 12
  end_most body (Defined s y) value = one_const_most (init_at pair s y) value
  end_most body (HostImport s y) host =
      let n = number_of pair Globals (HostImport s y) in omega (arith, get_length n, u32_most n)

  constant_grown : AreLinkable pair → (side : Side) (ty : ValType) (body : List Instr)
      → IsConstant (module_of pair side) ty body
      → length (body_bytes (linked_constant pair side body)) ≤ 4 * length (body_bytes body)
  constant_grown linkable side =
      constant_becomes pair linkable side
      (λ before after. length (body_bytes after) ≤ 4 * length (body_bytes before))
      (λ value. four_times (length (body_bytes (Const value ∷ End ∷ []))))
      (λ x e value. omega (arith, end_most (GlobalGet x ∷ End ∷ []) e value, get_length x, u32_some x))

-- ---- names

prefix_most : (side : Side) → length (side_prefix side) ≤ 6
prefix_most Left = omega arith
prefix_most Right = omega arith

six_length : length (u32_bytes 6) ≡ 1
unfolding u32_bytes unsigned_bytes
six_length = refl

name_grown : (prefix name : List ℕ) → length prefix ≤ 6
    → length (sized_bytes (prefix ++ name)) ≤ 3 + 4 * length (sized_bytes name)
name_grown prefix [] few = omega (
  arith,
  few,
  length-append prefix [],
  sized_length (prefix ++ []),
  sized_length [],
  u32_rise (length (prefix ++ [])) 6 (omega (arith, few, length-append prefix [])),
  six_length,
  u32_some 0,
)
name_grown prefix (byte ∷ name) few = omega (
  arith,
  few,
  length-append prefix (byte ∷ name),
  sized_length (prefix ++ byte ∷ name),
  sized_length (byte ∷ name),
  u32_rise (length (prefix ++ byte ∷ name)) (6 + length (byte ∷ name))
      (omega (arith, few, length-append prefix (byte ∷ name))),
  u32_sum 6 (length (byte ∷ name)),
  six_length,
  u32_some (length (byte ∷ name)),
)

-- ---- parts of a side in a linked module with few types, functions and globals

module _ (pair : ModulePair) (linkable : AreLinkable pair)
    (few_types : length pair.left.types + length pair.right.types ≤ 2 ^ 28) (few_funcs : count_in pair Funcs ≤ 2 ^ 28)
    (few_globals : count_in pair Globals ≤ 2 ^ 28) (side : Side) where
  abbrev m : Module
  m = module_of pair side

  abbrev own : Instance
  own = side_instance pair side

  valid : IsValid m
  valid = valid_side pair linkable side

  -- ---- functions

  type_few : (t : ℕ) → t < length m.types → length (u32_bytes (own.types t)) ≤ 4
  type_few = by side
    where
      by : (s : Side) (t : ℕ) → t < length (module_of pair s).types
          → length (u32_bytes ((side_instance pair s).types t)) ≤ 4
      by Left t low = u32_few ((side_instance pair Left).types t) (omega (arith, low, few_types))
      by Right t low = u32_few ((side_instance pair Right).types t) (omega (arith, low, few_types))

  abbrev type_of : Func → ℕ
  type_of f = f.ty

  pub functions_grown : HasGrown u32_bytes (map type_of m.funcs) (map type_of (map (linked_func own) m.funcs))
  functions_grown =
      made_grown (IsDeclaredFunc m) u32_bytes type_of (linked_func own)
      (λ f declared. omega (arith, type_few f.ty declared.type_there, u32_some f.ty)) m.funcs valid.outside.funcs

  func_few : (x : ℕ) → IsThere m (exports.Func x) → length (u32_bytes (own.funcs x)) ≤ 4
  func_few x there = u32_few (own.funcs x) (omega (arith, func_low pair linkable side x there, few_funcs))

  funcs_grown : (funcs : List ℕ) → AreFuncs m funcs
      → length (vector_bytes u32_bytes (map own.funcs funcs)) ≤ 4 * length (vector_bytes u32_bytes funcs)
  funcs_grown funcs all =
      vector_grown u32_bytes funcs (map own.funcs funcs)
      (map_grown (λ x. IsThere m (exports.Func x)) u32_bytes own.funcs
      (λ x there. omega (arith, func_few x there, u32_some x)) funcs all)

  -- ---- exports

  index_few : (kind : ExportKind) → IsThere m kind → length (u32_bytes (export_index (linked_export_kind own kind))) ≤ 4
  index_few (exports.Func x) there = func_few x there
  index_few (exports.Table x) there = u32_few 0 (omega arith)
  index_few (exports.Memory x) there = u32_few 0 (omega arith)
  index_few (exports.Global x) there =
      u32_few (own.globals x) (omega (arith, global_low pair linkable side x there, few_globals))

  export_grown : (e : Export) → IsThere m e.kind
      → length (export_bytes (linked_export pair side e)) ≤ 4 * length (export_bytes e)
  unfolding export_bytes
  export_grown e there =
      let name = side_prefix side ++ e.name in
      omega (
        arith,
        length-append (sized_bytes e.name) (export_kind_bytes e.kind),
        length-append (sized_bytes name) (export_kind_bytes (linked_export_kind own e.kind)),
        name_grown (side_prefix side) e.name (prefix_most side),
        index_few e.kind there,
        u32_some (export_index e.kind),
      )

  pub exports_grown : HasGrown export_bytes m.exports (map (linked_export pair side) m.exports)
  exports_grown =
      map_grown (λ (e : Export). IsThere m e.kind) export_bytes (linked_export pair side) export_grown m.exports
      valid.outside.exports

  -- ---- globals and segments

  global_grown : (g : Global) → IsGlobal m g
      → length (global_bytes (linked_global pair side g)) ≤ 4 * length (global_bytes g)
  unfolding global_bytes
  global_grown g is = omega (
    arith,
    length-append (global_type_bytes g.ty) (body_bytes g.init),
    length-append (global_type_bytes g.ty) (body_bytes (linked_constant pair side g.init)),
    constant_grown pair linkable side g.ty.ty g.init is.init,
  )

  pub globals_grown : HasGrown global_bytes m.globals (map (linked_global pair side) m.globals)
  globals_grown =
      map_grown (IsGlobal m) global_bytes (linked_global pair side) global_grown m.globals valid.outside.globals

  elem_grown : (e : ElemSeg) → IsElem m e → length (elem_bytes (linked_elem pair side e)) ≤ 4 * length (elem_bytes e)
  unfolding elem_bytes
  elem_grown (Active table offset funcs) is =
      let before = vector_bytes u32_bytes funcs in
      let after = vector_bytes u32_bytes (map own.funcs funcs) in
      let other = linked_constant pair side offset in
      omega (
        arith,
        length-append (u32_bytes table) (body_bytes offset ++ before),
        length-append (u32_bytes table) (body_bytes other ++ after),
        length-append (body_bytes offset) before,
        length-append (body_bytes other) after,
        constant_grown pair linkable side I32 offset is.1,
        funcs_grown funcs is.2,
      )
  elem_grown (Declared funcs) is =
      let before = vector_bytes u32_bytes funcs in
      let after = vector_bytes u32_bytes (map own.funcs funcs) in
      omega (
        arith,
        length-append (u32_bytes ELEMENT_DECLARED) (ELEMENT_FUNCS ∷ before),
        length-append (u32_bytes ELEMENT_DECLARED) (ELEMENT_FUNCS ∷ after),
        funcs_grown funcs is,
      )

  pub elems_grown : HasGrown elem_bytes m.elems (map (linked_elem pair side) m.elems)
  elems_grown = map_grown (IsElem m) elem_bytes (linked_elem pair side) elem_grown m.elems valid.outside.elems

  data_grown : (d : DataSeg) → IsData m d → length (data_bytes (linked_data pair side d)) ≤ 4 * length (data_bytes d)
  unfolding data_bytes
  data_grown d is =
      let other = linked_constant pair side d.offset in
      omega (
        arith,
        length-append (u32_bytes d.memory) (body_bytes d.offset ++ sized_bytes d.bytes),
        length-append (u32_bytes d.memory) (body_bytes other ++ sized_bytes d.bytes),
        length-append (body_bytes d.offset) (sized_bytes d.bytes),
        length-append (body_bytes other) (sized_bytes d.bytes),
        constant_grown pair linkable side I32 d.offset is.offset,
      )

  pub datas_grown : HasGrown data_bytes m.datas (map (linked_data pair side) m.datas)
  datas_grown = map_grown (IsData m) data_bytes (linked_data pair side) data_grown m.datas valid.outside.datas
