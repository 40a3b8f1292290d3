-- The linked module of two that have an encoding has one.
use Rattle.std.proofs.Common.{◌≡◌, ℕ, suc, zero, ◌+◌, ◌-◌, ◌<◌, ◌≤◌, ◌^◌, List, [], ◌∷◌, map, length, Option, Some, None, true, slice_get, option_map, not, codes, refl, sym, ap, subst, arith, inl, inr}
use Rattle.std.specs.Prelude.{IfSome, IsUtf8}
use Rattle.std.specs.List.{AllByRecursion, slice_index_or}
use Rattle.std.specs.Option.{option_map_or, option_or}
use Rattle.std.proofs.lemmas.Bool.{cases_lt}
use Rattle.std.proofs.lemmas.List.{length-map}
use Rattle.std.proofs.lemmas.List.Elements.{recursion_from_All}
use Rattle.std.proofs.lemmas.Option.{slice_get_within}
use Rattle.std.proofs.lemmas.Str.{IsUtf8-append, IsUtf8-from_ascii}
use Rattle.base.proofs.Lists.{item_there, joined_all}
use Rattle.wasm_syntax.specs.declared.forms.Form.{Form}
use Rattle.wasm_syntax.specs.declared.forms.Form.TheVariants as forms
use Rattle.wasm_syntax.specs.declared.values.ValType.{ValType}
use Rattle.wasm_syntax.specs.declared.values.ValType.TheVariants.{I32}
use Rattle.wasm_syntax.specs.declared.instructions.Instr.{Instr}
use Rattle.wasm_syntax.specs.declared.instructions.Instr.TheVariants.{Call, CallIndirect, End, GlobalGet, GlobalSet, RefFunc}
use Rattle.wasm_syntax.specs.declared.signatures.GlobalType.{GlobalType}
use Rattle.wasm_syntax.specs.declared.modules.Module.{Module}
use Rattle.wasm_syntax.specs.declared.modules.Func.{Func}
use Rattle.wasm_syntax.specs.declared.modules.Global.{Global}
use Rattle.wasm_syntax.specs.declared.modules.ImportKind.{ImportKind}
use Rattle.wasm_syntax.specs.declared.modules.ImportKind.TheVariants as imports
use Rattle.wasm_syntax.specs.declared.modules.ExportKind.{ExportKind}
use Rattle.wasm_syntax.specs.declared.modules.ExportKind.TheVariants as exports
use Rattle.wasm_syntax.specs.declared.modules.ElemSeg.{ElemSeg}
use Rattle.wasm_syntax.specs.declared.modules.ElemSeg.TheVariants.{Active, Declared}
use Rattle.wasm_syntax.specs.declared.modules.DataSeg.{DataSeg}
use Rattle.wasm_syntax.specs.Encoding.Encodable.{FitsBody, FitsDataSeg, FitsElemSeg, FitsExport, FitsExportKind, FitsFunc, FitsFuncType, FitsGlobal, FitsImport, FitsImportKind, FitsInstr, FitsLimits, FitsU32, IsEncodable}
use Rattle.wasm_syntax.specs.Encoding.Laws.{CoreIsInReplay}
use Rattle.wasm_syntax.specs.Index.{func_indices, all_globals}
use Rattle.wasm_syntax.specs.Nest.{Plain, Empty}
use Rattle.wasm_syntax.specs.Validity.{IsConstant, IsData, IsElem, IsGlobal, IsValid}
use Rattle.wasm_syntax.proofs.ValidParts.{each_ascii}
use Rattle.instance_spec.specs.declared.sides.Side.{Side}
use Rattle.instance_spec.specs.declared.sides.Side.TheVariants.{Left, Right}
use Rattle.instance_spec.specs.Instances.{Instance, moved_up, resolved_instr}
use Rattle.instance_spec.specs.Renamed.{renamed_nest}
use Rattle.instance_spec.specs.ForeignRuns.{count_from}
use Rattle.instance_laws.proofs.RenamedTrees.{body_kept}
use Rattle.instance_laws.proofs.WidenedParts.{counted}
use Rattle.pair_spec.specs.Pairs.{ModulePair, module_of, is_from_other, host_imports, Space, Funcs, Globals, imports_in, defined_in}
use Rattle.pair_spec.specs.Chains.{ChainEnd, Defined, HostImport, end_of}
use Rattle.pair_spec.specs.Numbers.{count_in, no_number, number_at, number_of, numbers_in, side_instance, types_before}
use Rattle.pair_spec.specs.Linked.{constant_by, linked, linked_constant, linked_data, linked_elem, linked_export, linked_export_kind, linked_func, linked_global, linked_import, linked_import_kind, side_prefix}
use Rattle.pair_spec.specs.Faults.{is_one_const}
use Rattle.pair_laws.specs.Laws.{AreLinkable}
use Rattle.pair_laws.specs.LinkedLaws.{HaveFewItems, LinkedAreEncodable}
use Rattle.instance_laws.proofs.WidenedEncodable.{mapped_all, replay_form}
use Rattle.pair_laws.proofs.Lists.{filtered_all}
use Rattle.pair_laws.proofs.Chains.{HasValue}
use Rattle.pair_laws.proofs.Constants.{constant_becomes, number_low, valid_side}
use Rattle.pair_laws.proofs.LinkedItems.{items_counted, linked_counted}
use Rattle.pair_laws.proofs.LinkedSpaces.{func_space, global_space, funcs_whole, globals_whole, index_linked, global_linked, kept, types_of_side}

-- what holds of all items of two lists, or in two ways of all items
both_ways : {X : Type 0} (P Q : X → Type 0) (xs : List X) → AllByRecursion P xs → AllByRecursion Q xs
    → AllByRecursion (λ x. P x × Q x) xs
both_ways P Q [] first second = tt
both_ways P Q (x ∷ xs) first second = ((first.0, second.0), both_ways P Q xs first.1 second.1)

-- ---- names

prefix_text : (side : Side) → IsUtf8 (side_prefix side)
prefix_text Left = IsUtf8-from_ascii (codes "left.") (each_ascii (codes "left.") refl)
prefix_text Right = IsUtf8-from_ascii (codes "right.") (each_ascii (codes "right.") refl)

-- ---- numbers

past_index : {X : Type 0} (xs : List X) (x : ℕ) (d : X) → length xs ≤ x → slice_index_or xs x d ≡ d
past_index [] x d past = refl
past_index (y ∷ xs) zero d past = absurd (omega (arith, past))
past_index (y ∷ xs) (suc x) d past = past_index xs x d (omega (arith, past))

number_past : (pair : ModulePair) (space : Space) (side : Side) (x : ℕ)
    → length (imports_in space (module_of pair side)) + defined_in space (module_of pair side) ≤ x
    → number_at (numbers_in pair space side) x ≡ no_number
number_past pair space side x past =
    let count = length (imports_in space (module_of pair side)) + defined_in space (module_of pair side) in
    let long = length-map (count_from 0 count)
    (λ index. option_map_or (number_of pair space) (end_of pair space side index) no_number) in
    let counts = counted 0 count in
    past_index (numbers_in pair space side) x no_number (omega (arith, past, long, counts))

-- the number of an index is below the count of its space
module _ (pair : ModulePair) (linkable : AreLinkable pair) (side : Side) where
  pub func_low : (x : ℕ) → x < length (func_indices (module_of pair side))
      → (side_instance pair side).funcs x < count_in pair Funcs
  func_low x low =
      let found = item_there (func_indices (module_of pair side)) x low in
      let own = index_linked pair linkable.no_fault side x found.0 found.1 in
      let within =
      slice_get_within (func_indices (linked pair)) ((side_instance pair side).funcs x) (types_of_side pair own.0 own.1) own.2 in
      let same = ap length (funcs_whole pair) in
      let long = linked_counted ℕ Funcs func_space pair (types_of_side pair) in omega (arith, within, same, long)

  pub global_low : (x : ℕ) → x < length (all_globals (module_of pair side))
      → (side_instance pair side).globals x < count_in pair Globals
  global_low x low =
      let found = item_there (all_globals (module_of pair side)) x low in
      let own = global_linked pair linkable.no_fault side x found.0 found.1 in
      let within = slice_get_within (all_globals (linked pair)) ((side_instance pair side).globals x) found.0 own in
      let same = ap length (globals_whole pair) in
      let long = linked_counted GlobalType Globals global_space pair kept in omega (arith, within, same, long)

module _ (pair : ModulePair) (linkable : AreLinkable pair) (few : HaveFewItems pair) where
  abbrev whole : Module
  whole = linked pair

  no_number_fits : (n : ℕ) → n ≡ no_number → FitsU32 n
  no_number_fits n is = omega (arith, is)

  func_fits : (side : Side) (x : ℕ) → FitsU32 ((side_instance pair side).funcs x)
  func_fits side x = elim (cases_lt x (length (func_indices (module_of pair side)))) [
    | inl low ↦ let below = func_low pair linkable side x low in let most = few.funcs in omega (arith, below, most)
    | inr past ↦
        let long = items_counted ℕ Funcs func_space (module_of pair side) in
        no_number_fits ((side_instance pair side).funcs x) (number_past pair Funcs side x (omega (arith, past, long)))
  ]

  global_fits : (side : Side) (x : ℕ) → FitsU32 ((side_instance pair side).globals x)
  global_fits side x = elim (cases_lt x (length (all_globals (module_of pair side)))) [
    | inl low ↦ let below = global_low pair linkable side x low in let most = few.globals in omega (arith, below, most)
    | inr past ↦
        let long = items_counted GlobalType Globals global_space (module_of pair side) in
        no_number_fits ((side_instance pair side).globals x) (number_past pair Globals side x (omega (arith, past, long)))
  ]

  type_fits : (side : Side) (t : ℕ) → FitsU32 ((side_instance pair side).types t)
  type_fits side t = let capped : moved_up (types_before pair side) t < 2 ^ 32 = omega arith in capped

  -- ---- one form

  module _ (form : Form) (left : IsEncodable form pair.left) (right : IsEncodable form pair.right) where
    fits_side : (side : Side) → IsEncodable form (module_of pair side)
    fits_side Left = left
    fits_side Right = right

    -- one constant is the body of a global
    init_fits : (globals : List Global) (k : ℕ) → AllByRecursion (FitsGlobal form) globals
        → is_one_const (option_map_or (λ (g : Global). g.init) (slice_get globals k) []) ≡ true
        → FitsBody form (option_map_or (λ (g : Global). g.init) (slice_get globals k) [])
    init_fits [] k fits one = cc
    init_fits (g ∷ globals) zero fits one = fits.0.1
    init_fits (g ∷ globals) (suc k) fits one = init_fits globals k fits.1 one

    end_fits : (body : List Instr) (e : ChainEnd) → HasValue pair e → FitsBody form (constant_by pair body (Some e))
    end_fits body (Defined s y) value =
        let m = module_of pair s in
        init_fits m.globals (y - length (imports_in Globals m)) (fits_side s).globals value
    end_fits body (HostImport s y) host =
        let n = number_of pair Globals (HostImport s y) in
        let low = number_low pair s y host in
        let most = few.globals in
        record {
          instructions = (omega (arith, low, most), (tt, tt));
          nest = Plain (GlobalGet n) Empty;
          is_body = record { nested = (refl, tt); written = refl };
        }

    module _ (side : Side) where
      abbrev m : Module
      m = module_of pair side

      abbrev i : Instance
      i = side_instance pair side

      valid : IsValid m
      valid = valid_side pair linkable side

      own_fits : IsEncodable form m
      own_fits = fits_side side

      -- ---- constant expressions

      constant_fits : (ty : ValType) (body : List Instr) → IsConstant m ty body → FitsBody form body
          → FitsBody form (linked_constant pair side body)
      constant_fits =
          constant_becomes pair linkable side (λ before after. FitsBody form before → FitsBody form after)
          (λ value fits. fits) (λ x e value fits. end_fits (GlobalGet x ∷ End ∷ []) e value)

      -- ---- parts

      instr_fits : (instr : Instr) → FitsInstr form instr → FitsInstr form (resolved_instr i instr)
      instr_fits (Call func) fits = func_fits side func
      instr_fits (CallIndirect ty) fits = type_fits side ty
      instr_fits (GlobalGet global) fits = global_fits side global
      instr_fits (GlobalSet global) fits = global_fits side global
      instr_fits (RefFunc func) fits = (fits.0, func_fits side func)
      instr_fits instr fits = fits

      body_fits : (body : List Instr) → FitsBody form body → FitsBody form (map (resolved_instr i) body)
      body_fits body fits =
          record {
            instructions = mapped_all (FitsInstr form) (FitsInstr form) (resolved_instr i) instr_fits body fits.instructions;
            nest = renamed_nest i fits.nest;
            is_body = body_kept i fits.nest body fits.is_body;
          }

      declared_fits : (f : Func) → FitsFunc form f → FitsFunc form (linked_func i f)
      declared_fits f fits = (type_fits side f.ty, fits.1, body_fits f.body fits.2)

      import_kind_fits : (kind : ImportKind) → FitsImportKind kind → FitsImportKind (linked_import_kind i kind)
      import_kind_fits (imports.Func ty) fits = type_fits side ty
      import_kind_fits (imports.Table limits) fits = fits
      import_kind_fits (imports.Memory limits) fits = fits
      import_kind_fits (imports.Global ty) fits = fits

      kind_fits : (kind : ExportKind) → FitsExportKind kind → FitsExportKind (linked_export_kind i kind)
      kind_fits (exports.Func x) fits = func_fits side x
      kind_fits (exports.Table x) fits = omega arith
      kind_fits (exports.Memory x) fits = omega arith
      kind_fits (exports.Global x) fits = global_fits side x

      funcs_fit : (funcs : List ℕ) → AllByRecursion FitsU32 (map i.funcs funcs)
      funcs_fit [] = tt
      funcs_fit (f ∷ funcs) = (func_fits side f, funcs_fit funcs)

      elem_fits : (f : Form) (e : ElemSeg) → f ≡ form → FitsElemSeg f e × IsElem m e → FitsElemSeg f (linked_elem pair side e)
      elem_fits forms.Core (Active table offset funcs) is h =
          let body = constant_fits I32 offset h.1.1 (subst (λ g. FitsBody g offset) is h.0.1) in
          (h.0.0, subst (λ g. FitsBody g (linked_constant pair side offset)) (sym is) body, funcs_fit funcs)
      elem_fits forms.Core (Declared funcs) is h = h.0
      elem_fits forms.Replay (Active table offset funcs) is h =
          let body = constant_fits I32 offset h.1.1 (subst (λ g. FitsBody g offset) is h.0.1) in
          (h.0.0, subst (λ g. FitsBody g (linked_constant pair side offset)) (sym is) body, funcs_fit funcs)
      elem_fits forms.Replay (Declared funcs) is h = funcs_fit funcs

      -- the parts of a side in the linked module
      pub record AreSideParts : Type 0 where
        pub imports : AllByRecursion FitsImport (map (linked_import i) (host_imports side m.imports))
        pub funcs : AllByRecursion (FitsFunc form) (map (linked_func i) m.funcs)
        pub globals : AllByRecursion (FitsGlobal form) (map (linked_global pair side) m.globals)
        pub exports : AllByRecursion FitsExport (map (linked_export pair side) m.exports)
        pub elems : AllByRecursion (FitsElemSeg form) (map (linked_elem pair side) m.elems)
        pub datas : AllByRecursion (FitsDataSeg form) (map (linked_data pair side) m.datas)

      side_parts : AreSideParts
      side_parts =
          let globals = recursion_from_All (IsGlobal m) m.globals valid.outside.globals in
          let elems = recursion_from_All (IsElem m) m.elems valid.outside.elems in
          let datas = recursion_from_All (IsData m) m.datas valid.outside.datas in
          record {
            imports =
                mapped_all FitsImport FitsImport (linked_import i)
                (λ x fit. (fit.0, fit.1, import_kind_fits x.kind fit.2)) (host_imports side m.imports)
                (filtered_all FitsImport (λ x. not (is_from_other side x)) m.imports own_fits.imports);
            funcs = mapped_all (FitsFunc form) (FitsFunc form) (linked_func i) declared_fits m.funcs own_fits.funcs;
            globals =
                mapped_all (λ (g : Global). FitsGlobal form g × IsGlobal m g) (FitsGlobal form) (linked_global pair side)
                (λ g h. (h.0.0, constant_fits g.ty.ty g.init h.1.init h.0.1)) m.globals
                (both_ways (FitsGlobal form) (IsGlobal m) m.globals own_fits.globals globals);
            exports =
                mapped_all FitsExport FitsExport (linked_export pair side)
                (λ e fit. (IsUtf8-append (side_prefix side) e.name (prefix_text side) fit.0, kind_fits e.kind fit.1))
                m.exports own_fits.exports;
            elems =
                mapped_all (λ (e : ElemSeg). FitsElemSeg form e × IsElem m e) (FitsElemSeg form) (linked_elem pair side)
                (λ e h. elem_fits form e refl h) m.elems
                (both_ways (FitsElemSeg form) (IsElem m) m.elems own_fits.elems elems);
            datas =
                mapped_all (λ (d : DataSeg). FitsDataSeg form d × IsData m d) (FitsDataSeg form) (linked_data pair side)
                (λ d h. (h.0.0, constant_fits I32 d.offset h.1.offset h.0.1)) m.datas
                (both_ways (FitsDataSeg form) (IsData m) m.datas own_fits.datas datas);
          }

    -- ---- the module

    start_fits : (first second : Option ℕ)
        → IfSome (option_or (option_map (i Left).funcs first) (option_map (i Right).funcs second)) FitsU32
    start_fits (Some f) second = func_fits Left f
    start_fits None (Some f) = func_fits Right f
    start_fits None None = tt

    pub whole_fits : IsEncodable form whole
    whole_fits =
        let l = side_parts Left in
        let r = side_parts Right in
        record {
          types = joined_all FitsFuncType pair.left.types pair.right.types left.types right.types;
          imports = joined_all FitsImport _ _ l.imports r.imports;
          funcs = joined_all (FitsFunc form) _ _ l.funcs r.funcs;
          tables = joined_all FitsLimits pair.left.tables pair.right.tables left.tables right.tables;
          memories = joined_all FitsLimits pair.left.memories pair.right.memories left.memories right.memories;
          globals = joined_all (FitsGlobal form) _ _ l.globals r.globals;
          exports = joined_all FitsExport _ _ l.exports r.exports;
          start = start_fits pair.left.start pair.right.start;
          elems = joined_all (FitsElemSeg form) _ _ l.elems r.elems;
          datas = joined_all (FitsDataSeg form) _ _ l.datas r.datas;
          customs = tt;
        }

-- ---- both forms

pub linked_are_encodable : CoreIsInReplay → LinkedAreEncodable
linked_are_encodable in_replay =
    record {
      same_form = λ form pair linkable few left right. whole_fits pair linkable few form left right;
      core_form = λ pair linkable few left right.
          whole_fits pair linkable few forms.Replay (replay_form in_replay pair.left linkable.left left)
          (replay_form in_replay pair.right linkable.right right);
    }
