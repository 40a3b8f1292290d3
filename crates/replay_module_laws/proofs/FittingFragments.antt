-- The replay module of a generated part that fits the module is valid, for each supply that matches the imports.
use Rattle.std.proofs.Common.{◌≡◌, ℕ, zero, suc, ◌+◌, ◌<◌, ◌≤◌, List, [], ◌∷◌, ◌++◌, length, Option, Some, None, true, refl, sym, ap, ◌∙◌, subst, arith, length-append}
use Rattle.std.specs.Prelude.{◌&&◌, filter_map, flat_map, get_or, map, nat_eq, nat_lt, option_and_then, option_to_list, reverse, slice_get}
use Rattle.std.specs.List.{AllByRecursion, AllZip, Contains, list_any, zip}
use Rattle.std.proofs.lemmas.Bool.Decides.{nat_tests}
use Rattle.std.proofs.lemmas.List.{append_assoc, length-map, map-append}
use Rattle.std.proofs.lemmas.List.Elements.{All-append, All-contains, All-from_recursion, All-weaker, Contains-get_or, recursion_from_All}
use Rattle.std.proofs.lemmas.Option.{none-some, slice_get_within}
use Rattle.base.proofs.Booleans.{and_true}
use Rattle.base.proofs.Lists.{get_after_by, get_front, joined_all}
use Rattle.wasm_syntax.specs.declared.signatures.FuncType.{FuncType}
use Rattle.wasm_syntax.specs.declared.signatures.GlobalType.{GlobalType}
use Rattle.wasm_syntax.specs.declared.signatures.Limits.{Limits}
use Rattle.wasm_syntax.specs.declared.instructions.Instr.{Instr}
use Rattle.wasm_syntax.specs.declared.instructions.Instr.TheVariants.{Const, GlobalGet}
use Rattle.wasm_syntax.specs.declared.modules.ElemSeg.{ElemSeg}
use Rattle.wasm_syntax.specs.declared.modules.ElemSeg.TheVariants.{Active, Declared}
use Rattle.wasm_syntax.specs.declared.modules.Export.{Export}
use Rattle.wasm_syntax.specs.declared.modules.Func.{Func}
use Rattle.wasm_syntax.specs.declared.modules.Global.{Global}
use Rattle.wasm_syntax.specs.declared.modules.Module.{Module}
use Rattle.wasm_syntax.specs.Index.{all_globals, all_memories, all_tables, func_import, func_indices, imported_funcs, imported_globals, memory_import, of_kind, table_import, type_at}
use Rattle.wasm_syntax.specs.Nest.{flat}
use Rattle.wasm_syntax.specs.Validity.{IsDeclaredFunc, IsFuncType, IsGlobal, IsTypedFunc, IsValid, body_context, constant_type, declared_funcs, elem_funcs, exported_func, single}
use Rattle.host_script.specs.declared.scripts.Supply.{Supply}
use Rattle.history_spec.specs.Code.{zero_of}
use Rattle.history_spec.specs.Instantiation.{limits_of}
use Rattle.type_safety.specs.Supplies.{IsSupply}
use Rattle.wasm_syntax.proofs.JoinedLists.{both_parts}
use Rattle.type_safety.proofs.Wider.{IsKnown}
use Rattle.replay_module_spec.specs.declared.fragments.Fragment.{Fragment}
use Rattle.replay_module_spec.specs.Fits.{FitsModule, HasImportType, IsAppendedType, IsGeneratedFunc, declared_supply, unsupplied_module}
use Rattle.replay_module_spec.specs.Fragments.{referred_funcs, start_index}
use Rattle.replay_module_spec.specs.Merge.{constant_elem, constant_global, declaration, memory_written, replay_module, supplied_global}
use Rattle.replay_module_laws.specs.Laws.{StatesMaximum}
use Rattle.replay_module_laws.specs.Standing.{KeepsOriginals}
use Rattle.replay_module_laws.proofs.Declarations.{any_contains, contains_any, declared_in}
use Rattle.replay_module_laws.proofs.Functions.{functions}
use Rattle.replay_module_laws.proofs.Originals.{Extends, typed_known}
use Rattle.replay_module_laws.proofs.Outside.{mapped_length}
use Rattle.replay_module_laws.proofs.References.{AllRefer, FuncsRefer, funcs_refer, refer_more, referred_below}
use Rattle.replay_module_laws.proofs.TypedOriginals.{constant_types, globals_of, kept_typed, memories_of, tables_of, there_alike}
use Rattle.replay_module_laws.proofs.ValidOutside.{HasValidParts, valid_parts}

-- ---- the module with each import as it is declared

zeros_types : (types : List GlobalType)
    → map (λ (g : Global). g.ty) (map supplied_global (zip types (map (λ (g : GlobalType). zero_of g.ty) types))) ≡ types
zeros_types [] = refl
zeros_types (ty ∷ types) = ap (λ l. ty ∷ l) (zeros_types types)

declared_limits : (imports defined : List Limits) → length (imports ++ defined) ≤ 1
    → length (imports ++ defined) ≡ length (option_to_list (limits_of imports (slice_get imports 0) defined))
declared_limits [] [] one = refl
declared_limits [] (own ∷ more) one = omega (arith, one)
declared_limits (wanted ∷ imports) defined one = omega (arith, one)

-- the segments of an element name the same functions, whatever the imported values
same_funcs : (one other : Supply) (elems : List ElemSeg) (more : List ElemSeg)
    → flat_map elem_funcs (map (constant_elem one.globals) elems ++ more)
    ≡ flat_map elem_funcs (map (constant_elem other.globals) elems ++ more)
same_funcs one other [] more = refl
same_funcs one other (Active table offset funcs ∷ elems) more =
    ap (λ l. funcs ++ l) (same_funcs one other elems more)
same_funcs one other (Declared funcs ∷ elems) more = ap (λ l. funcs ++ l) (same_funcs one other elems more)

all_zip_length : {X Y : Type 0} (R : X → Y → Type 0) (xs : List X) (ys : List Y) → AllZip R xs ys
    → length ys ≡ length xs
all_zip_length R [] [] h = refl
all_zip_length R [] (y ∷ ys) h = absurd h
all_zip_length R (x ∷ xs) [] h = absurd h
all_zip_length R (x ∷ xs) (y ∷ ys) h = ap suc (all_zip_length R xs ys h.1)

module _ (m : Module) (fragment : Fragment) (valid : IsValid m) (fits : FitsModule m fragment) where
  abbrev unsupplied : Module
  unsupplied = unsupplied_module m fragment

  unsupplied_globals : all_globals unsupplied ≡ all_globals m ++ map (λ (g : Global). g.ty) fragment.globals
  unsupplied_globals =
      let supply = declared_supply m in
      let imported = map supplied_global (zip (imported_globals m) supply.globals) in
      let kept = map (constant_global supply.globals) m.globals in
      map-append (λ (g : Global). g.ty) imported (kept ++ fragment.globals)
      ∙ ap (λ l. map (λ (g : Global). g.ty) imported ++ l) (map-append (λ (g : Global). g.ty) kept fragment.globals)
      ∙ ap (λ l. l ++ (map (λ (g : Global). g.ty) kept ++ map (λ (g : Global). g.ty) fragment.globals))
      (zeros_types (imported_globals m))
      ∙ ap (λ l. imported_globals m ++ (l ++ map (λ (g : Global). g.ty) fragment.globals))
      (constant_types supply.globals m.globals)
      ∙ sym (append_assoc (imported_globals m) (map (λ (g : Global). g.ty) m.globals)
      (map (λ (g : Global). g.ty) fragment.globals))

  unsupplied_tables : length (all_tables m) ≡ length (all_tables unsupplied)
  unsupplied_tables = declared_limits (of_kind table_import m.imports) m.tables valid.outside.one_table

  unsupplied_memories : length (all_memories m) ≡ length (all_memories unsupplied)
  unsupplied_memories =
      declared_limits (of_kind memory_import m.imports) m.memories valid.outside.one_memory
      ∙ sym (mapped_length memory_written
      (limits_of (of_kind memory_import m.imports) (slice_get (of_kind memory_import m.imports) 0) m.memories))

  -- ---- functions

  bodies_length : length fragment.bodies ≡ imported_funcs m
  bodies_length = all_zip_length (HasImportType m fragment) (of_kind func_import m.imports) fragment.bodies fits.bodies

  functions_length : length (func_indices unsupplied) ≡ start_index m + length fragment.helpers
  functions_length =
      let index = length-map (fragment.bodies ++ (m.funcs ++ fragment.helpers)) (λ (f : Func). f.ty) in
      let parts = length-append fragment.bodies (m.funcs ++ fragment.helpers) in
      let rest = length-append m.funcs fragment.helpers in
      let long = bodies_length in
      let all = functions m in
      omega (arith, index, parts, rest, long, all)

  type_kept : (t : ℕ) (ty : FuncType) → type_at m t ≡ Some ty → type_at unsupplied t ≡ Some ty
  type_kept t ty h = get_front m.types fragment.types t (slice_get_within m.types t ty h) ∙ h

  own_signature : (own more : List Func) (f : ℕ) (ty : FuncType)
      → option_and_then (type_at m) (slice_get (map (λ (f : Func). f.ty) own) f) ≡ Some ty
      → option_and_then (type_at unsupplied) (slice_get (map (λ (f : Func). f.ty) (own ++ more)) f) ≡ Some ty
  own_signature [] more f ty h = absurd (none-some ty h)
  own_signature (func ∷ own) more zero ty h = type_kept func.ty ty h
  own_signature (func ∷ own) more (suc f) ty h = own_signature own more f ty h

  signature_kept : (imports : List ℕ) (bodies own more : List Func) → AllZip (HasImportType m fragment) imports bodies
      → (f : ℕ) (ty : FuncType)
      → option_and_then (type_at m) (slice_get (imports ++ map (λ (f : Func). f.ty) own) f) ≡ Some ty
      → option_and_then (type_at unsupplied) (slice_get (map (λ (f : Func). f.ty) (bodies ++ (own ++ more))) f) ≡ Some ty
  signature_kept [] [] own more zip f ty h = own_signature own more f ty h
  signature_kept [] (body ∷ bodies) own more zip f ty h = absurd zip
  signature_kept (import ∷ imports) [] own more zip f ty h = absurd zip
  signature_kept (import ∷ imports) (body ∷ bodies) own more zip zero ty h =
      zip.0.of_body ∙ sym zip.0.of_import ∙ h
  signature_kept (import ∷ imports) (body ∷ bodies) own more zip (suc f) ty h =
      signature_kept imports bodies own more zip.1 f ty h

  generated : AllByRecursion (IsGeneratedFunc m fragment) (fragment.bodies ++ fragment.helpers)
  generated = recursion_from_All (IsGeneratedFunc m fragment) (fragment.bodies ++ fragment.helpers) fits.generated

  -- ---- functions to which bodies refer

  all_refer : FuncsRefer (length (func_indices unsupplied)) (fragment.bodies ++ (m.funcs ++ fragment.helpers))
  all_refer =
      let count = length (func_indices unsupplied) in
      let long = functions_length in
      let typed = typed_of (fragment.bodies ++ fragment.helpers) generated in
      let own = refer_more (start_index m) count m.funcs (omega (arith, long))
      (funcs_refer m m.funcs (recursion_from_All (IsTypedFunc m) m.funcs valid.bodies)) in
      between fragment.bodies m.funcs fragment.helpers (funcs_refer unsupplied (fragment.bodies ++ fragment.helpers) typed) own
    where
      typed_of : (funcs : List Func) → AllByRecursion (IsGeneratedFunc m fragment) funcs
          → AllByRecursion (IsTypedFunc unsupplied) funcs
      typed_of [] all = tt
      typed_of (func ∷ funcs) all = (all.0.typed, typed_of funcs all.1)

      between : (xs ys zs : List Func) → FuncsRefer (length (func_indices unsupplied)) (xs ++ zs)
          → FuncsRefer (length (func_indices unsupplied)) ys
          → FuncsRefer (length (func_indices unsupplied)) (xs ++ (ys ++ zs))
      between [] ys zs outer inner =
          joined_all (λ (func : Func). AllRefer (length (func_indices unsupplied)) func.body) ys zs inner outer
      between (x ∷ xs) ys zs outer inner = (outer.0, between xs ys zs outer.1 inner)

  declared_exist : (func : ℕ) → Contains fragment.declared func → func < length (func_indices unsupplied)
  declared_exist func there =
      let funcs = fragment.bodies ++ (m.funcs ++ fragment.helpers) in
      let count = length (func_indices unsupplied) in
      All-contains (λ f. f < count) (referred_funcs funcs) func
      (All-from_recursion (λ f. f < count) (referred_funcs funcs) (referred_below count funcs all_refer))
      ((fits.declared func).0 there)

-- ---- the module with a supply

module _ (m : Module) (supply : Supply) (fragment : Fragment) (valid : IsValid m) (supplied : IsSupply m supply)
    (fits : FitsModule m fragment) where
  abbrev merged : Module
  merged = replay_module m supply fragment

  abbrev before : Module
  before = unsupplied_module m fragment

  pub fitting_kept : KeepsOriginals m merged
  fitting_kept =
      record {
        types = type_kept m fragment valid fits;
        signatures =
            signature_kept m fragment valid fits (of_kind func_import m.imports) fragment.bodies m.funcs fragment.helpers
            fits.bodies;
        funcs = λ place func found.
            let long = bodies_length m fragment valid fits in
            get_after_by fragment.bodies (m.funcs ++ fragment.helpers) (imported_funcs m + place) place
            (omega (arith, long))
            ∙ get_front m.funcs fragment.helpers place (slice_get_within m.funcs place func found) ∙ found;
      }

  declares : (func : ℕ) → func < start_index m → list_any (nat_eq func) (referred_funcs merged.funcs) ≡ true
      → (nat_lt func (length (func_indices merged)) && list_any (nat_eq func) (declared_funcs merged)) ≡ true
  declares func small referred =
      let long = functions_length m fragment valid fits in
      let within : func < length (func_indices merged) = omega (arith, small, long) in
      let there = (fits.declared func).1 (any_contains func (referred_funcs merged.funcs) referred) in
      and_true (nat_lt func (length (func_indices merged))) _ (grind (arith, nat_tests, within))
      (declared_in func fragment.declared (map (constant_elem supply.globals) m.elems)
      (filter_map (λ (e : Export). exported_func e.kind) merged.exports)
      (contains_any func fragment.declared there.0 there.1 there.2))

  -- ---- generated functions

  extends : (ty : FuncType) (f : Func) → Extends (body_context before ty f) (body_context merged ty f)
  extends ty f =
      record {
        types = λ t ty h. h;
        funcs = λ f ty h. h;
        tables = λ x.
            there_alike (all_tables before) (all_tables merged) x
            (sym (unsupplied_tables m fragment valid fits) ∙ tables_of m supply fragment valid supplied);
        memory =
            there_alike (all_memories before) (all_memories merged) 0
            (sym (unsupplied_memories m fragment valid fits) ∙ memories_of m supply fragment valid supplied);
        globals = λ x g h.
            ap (λ l. slice_get l x)
            (globals_of m supply fragment valid supplied ∙ sym (unsupplied_globals m fragment valid fits))
            ∙ h;
        locals = λ x t h. h;
        labels = λ l x h. h;
        results = refl;
      }

  known : (ty : FuncType) (f : Func) (code : List Instr)
      → AllByRecursion (IsKnown (body_context before ty f) (body_context merged ty f)) code
  known ty f [] = tt
  known ty f (i ∷ code) = (
    (λ func e is.
        subst (λ l. (nat_lt func (length (func_indices before)) && list_any (nat_eq func) l) ≡ true)
        (ap (λ l. l ++ filter_map (λ (e : Export). exported_func e.kind) merged.exports)
        (same_funcs (declared_supply m) supply m.elems (declaration fragment.declared))) is),
    known ty f code,
  )

  generated_typed : (funcs : List Func) → AllByRecursion (IsGeneratedFunc m fragment) funcs
      → AllByRecursion (IsTypedFunc merged) funcs
  generated_typed [] all = tt
  generated_typed (f ∷ funcs) all =
      let t = all.0.typed in (
        record {
          ty = t.ty;
          nest = t.nest;
          has_type = t.has_type;
          is_body = t.is_body;
          typed =
              typed_known t.nest (body_context before t.ty f) (body_context merged t.ty f) [] (reverse t.ty.results)
              (extends t.ty f) (known t.ty f (flat t.nest)) t.typed;
        },
        generated_typed funcs all.1,
      )

  generated_declared : (funcs : List Func) → AllByRecursion (IsGeneratedFunc m fragment) funcs
      → AllByRecursion (IsDeclaredFunc merged) funcs
  generated_declared [] all = tt
  generated_declared (f ∷ funcs) all = (
    record { type_there = all.0.declared.type_there; locals = all.0.declared.locals },
    generated_declared funcs all.1,
  )

  -- ---- globals

  constant_same : (i : Instr) → constant_type before i ≡ constant_type merged i
  constant_same (Const value) = refl
  constant_same (GlobalGet x) = refl
  constant_same i = refl

  global_same : (g : Global) → IsGlobal before g → IsGlobal merged g
  global_same g is = record { number = is.number; init = by (single g.init) is.init }
    where
      by : (o : Option Instr) → option_and_then (constant_type before) o ≡ Some g.ty.ty
          → option_and_then (constant_type merged) o ≡ Some g.ty.ty
      by None h = h
      by (Some i) h = sym (constant_same i) ∙ h

  -- ---- the whole module

  appended_valid : (types : List FuncType) → AllByRecursion IsAppendedType types → AllByRecursion IsFuncType types
  appended_valid [] all = tt
  appended_valid (ty ∷ types) all = (all.0.valid, appended_valid types all.1)

  parts : HasValidParts m supply fragment
  parts =
      let long = functions_length m fragment valid fits in
      let halves =
      both_parts (IsGeneratedFunc m fragment) fragment.bodies fragment.helpers (generated m fragment valid fits) in
      let place = slice_get_within fragment.helpers fits.start.place fits.start.func fits.start.found in
      let index = fits.start.index in
      record {
        types =
            All-from_recursion IsFuncType fragment.types
            (appended_valid fragment.types (recursion_from_All IsAppendedType fragment.types fits.types));
        bodies =
            All-from_recursion (IsDeclaredFunc merged) fragment.bodies (generated_declared fragment.bodies halves.0);
        helpers =
            All-from_recursion (IsDeclaredFunc merged) fragment.helpers (generated_declared fragment.helpers halves.1);
        globals = All-weaker (IsGlobal before) (IsGlobal merged) global_same fragment.globals fits.globals;
        entry = omega (arith, long, index, place);
        more = omega (arith, long);
        declared = λ k d below.
            declared_exist m fragment valid fits (get_or fragment.declared k d) (Contains-get_or fragment.declared k d below);
      }

  pub fitting_valid : StatesMaximum supply.table → IsValid merged
  fitting_valid stated =
      let halves =
      both_parts (IsGeneratedFunc m fragment) fragment.bodies fragment.helpers (generated m fragment valid fits) in
      record {
        outside = valid_parts m supply fragment valid supplied stated parts;
        bodies =
            All-append (IsTypedFunc merged) fragment.bodies (m.funcs ++ fragment.helpers)
            (All-from_recursion (IsTypedFunc merged) fragment.bodies (generated_typed fragment.bodies halves.0))
            (All-append (IsTypedFunc merged) m.funcs fragment.helpers
            (kept_typed m supply fragment valid supplied fitting_kept declares)
            (All-from_recursion (IsTypedFunc merged) fragment.helpers (generated_typed fragment.helpers halves.1)));
      }
