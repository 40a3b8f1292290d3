-- The functions that names denote in an instrumented module.
use Rattle.std.proofs.Common.{◌≡◌, ℕ, ◌<◌, List, [], ◌∷◌, ◌++◌, map, length, filter, filter_map, find, Option, Some, None, option_map, option_and_then, is_some, Bool, true, false, cond, ◌&&◌, ◌||◌, All, refl, sym, ap, ◌∙◌, subst}
use Rattle.std.specs.List.{AllByRecursion, list_any, cons_option}
use Rattle.std.specs.Str.{bytes_eq}
use Rattle.std.proofs.lemmas.List.{append-nil}
use Rattle.std.proofs.lemmas.List.Elements.{All-append, All-filter, All-from_recursion, All-map, All-weaker, filter-append, recursion_from_All}
use Rattle.std.proofs.lemmas.Slice.Eq.{bytes_eq-Decides}
use Rattle.base.proofs.Lists.{all_at, get_front, item_there}
use Rattle.wasm_syntax.specs.declared.signatures.FuncType.{FuncType}
use Rattle.wasm_syntax.specs.declared.modules.Export.{Export}
use Rattle.wasm_syntax.specs.declared.modules.ExportKind.{ExportKind}
use Rattle.wasm_syntax.specs.declared.modules.ExportKind.TheVariants as exports
use Rattle.wasm_syntax.specs.declared.modules.Func.{Func}
use Rattle.wasm_syntax.specs.declared.modules.Import.{Import}
use Rattle.wasm_syntax.specs.declared.modules.ImportKind.{ImportKind}
use Rattle.wasm_syntax.specs.declared.modules.ImportKind.TheVariants as imports
use Rattle.wasm_syntax.specs.declared.modules.Module.{Module}
use Rattle.wasm_syntax.specs.Index.{func_import, func_indices, func_type, global_import, imported_funcs, of_kind, type_at}
use Rattle.wasm_syntax.specs.Validity.{IsDeclaredFunc, IsImport, IsThere, IsValid}
use Rattle.module_names.specs.Names.{index_in, export_of, exported_func, exported_global, exports_some, func_types_named, import_type, imports_from, imports_named, imports_some, imports_with, is_from, is_kind, is_named}
use Rattle.module_names.specs.declared.index_spaces.Space.{Space}
use Rattle.module_names.specs.declared.index_spaces.Space.TheVariants.{Funcs, Tables, Memories, Globals}
use Rattle.record_replay_spec.specs.declared.hooks.Hook.{Hook}
use Rattle.record_replay_spec.specs.Hooks.{hook_module, hooks, renumber}
use Rattle.record_replay_spec.specs.HookedForm.{is_from_hooks}
use Rattle.record_replay_spec.specs.Instrumented.{hook_import, hook_types, instrumented_module, renumbered_export, renumbered_kind}
use Rattle.hooked_texts.specs.Laws.{ImportsNoHooks}

-- ---- lists

any_front : {X : Type 0} (test : X → Bool) (xs ys : List X) → list_any test ys ≡ false
    → list_any test (xs ++ ys) ≡ list_any test xs
any_front test [] ys none = none
any_front test (x ∷ xs) ys none = ap (λ b. test x || b) (any_front test xs ys none)

any_mapped : {X : Type 0} (test : X → Bool) (f : X → X) → ((x : X) → test (f x) ≡ test x) → (xs : List X)
    → list_any test (map f xs) ≡ list_any test xs
any_mapped test f same [] = refl
any_mapped test f same (x ∷ xs) = (λ i. same x i || any_mapped test f same xs i)

-- if no item passes a test, no kept item does
none_kept : {X : Type 0} (test keep : X → Bool) (xs : List X) → filter test xs ≡ [] → list_any test (filter keep xs) ≡ false
none_kept test keep [] none = refl
none_kept {X} test keep (x ∷ xs) none = by (test x) refl (keep x) (λ h. none_kept test keep xs h) none
  where
    by : (t : Bool) → test x ≡ t → (k : Bool) → (filter test xs ≡ [] → list_any test (filter keep xs) ≡ false)
        → cond t (x ∷ filter test xs) (filter test xs) ≡ []
        → list_any test (cond k (x ∷ filter keep xs) (filter keep xs)) ≡ false
    by true e k later h = cc
    by false e true later h = ap (λ b. b || list_any test (filter keep xs)) e ∙ later h
    by false e false later h = later h

-- each item of a list fails the test, if no item passes it
pub each_fails : {X : Type 0} (test : X → Bool) (xs : List X) → filter test xs ≡ [] → AllByRecursion (λ x. test x ≡ false) xs
each_fails test [] none = tt
each_fails {X} test (x ∷ xs) none = by (test x) refl (λ h. each_fails test xs h) none
  where
    by : (t : Bool) → test x ≡ t → (filter test xs ≡ [] → AllByRecursion (λ x. test x ≡ false) xs)
        → cond t (x ∷ filter test xs) (filter test xs) ≡ [] → (test x ≡ false) × AllByRecursion (λ x. test x ≡ false) xs
    by true e later h = cc
    by false e later h = (e, later h)

-- an item that is found is one of the list
find_holds : {X : Type 0} (P : X → Type 0) (test : X → Bool) (xs : List X) (x : X) → AllByRecursion P xs
    → find test xs ≡ Some x → P x
find_holds P test [] x all is = cc
find_holds {X} P test (y ∷ xs) x all is = by (test y) (λ h. find_holds P test xs x all.1 h) is
  where
    by : (t : Bool) → (find test xs ≡ Some x → P x) → cond t (Some y) (find test xs) ≡ Some x → P x
    by true later h = let same : y ≡ x = cc h in subst P same all.0
    by false later h = later h

-- names that differ, with the operands exchanged
pub differ : (a b : List ℕ) → bytes_eq a b ≡ false → bytes_eq b a ≡ false
differ a b h = by (bytes_eq b a) refl
  where
    by : (t : Bool) → bytes_eq b a ≡ t → bytes_eq b a ≡ false
    by true e =
        let same : b ≡ a = (bytes_eq-Decides b a).0 e in
        let own : bytes_eq a b ≡ true = (bytes_eq-Decides a b).1 (sym same) in cc
    by false e = e

-- ---- exports

module _ (n : ℕ) where
  find_renumbered : (test : List ℕ → Bool) (list : List Export)
      → find (λ (e : Export). test e.name) (map (renumbered_export n) list)
      ≡ option_map (renumbered_export n) (find (λ (e : Export). test e.name) list)
  find_renumbered test [] = refl
  find_renumbered test (e ∷ list) = by (test e.name) (find_renumbered test list)
    where
      by : (t : Bool)
          → find (λ (x : Export). test x.name) (map (renumbered_export n) list)
          ≡ option_map (renumbered_export n) (find (λ (x : Export). test x.name) list)
          → cond t (Some (renumbered_export n e)) (find (λ (x : Export). test x.name) (map (renumbered_export n) list))
          ≡ option_map (renumbered_export n) (cond t (Some e) (find (λ (x : Export). test x.name) list))
      by true later = refl
      by false later = later

  some_exported : (pick : ExportKind → Option ℕ) → ((kind : ExportKind) → is_some (pick (renumbered_kind n kind)) ≡ is_some (pick kind))
      → (list : List Export) → list_any (λ (e : Export). is_some (pick e.kind)) (map (renumbered_export n) list)
      ≡ list_any (λ (e : Export). is_some (pick e.kind)) list
  some_exported pick same list = any_mapped (λ (e : Export). is_some (pick e.kind)) (renumbered_export n) (λ e. same e.kind) list

module _ (m : Module) (digest : List ℕ) where
  abbrev hooked : Module
  hooked = instrumented_module m digest

  abbrev n : ℕ
  n = imported_funcs m

  kind_of : (o : Option Export) → option_map (λ (e : Export). e.kind) (option_map (renumbered_export n) o)
      ≡ option_map (renumbered_kind n) (option_map (λ (e : Export). e.kind) o)
  kind_of None = refl
  kind_of (Some e) = refl

  export_renumbered : (name : List ℕ) → export_of hooked name ≡ option_map (renumbered_kind n) (export_of m name)
  export_renumbered name =
      ap (λ (o : Option Export). option_map (λ (e : Export). e.kind) o)
      (find_renumbered n (λ key. bytes_eq key name) m.exports)
      ∙ kind_of (find (λ (e : Export). bytes_eq e.name name) m.exports)

  pub func_renumbered : (name : List ℕ) → exported_func hooked name ≡ option_map (renumber n) (exported_func m name)
  func_renumbered name = ap (option_and_then (index_in Funcs)) (export_renumbered name) ∙ go (export_of m name)
    where
      go : (o : Option ExportKind) → option_and_then (index_in Funcs) (option_map (renumbered_kind n) o)
          ≡ option_map (renumber n) (option_and_then (index_in Funcs) o)
      go None = refl
      go (Some (exports.Func x)) = refl
      go (Some (exports.Table x)) = refl
      go (Some (exports.Memory x)) = refl
      go (Some (exports.Global x)) = refl

  pub global_kept : (name : List ℕ) → exported_global hooked name ≡ exported_global m name
  global_kept name = ap (option_and_then (index_in Globals)) (export_renumbered name) ∙ go (export_of m name)
    where
      go : (o : Option ExportKind) → option_and_then (index_in Globals) (option_map (renumbered_kind n) o)
          ≡ option_and_then (index_in Globals) o
      go None = refl
      go (Some (exports.Func x)) = refl
      go (Some (exports.Table x)) = refl
      go (Some (exports.Memory x)) = refl
      go (Some (exports.Global x)) = refl

  pub exports_kept : (space : Space) → exports_some space hooked ≡ exports_some space m
  exports_kept space = some_exported n (index_in space) (same space) m.exports
    where
      same : (space : Space) (kind : ExportKind)
          → is_some (index_in space (renumbered_kind n kind)) ≡ is_some (index_in space kind)
      same Funcs (exports.Func x) = refl
      same Tables (exports.Func x) = refl
      same Memories (exports.Func x) = refl
      same Globals (exports.Func x) = refl
      same space (exports.Table x) = refl
      same space (exports.Memory x) = refl
      same space (exports.Global x) = refl

  -- a function that is exported has a type
  pub func_there : IsValid m → (name : List ℕ) (func : ℕ) → exported_func m name ≡ Some func
      → (ty : FuncType) × (func_type m func ≡ Some ty)
  func_there valid name func is = typed (go (find (λ (e : Export). bytes_eq e.name name) m.exports) refl is)
    where
      go : (o : Option Export) → find (λ (e : Export). bytes_eq e.name name) m.exports ≡ o
          → option_and_then (index_in Funcs) (option_map (λ (e : Export). e.kind) o) ≡ Some func
          → func < length (func_indices m)
      go None found h = cc
      go (Some e) found h =
          by e.kind (find_holds (λ (x : Export). IsThere m x.kind) (λ (x : Export). bytes_eq x.name name) m.exports e
          (recursion_from_All (λ (x : Export). IsThere m x.kind) m.exports valid.outside.exports) found) h
        where
          by : (kind : ExportKind) → IsThere m kind → index_in Funcs kind ≡ Some func → func < length (func_indices m)
          by (exports.Func x) there h = let same : x ≡ func = cc h in subst (λ y. y < length (func_indices m)) same there
          by (exports.Table x) there h = cc
          by (exports.Memory x) there h = cc
          by (exports.Global x) there h = cc

      imported : (list : List Import) → AllByRecursion (λ (i : Import). IsImport m i.kind) list
          → AllByRecursion (λ t. t < length m.types) (of_kind func_import list)
      imported [] all = tt
      imported (i ∷ list) all = by i.kind all.0 (imported list all.1)
        where
          by : (kind : ImportKind) → IsImport m kind → AllByRecursion (λ t. t < length m.types) (of_kind func_import list)
              → AllByRecursion (λ t. t < length m.types) (cons_option (func_import kind) (of_kind func_import list))
          by (imports.Func t) own later = (own, later)
          by (imports.Table limits) own later = later
          by (imports.Memory limits) own later = later
          by (imports.Global ty) own later = later

      indices_there : All (λ t. t < length m.types) (func_indices m)
      indices_there =
          All-append (λ t. t < length m.types) (of_kind func_import m.imports) (map (λ (f : Func). f.ty) m.funcs)
          (All-from_recursion (λ t. t < length m.types) (of_kind func_import m.imports)
          (imported m.imports (recursion_from_All (λ (i : Import). IsImport m i.kind) m.imports valid.outside.imports)))
          (All-map (λ t. t < length m.types) (λ (f : Func). f.ty) m.funcs
          (All-weaker (IsDeclaredFunc m) (λ (f : Func). f.ty < length m.types) (λ f h. h.type_there) m.funcs valid.outside.funcs))

      typed : func < length (func_indices m) → (ty : FuncType) × (func_type m func ≡ Some ty)
      typed there =
          let index = item_there (func_indices m) func there in
          let ty = item_there m.types index.0 (all_at (λ t. t < length m.types) (func_indices m) func index.0 indices_there index.1) in
          (ty.0, ap (option_and_then (type_at m)) index.1 ∙ ty.1)

  -- ---- imports

  kept_funcs : imports_with func_import hooked ≡ imports_with func_import m ++ map (hook_import m) hooks
  kept_funcs = filter-append (is_kind func_import) m.imports (map (hook_import m) hooks)

  pub funcs_with_hooks : imports_with func_import hooked ≡ imports_with func_import m ++ map (hook_import m) hooks
  funcs_with_hooks = kept_funcs

  pub globals_imported : imports_with global_import hooked ≡ imports_with global_import m
  globals_imported =
      filter-append (is_kind global_import) m.imports (map (hook_import m) hooks) ∙ append-nil (imports_with global_import m)

  pub imports_kept : {K : Type 0} (pick : ImportKind → Option K)
      → list_any (is_kind pick) (map (hook_import m) hooks) ≡ false → imports_some pick hooked ≡ imports_some pick m
  imports_kept pick none = any_front (is_kind pick) m.imports (map (hook_import m) hooks) none

  -- names other than those of hooks
  module _ (from : List ℕ) (other : bytes_eq hook_module from ≡ false) where
    none_from : (kinds : List Hook) → list_any (is_from from) (map (hook_import m) kinds) ≡ false
    none_from [] = refl
    none_from (kind ∷ kinds) = ap (λ b. b || list_any (is_from from) (map (hook_import m) kinds)) other ∙ none_from kinds

    none_named : (name : List ℕ) (kinds : List Hook) → list_any (is_named from name) (map (hook_import m) kinds) ≡ false
    none_named name [] = refl
    none_named name (kind ∷ kinds) =
        ap (λ b. (b && bytes_eq (hook_import m kind).name name) || list_any (is_named from name) (map (hook_import m) kinds)) other
        ∙ none_named name kinds

    none_of_name : (name : List ℕ) (kinds : List Hook) → filter (is_named from name) (map (hook_import m) kinds) ≡ []
    none_of_name name [] = refl
    none_of_name name (kind ∷ kinds) =
        ap (λ b. cond (b && bytes_eq (hook_import m kind).name name) (hook_import m kind ∷ filter (is_named from name) (map (hook_import m) kinds))
        (filter (is_named from name) (map (hook_import m) kinds))) other
        ∙ none_of_name name kinds

    pub from_kept : imports_from func_import hooked from ≡ imports_from func_import m from
    from_kept =
        ap (list_any (is_from from)) kept_funcs
        ∙ any_front (is_from from) (imports_with func_import m) (map (hook_import m) hooks) (none_from hooks)

    pub named_kept : (name : List ℕ) → imports_named func_import hooked from name ≡ imports_named func_import m from name
    named_kept name =
        ap (list_any (is_named from name)) kept_funcs
        ∙ any_front (is_named from name) (imports_with func_import m) (map (hook_import m) hooks) (none_named name hooks)

    types_same : (list : List Import) → AllByRecursion (λ (i : Import). IsImport m i.kind) list
        → filter_map (import_type hooked) list ≡ filter_map (import_type m) list
    types_same [] all = refl
    types_same (i ∷ list) all =
        (λ j. cons_option (one i.kind all.0 j) (types_same list all.1 j))
      where
        one : (kind : ImportKind) → IsImport m kind
            → option_and_then (type_at hooked) (func_import kind) ≡ option_and_then (type_at m) (func_import kind)
        one (imports.Func t) there = get_front m.types hook_types t there
        one (imports.Table limits) there = refl
        one (imports.Memory limits) there = refl
        one (imports.Global ty) there = refl

    pub types_kept : IsValid m → (name : List ℕ) → func_types_named hooked from name ≡ func_types_named m from name
    types_kept valid name =
        ap (λ (list : List Import). filter_map (import_type hooked) (filter (is_named from name) list)) kept_funcs
        ∙ ap (filter_map (import_type hooked))
        (filter-append (is_named from name) (imports_with func_import m) (map (hook_import m) hooks)
        ∙ ap (λ (list : List Import). filter (is_named from name) (imports_with func_import m) ++ list) (none_of_name name hooks)
        ∙ append-nil (filter (is_named from name) (imports_with func_import m)))
        ∙ types_same (filter (is_named from name) (imports_with func_import m))
        (recursion_from_All (λ (i : Import). IsImport m i.kind) (filter (is_named from name) (imports_with func_import m))
        (All-filter (is_named from name) (λ (i : Import). IsImport m i.kind) (imports_with func_import m)
        (All-filter (is_kind func_import) (λ (i : Import). IsImport m i.kind) m.imports valid.outside.imports)))

  -- ---- the module of the hooks

  pub hooks_unknown : ImportsNoHooks m → imports_from func_import m hook_module ≡ false
  hooks_unknown none = none_kept is_from_hooks (is_kind func_import) m.imports none
