-- Instrumented modules: their indices are the original's and the hooks', and they have the hooked form.
use Rattle.std.proofs.Common.{◌≡◌, ℕ, suc, ◌+◌, ◌-◌, ◌≤◌, ◌<◌, List, [], ◌∷◌, ◌++◌, length, map, drop, filter, Option, Some, None, Bool, true, false, cond, ◌&&◌, nat_eq, nat_lt, slice_get, option_and_then, bytes_eq, refl, sym, ap, ◌∙◌, arith}
use Rattle.std.specs.List.{cons_option}
use Rattle.std.proofs.lemmas.Bool.Decides.{nat_tests}
use Rattle.std.proofs.lemmas.List.{length-append, append-nil, drop_at, take_at}
use Rattle.std.proofs.lemmas.Slice.Eq.{bytes_eq-Decides}
use Rattle.std.proofs.lemmas.List.Elements.{filter-append}
use Rattle.std.proofs.lemmas.Option.{slice_get_within}
use Rattle.base.proofs.Lists.{get_front, get_after_by}
use Rattle.base.proofs.Options.{and_then_some}
use Rattle.base.proofs.Booleans.{and_true}
use Rattle.leb_bytes.specs.Unsigned.{u32_bytes}
use Rattle.wasm_syntax.specs.declared.signatures.FuncType.{FuncType}
use Rattle.wasm_syntax.specs.declared.modules.Import.{Import}
use Rattle.wasm_syntax.specs.declared.modules.ImportKind.{ImportKind}
use Rattle.wasm_syntax.specs.declared.modules.ImportKind.TheVariants.{Func as FuncImport, Table, Memory, Global}
use Rattle.wasm_syntax.specs.declared.modules.Func.{Func}
use Rattle.wasm_syntax.specs.declared.modules.Module.{Module}
use Rattle.wasm_syntax.specs.Index.{of_kind, func_import, table_import, memory_import, global_import, func_indices, imported_funcs, type_at, func_type}
use Rattle.wasm_syntax.specs.Alike.{same_signature}
use Rattle.wasm_syntax.specs.Nest.{Nest, nest_of}
use Rattle.wasm_syntax.proofs.JoinedLists.{kinds_append}
use Rattle.record_replay_spec.specs.declared.hooks.Hook.{Hook}
use Rattle.record_replay_spec.specs.declared.hooks.Hook.TheVariants.{Arg, Enter, Leave, Pre, Post, Ipre, Ipost, Load, Store, Size, Grow, Gget, Gset, Copy, Fill}
use Rattle.record_replay_spec.specs.Hooks.{hooks, hook_count, hook_place, hook_func, hook_name, hook_type, renumber}
use Rattle.record_replay_spec.specs.Instrumented.{instrumented_func, each_func, hook_types, place_among, hook_import, section_name, section_bytes, hooked_section, instrumented_module}
use Rattle.record_replay_spec.specs.HookedForm.{HookedForm, is_of_type, is_from_hooks, is_hook, are_hooks, is_func_kind, func_imports, own_imports, imports_hooks, digest_length, form_of_sections, hooked_sections}
use Rattle.record_replay_spec.specs.HookLaws.{InstrumentedKeepsIndices, InstrumentedKeepIndices, InstrumentedAreHooked}

-- ---- lists

func_kinds : (imports : List Import)
    → length (filter (λ import. is_func_kind import.kind) imports) ≡ length (of_kind func_import imports)
func_kinds [] = refl
func_kinds (i ∷ imports) = go i.kind (func_kinds imports)
  where
    go : (kind : ImportKind)
        → length (filter (λ import. is_func_kind import.kind) imports) ≡ length (of_kind func_import imports)
        → length
        (cond (is_func_kind kind) (i ∷ filter (λ import. is_func_kind import.kind) imports)
        (filter (λ import. is_func_kind import.kind) imports))
        ≡ length (cons_option (func_import kind) (of_kind func_import imports))
    go (FuncImport ty) same = ap suc same
    go (Table limits) same = same
    go (Memory limits) same = same
    go (Global ty) same = same

-- ---- functions

func_ty : (m : Module) (index : ℕ) (func : Func) (ty : Option FuncType) (nest : Option Nest)
    → (instrumented_func m index func ty nest).ty ≡ func.ty
func_ty m index func None nest = refl
func_ty m index func (Some ty) None = refl
func_ty m index func (Some ty) (Some nest) = refl

funcs_length : (m : Module) (index : ℕ) (funcs : List Func)
    → length (each_func m (instrumented_func m) index funcs) ≡ length funcs
funcs_length m index [] = refl
funcs_length m index (func ∷ funcs) = ap suc (funcs_length m (index + 1) funcs)

funcs_types : (m : Module) (index : ℕ) (funcs : List Func)
    → map (λ func. func.ty) (each_func m (instrumented_func m) index funcs) ≡ map (λ func. func.ty) funcs
funcs_types m index [] = refl
funcs_types m index (func ∷ funcs) =
    let first = func_ty m index func (type_at m func.ty) (nest_of func.body) in
    let rest = funcs_types m (index + 1) funcs in (λ i. first i ∷ rest i)

-- an item of a list in two parts, with other items between the parts
at_renumbered : (first hook_items last : List ℕ) (func t : ℕ) → length hook_items ≡ hook_count
    → slice_get (first ++ last) func ≡ Some t
    → slice_get ((first ++ hook_items) ++ last) (renumber (length first) func) ≡ Some t
at_renumbered first hook_items last func t count h = go (nat_lt func (length first)) refl
  where
    go : (b : Bool) → nat_lt func (length first) ≡ b
        → slice_get ((first ++ hook_items) ++ last) (cond b func (func + 15)) ≡ Some t
    go true less =
        let below : func < length first = grind (arith, nat_tests, less) in
        let long = length-append first hook_items in
        let within : func < length (first ++ hook_items) = omega (arith, below, long) in
        get_front (first ++ hook_items) last func within
        ∙ get_front first hook_items func below
        ∙ sym (get_front first last func below)
        ∙ h
    go false past =
        let above : length first ≤ func = grind (arith, nat_tests, past) in
        let long = length-append first hook_items in
        let at : func ≡ length first + (func - length first) = omega (arith, above) in
        let later : func + 15 ≡ length (first ++ hook_items) + (func - length first) =
        omega (arith, above, long, count)
        in
        get_after_by (first ++ hook_items) last (func + 15) (func - length first) later
        ∙ sym (get_after_by first last func (func - length first) at)
        ∙ h

at_hook : (first hook_items last : List ℕ) (place : ℕ) → place < length hook_items
    → slice_get ((first ++ hook_items) ++ last) (length first + place) ≡ slice_get hook_items place
at_hook first hook_items last place within =
    let long = length-append first hook_items in
    let less : length first + place < length (first ++ hook_items) = omega (arith, within, long) in
    get_front (first ++ hook_items) last (length first + place) less
    ∙ get_after_by first hook_items (length first + place) place refl

-- ---- a hook's type and import

record IsAdded (m : Module) (kind : Hook) : Type 0 where
  place : nat_lt (hook_place kind) hook_count ≡ true
  index : slice_get (of_kind func_import (map (hook_import m) hooks)) (hook_place kind)
      ≡ Some (length m.types + place_among hook_types (hook_type kind))
  ty : slice_get hook_types (place_among hook_types (hook_type kind)) ≡ Some (hook_type kind)
  signature : same_signature (hook_type kind) (hook_type kind) ≡ true
  name : bytes_eq (hook_name kind) (hook_name kind) ≡ true

is_added : (m : Module) (kind : Hook) → IsAdded m kind
is_added m Arg = record { place = refl; index = refl; ty = refl; signature = refl; name = refl }
is_added m Enter = record { place = refl; index = refl; ty = refl; signature = refl; name = refl }
is_added m Leave = record { place = refl; index = refl; ty = refl; signature = refl; name = refl }
is_added m Pre = record { place = refl; index = refl; ty = refl; signature = refl; name = refl }
is_added m Post = record { place = refl; index = refl; ty = refl; signature = refl; name = refl }
is_added m Ipre = record { place = refl; index = refl; ty = refl; signature = refl; name = refl }
is_added m Ipost = record { place = refl; index = refl; ty = refl; signature = refl; name = refl }
is_added m Load = record { place = refl; index = refl; ty = refl; signature = refl; name = refl }
is_added m Store = record { place = refl; index = refl; ty = refl; signature = refl; name = refl }
is_added m Size = record { place = refl; index = refl; ty = refl; signature = refl; name = refl }
is_added m Grow = record { place = refl; index = refl; ty = refl; signature = refl; name = refl }
is_added m Gget = record { place = refl; index = refl; ty = refl; signature = refl; name = refl }
is_added m Gset = record { place = refl; index = refl; ty = refl; signature = refl; name = refl }
is_added m Copy = record { place = refl; index = refl; ty = refl; signature = refl; name = refl }
is_added m Fill = record { place = refl; index = refl; ty = refl; signature = refl; name = refl }

-- ---- the contents of the section

abbrev form : (digest : List ℕ) → (imports defined : ℕ) → HookedForm
form digest imports defined = record { digest = digest; imports = imports; defined = defined }

abbrev form_if : HookedForm → Bool → Option HookedForm
form_if found test = cond test (Some found) None

abbrev form_by : (digest : List ℕ) → (imports defined : ℕ) → (found : List ℕ) → Option HookedForm
form_by digest imports defined found =
    cond
    (nat_eq (length found) digest_length
    && bytes_eq (section_bytes digest imports defined) (section_bytes found imports defined))
    (Some (form found imports defined)) None

-- ---- indices

module _ (m : Module) (digest : List ℕ) where
  indices_kept : func_indices (instrumented_module m digest)
      ≡ (of_kind func_import m.imports ++ of_kind func_import (map (hook_import m) hooks))
      ++ map (λ func. func.ty) m.funcs
  indices_kept =
      let a = kinds_append func_import m.imports (map (hook_import m) hooks) in
      let b = funcs_types m (imported_funcs m) m.funcs in (λ i. a i ++ b i)

  -- a type of the original is kept
  type_kept : (t : ℕ) (ty : FuncType) → type_at m t ≡ Some ty → type_at (instrumented_module m digest) t ≡ Some ty
  type_kept t ty h = get_front m.types hook_types t (slice_get_within m.types t ty h) ∙ h

  type_added : (kind : Hook)
      → type_at (instrumented_module m digest) (length m.types + place_among hook_types (hook_type kind))
      ≡ Some (hook_type kind)
  type_added kind =
      get_after_by m.types hook_types (length m.types + place_among hook_types (hook_type kind))
      (place_among hook_types (hook_type kind)) refl
      ∙ (is_added m kind).ty

  type_of_kept : (func : ℕ) (ty : FuncType) → func_type m func ≡ Some ty
      → func_type (instrumented_module m digest) (renumber (imported_funcs m) func) ≡ Some ty
  type_of_kept func ty h =
      let found = and_then_some (slice_get (func_indices m) func) (type_at m) ty h in
      let index =
      at_renumbered (of_kind func_import m.imports) (of_kind func_import (map (hook_import m) hooks))
      (map (λ func. func.ty) m.funcs) func found.0 refl found.1
      in
      ap
      (λ indices. option_and_then (type_at (instrumented_module m digest))
      (slice_get indices (renumber (imported_funcs m) func)))
      indices_kept
      ∙ ap (option_and_then (type_at (instrumented_module m digest))) index
      ∙ type_kept found.0 ty found.2

  type_of_hook : (kind : Hook)
      → func_type (instrumented_module m digest) (hook_func (imported_funcs m) kind) ≡ Some (hook_type kind)
  type_of_hook kind =
      let within : hook_place kind < hook_count = grind (arith, nat_tests, (is_added m kind).place) in
      let index =
      at_hook (of_kind func_import m.imports) (of_kind func_import (map (hook_import m) hooks))
      (map (λ func. func.ty) m.funcs) (hook_place kind) within
      in
      ap
      (λ indices. option_and_then (type_at (instrumented_module m digest))
      (slice_get indices (hook_func (imported_funcs m) kind)))
      indices_kept
      ∙ ap (option_and_then (type_at (instrumented_module m digest))) (index ∙ (is_added m kind).index)
      ∙ type_added kind

  -- imports of another kind, which no hook is
  others_kept : {K : Type 0} (pick : ImportKind → Option K) → of_kind pick (map (hook_import m) hooks) ≡ []
      → of_kind pick (m.imports ++ map (hook_import m) hooks) ≡ of_kind pick m.imports
  others_kept pick none =
      kinds_append pick m.imports (map (hook_import m) hooks)
      ∙ ap (λ more. of_kind pick m.imports ++ more) none
      ∙ append-nil (of_kind pick m.imports)

  keeps_indices : InstrumentedKeepsIndices m digest
  keeps_indices =
      record {
        imports =
            ap length (kinds_append func_import m.imports (map (hook_import m) hooks))
            ∙ length-append (of_kind func_import m.imports) (of_kind func_import (map (hook_import m) hooks));
        defined = funcs_length m (imported_funcs m) m.funcs;
        type_of = type_of_kept;
        hook = type_of_hook;
        tables = ap (λ found. found ++ m.tables) (others_kept table_import refl);
        memories = ap (λ found. found ++ m.memories) (others_kept memory_import refl);
        globals = ap (λ found. found ++ map (λ g. g.ty) m.globals) (others_kept global_import refl);
      }

  -- ---- the hooked form

  is_hook_import : (kind : Hook) → is_hook (instrumented_module m digest) kind (hook_import m kind) ≡ true
  is_hook_import kind =
      and_true _ _ (is_added m kind).name
      (ap (is_of_type (hook_type kind)) (type_added kind) ∙ (is_added m kind).signature)

  are_hook_imports : (kinds : List Hook)
      → are_hooks (instrumented_module m digest) kinds (map (hook_import m) kinds) ≡ true
  are_hook_imports [] = refl
  are_hook_imports (kind ∷ kinds) = and_true _ _ (is_hook_import kind) (are_hook_imports kinds)

  own_kept : own_imports (instrumented_module m digest) ≡ imported_funcs m
  own_kept =
      let less : imported_funcs m + 15 - 15 ≡ imported_funcs m = omega arith in
      ap (λ count. count - 15) keeps_indices.imports ∙ less

  last_imports : drop (imported_funcs m) (func_imports (instrumented_module m digest)) ≡ map (hook_import m) hooks
  last_imports =
      ap (drop (imported_funcs m))
      (filter-append (λ import. is_func_kind import.kind) m.imports (map (hook_import m) hooks))
      ∙ drop_at (func_imports m) (map (hook_import m) hooks) (imported_funcs m) (func_kinds m.imports)

  imports_are_hooks : filter is_from_hooks m.imports ≡ [] → imports_hooks (instrumented_module m digest) ≡ true
  imports_are_hooks none =
      and_true _ _
      (ap (λ count. are_hooks (instrumented_module m digest) hooks
      (drop count (func_imports (instrumented_module m digest)))) own_kept
      ∙ ap (are_hooks (instrumented_module m digest) hooks) last_imports
      ∙ are_hook_imports hooks)
      (ap (λ found. nat_eq (length found) hook_count)
      (filter-append is_from_hooks m.imports (map (hook_import m) hooks)
      ∙ ap (λ found. found ++ map (hook_import m) hooks) none))

  section_form : (imports defined : ℕ) → length digest ≡ digest_length
      → form_of_sections imports defined
      (record { name = section_name; bytes = section_bytes digest imports defined } ∷ [])
      ≡ Some (record { digest = digest; imports = imports; defined = defined })
  section_form imports defined long =
      ap (form_by digest imports defined)
      (take_at digest (u32_bytes imports ++ u32_bytes defined) digest_length long)
      ∙ ap (form_if (form digest imports defined))
      (and_true (nat_eq (length digest) digest_length)
      (bytes_eq (section_bytes digest imports defined) (section_bytes digest imports defined))
      (ap (λ count. nat_eq count digest_length) long)
      ((bytes_eq-Decides (section_bytes digest imports defined) (section_bytes digest imports defined)).1 refl))

pub instrumented_keep_indices : InstrumentedKeepIndices
instrumented_keep_indices m digest = keeps_indices m digest

pub instrumented_are_hooked : InstrumentedAreHooked
instrumented_are_hooked m digest long none =
    ap
    (λ found. cond found
    (form_of_sections (own_imports (instrumented_module m digest)) (length (instrumented_module m digest).funcs)
    (hooked_sections (instrumented_module m digest))) None)
    (imports_are_hooks m digest none)
    ∙ ap
    (λ imports. form_of_sections imports (length (instrumented_module m digest).funcs)
    (hooked_section m digest ∷ []))
    (own_kept m digest)
    ∙ ap (λ defined. form_of_sections (imported_funcs m) defined (hooked_section m digest ∷ []))
    (keeps_indices m digest).defined
    ∙ section_form m digest (imported_funcs m) (length m.funcs) long
