-- What the host reaches in a valid module exists.
use Rattle.std.proofs.Common.{◌≡◌, ⊎_elim, ℕ, ◌<◌, List, [], ◌∷◌, ◌++◌, length, find, All, Option, Some, None, is_some, option_map, option_and_then, Ok, Bool, true, false, ◌||◌, cond, slice_get, refl, ap, subst, arith}
use Rattle.std.specs.Bool.{⊤}
use Rattle.std.specs.List.{list_any, cons_option}
use Rattle.std.specs.Str.{bytes_eq}
use Rattle.std.proofs.lemmas.List.Elements.{All-head, All-tail}
use Rattle.wasm_syntax.specs.declared.values.Val.{Val}
use Rattle.wasm_syntax.specs.declared.signatures.GlobalType.{GlobalType}
use Rattle.wasm_syntax.specs.declared.modules.Module.{Module}
use Rattle.wasm_syntax.specs.declared.modules.Import.{Import}
use Rattle.wasm_syntax.specs.declared.modules.ImportKind.{ImportKind}
use Rattle.wasm_syntax.specs.declared.modules.Export.{Export}
use Rattle.wasm_syntax.specs.declared.modules.ExportKind.{ExportKind}
use Rattle.wasm_syntax.specs.declared.modules.ExportKind.TheVariants.{Func, Table, Memory, Global}
use Rattle.wasm_syntax.specs.Alike.{same_type}
use Rattle.wasm_syntax.specs.Index.{of_kind, memory_import, table_import, func_indices, all_globals}
use Rattle.wasm_syntax.specs.Typing.{is_constant}
use Rattle.wasm_syntax.specs.declared.signatures.Limits.{Limits}
use Rattle.wasm_syntax.specs.Validity.{IsThere, IsValid}
use Rattle.host_script.specs.Fits.{HasMemory, HasTable, IsSettable}
use Rattle.script_text.specs.declared.faults.ScriptFault.TheVariants.{NoAccess, WrongType}
use Rattle.module_names.specs.Names.{is_kind, imports_some, exports_some, index_in, exported_func, reaches_memory, reaches_table}
use Rattle.module_names.specs.declared.index_spaces.Space.{Space}
use Rattle.module_names.specs.declared.index_spaces.Space.TheVariants.{Funcs, Memories, Tables}
use Rattle.script_text.specs.Actions.{memory_access, table_access, index_or_unknown, func_named, is_set_by, fits_global}
use Rattle.script_text.proofs.Steps.{ok_one, some_one, passed}
use Rattle.wasm_syntax.proofs.ValTypes.{type_same}
use Rattle.base.proofs.Booleans.{or_cases}

-- ---- memory and table

-- something of a kind is imported
some_imported : {K : Type 0} (pick : ImportKind → Option K) (imports : List Import)
    → list_any (is_kind pick) imports ≡ true → 0 < length (of_kind pick imports)
some_imported {K} pick [] h = cc h
some_imported {K} pick (x ∷ xs) h = by (pick x.kind) h (some_imported pick xs)
  where
    by : (o : Option K) → (is_some o || list_any (is_kind pick) xs) ≡ true
        → (list_any (is_kind pick) xs ≡ true → 0 < length (of_kind pick xs))
        → 0 < length (cons_option o (of_kind pick xs))
    by None h later = later h
    by (Some k) h later = omega arith

-- something of a kind is exported and exists
some_exported : (P : Type 0) (space : Space) (m : Module)
    → ((kind : ExportKind) (x : ℕ) → index_in space kind ≡ Some x → IsThere m kind → P)
    → (exports : List Export) → All (λ e. IsThere m e.kind) exports → list_any (λ e. is_some (index_in space e.kind)) exports ≡ true → P
some_exported P space m holds [] there h = cc h
some_exported P space m holds (e ∷ es) there h =
    by (index_in space e.kind) refl h (some_exported P space m holds es (All-tail (λ e. IsThere m e.kind) e es there))
  where
    by : (o : Option ℕ) → index_in space e.kind ≡ o → (is_some o || list_any (λ e. is_some (index_in space e.kind)) es) ≡ true
        → (list_any (λ e. is_some (index_in space e.kind)) es ≡ true → P) → P
    by None is h later = later h
    by (Some x) is h later = holds e.kind x is (All-head (λ e. IsThere m e.kind) e es there)

memory_there : (m : Module) (kind : ExportKind) (x : ℕ) → index_in Memories kind ≡ Some x → IsThere m kind → HasMemory m
memory_there m (Func i) x is there = cc is
memory_there m (Table i) x is there = cc is
memory_there m (Memory i) x is there = omega (arith, there)
memory_there m (Global i) x is there = cc is

table_there : (m : Module) (kind : ExportKind) (x : ℕ) → index_in Tables kind ≡ Some x → IsThere m kind → HasTable m
table_there m (Func i) x is there = cc is
table_there m (Table i) x is there = omega (arith, there)
table_there m (Memory i) x is there = cc is
table_there m (Global i) x is there = cc is

some_first : {A : Type 0} (xs ys : List A) → 0 < length xs → 0 < length (xs ++ ys)
some_first (x ∷ xs) ys h = omega arith
some_first [] ys h = absurd (omega (arith, h))

-- a memory or a table that is imported or exported exists
reached : (m : Module) (pick : ImportKind → Option Limits) (space : Space) (own : List Limits) → IsValid m
    → ((kind : ExportKind) (x : ℕ) → index_in space kind ≡ Some x → IsThere m kind → 0 < length (of_kind pick m.imports ++ own))
    → (imports_some pick m || exports_some space m) ≡ true → 0 < length (of_kind pick m.imports ++ own)
reached m pick space own valid there h =
    ⊎_elim (λ i. some_first (of_kind pick m.imports) own (some_imported pick m.imports i))
    (λ e. some_exported (0 < length (of_kind pick m.imports ++ own)) space m there m.exports valid.outside.exports e)
    (or_cases (imports_some pick m) (exports_some space m) h)

pub has_memory : (m : Module) (t : ⊤) → IsValid m → memory_access m ≡ Ok t → HasMemory m
unfolding memory_access
has_memory m t valid h = reached m memory_import Memories m.memories valid (memory_there m) (passed (reaches_memory m) (Ok tt) _ t h).0

pub has_table : (m : Module) (t : ⊤) → IsValid m → table_access m ≡ Ok t → HasTable m
unfolding table_access
has_table m t valid h = reached m table_import Tables m.tables valid (table_there m) (passed (reaches_table m) (Ok tt) _ t h).0

-- ---- functions

found_holds : {A : Type 0} (P : A → Type 0) (test : A → Bool) (xs : List A) (a : A) → All P xs → find test xs ≡ Some a
    → P a
found_holds P test [] a all h = cc h
found_holds P test (x ∷ xs) a all h = by (test x) h (found_holds P test xs a (All-tail P x xs all))
  where
    by : (b : Bool) → cond b (Some x) (find test xs) ≡ Some a → (find test xs ≡ Some a → P a) → P a
    by true h later = subst P (some_one x a h) (All-head P x xs all)
    by false h later = later h

func_there : (m : Module) (kind : ExportKind) (f : ℕ) → IsThere m kind → index_in Funcs kind ≡ Some f
    → f < length (func_indices m)
func_there m (Func x) f there h = subst (λ f. f < length (func_indices m)) (some_one x f h) there
func_there m (Table x) f there h = cc h
func_there m (Memory x) f there h = cc h
func_there m (Global x) f there h = cc h

pub exported_there : (m : Module) (name : List ℕ) (f : ℕ) → IsValid m → exported_func m name ≡ Some f
    → f < length (func_indices m)
exported_there m name f valid h = by (find (λ e. bytes_eq e.name name) m.exports) refl h
  where
    by : (o : Option Export) → find (λ e. bytes_eq e.name name) m.exports ≡ o
        → option_and_then (index_in Funcs) (option_map (λ e. e.kind) o) ≡ Some f → f < length (func_indices m)
    by None is h = cc h
    by (Some e) is h = func_there m e.kind f (found_holds (λ e. IsThere m e.kind) (λ e. bytes_eq e.name name) m.exports e valid.outside.exports is) h

index_is : (name : List ℕ) (o : Option ℕ) (index : ℕ) → index_or_unknown name o ≡ Ok index → o ≡ Some index
index_is name None index h = cc h
index_is name (Some i) index h = ap Some (ok_one i index h)

pub func_named_there : (m : Module) (name : List ℕ) (f : ℕ) → IsValid m → func_named m name ≡ Ok f
    → f < length (func_indices m)
unfolding func_named
func_named_there m name f valid h = exported_there m name f valid (index_is name (exported_func m name) f h)

-- ---- globals

pub settable : (m : Module) (global : ℕ) (name : List ℕ) (value : Val) (t : ⊤) → is_constant value ≡ true
    → fits_global m global name value ≡ Ok t → IsSettable m global value
unfolding fits_global
settable m global name value t constant h = by (slice_get (all_globals m) global) refl h
  where
    by : (o : Option GlobalType) → slice_get (all_globals m) global ≡ o → is_set_by o name value ≡ Ok t
        → IsSettable m global value
    by None is h = cc h
    by (Some ty) is h =
        let mutable = passed ty.mutable _ (NoAccess name) t h in
        let typed = passed (same_type value.ty ty.ty) (Ok tt) (WrongType name) t mutable.1 in
        record { in_range = constant; ty = ty; there = is; mutable = mutable.0; typed = type_same value.ty ty.ty typed.0 }
