-- The supply of a script that fits a module, if it links, matches the imports.
use Rattle.std.proofs.Common.{◌≡◌, ℕ, ◌+◌, List, [], ◌∷◌, ◌++◌, length, Option, Some, None, Bool, true, false, map, option_and_then, slice_get, refl, sym, ap, ◌∙◌, subst, arith}
use Rattle.std.specs.Prelude.{IsTrue, IfSome, All}
use Rattle.std.specs.List.{cons_option}
use Rattle.std.proofs.lemmas.Bool.Decides.{nat_tests}
use Rattle.std.proofs.lemmas.List.{append_assoc, length-append}
use Rattle.std.proofs.lemmas.List.Elements.{All-head, All-tail}
use Rattle.wasm_syntax.proofs.ValTypes.{type_same}
use Rattle.wasm_syntax.specs.declared.limits.TheConstants.{MAX_ENTRIES, MAX_PAGES}
use Rattle.wasm_syntax.specs.declared.values.Val.{Val}
use Rattle.wasm_syntax.specs.declared.signatures.Limits.{Limits}
use Rattle.wasm_syntax.specs.declared.signatures.GlobalType.{GlobalType}
use Rattle.wasm_syntax.specs.declared.modules.Import.{Import}
use Rattle.wasm_syntax.specs.declared.modules.ImportKind.{ImportKind}
use Rattle.wasm_syntax.specs.declared.modules.ImportKind.TheVariants.{Func, Table, Memory, Global}
use Rattle.wasm_syntax.specs.Alike.{same_type}
use Rattle.wasm_syntax.specs.Index.{of_kind, memory_import, table_import, global_import}
use Rattle.wasm_syntax.specs.Typing.{is_constant}
use Rattle.host_script.specs.declared.scripts.Script.{Script}
use Rattle.host_script.specs.Supply.{keeps_max, limits_match, Nothing, Alike, alike_if, match_of_limits, match_of_value, import_match, globals_in, first_fault, given_values, if_imported, supply_for}
use Rattle.host_script.proofs.Faults.{no_fault, no_link_fault}
use Rattle.type_safety.specs.Values.{IsValue, AreValues}
use Rattle.type_safety.specs.Stores.{func_count}
use Rattle.type_safety.specs.Supplies.{Match, IsSupply}
use Rattle.type_safety.specs.Laws.{SuppliesMatch}
use Rattle.type_safety.proofs.Constants.{constant_value}

pub max_kept : (max : Option ℕ) → keeps_max max max ≡ true
max_kept None = refl
max_kept (Some max) = grind (arith, nat_tests)

alike_true : (b : Bool) → alike_if b ≡ Alike → b ≡ true
alike_true true h = refl
alike_true false h = cc

limits_matched : (most : ℕ) (given : Option Limits) (wanted : Limits) (more : List Limits)
    → match_of_limits most given wanted ≡ Alike → Match most (wanted ∷ more) given
limits_matched most None wanted more h = cc
limits_matched most (Some given) wanted more h = alike_true (limits_match most given wanted) h

get_middle : {X : Type 0} (before : List X) (x : X) (rest : List X)
    → slice_get (before ++ x ∷ rest) (length before) ≡ Some x
get_middle [] x rest = refl
get_middle (y ∷ before) x rest = get_middle before x rest

module _ (script : Script) where
  -- one kind of import, for which one kind of limits is supplied
  limits_given : (most : ℕ) (given : Option Limits) (of : ImportKind → Option Limits)
      → ((globals : ℕ) (kind : ImportKind) (wanted : Limits) → of kind ≡ Some wanted
      → import_match script globals kind ≡ match_of_limits most given wanted)
      → (imports : List Import) (at globals : ℕ) → first_fault script imports at globals ≡ None
      → Match most (of_kind of imports) (if_imported (of_kind of imports) given)
  limits_given most given of each [] at globals h = tt
  limits_given most given of each (i ∷ imports) at globals h =
      let p = no_fault (import_match script globals i.kind) at
      (first_fault script imports (at + 1) (globals + globals_in i.kind)) h in
      by (of i.kind) refl p.0 (limits_given most given of each imports (at + 1) (globals + globals_in i.kind) p.1)
    where
      by : (o : Option Limits) → of i.kind ≡ o → import_match script globals i.kind ≡ Alike
          → Match most (of_kind of imports) (if_imported (of_kind of imports) given)
          → Match most (cons_option o (of_kind of imports)) (if_imported (cons_option o (of_kind of imports)) given)
      by None e own later = later
      by (Some wanted) e own later =
          limits_matched most given wanted (of_kind of imports) (sym (each globals i.kind wanted e) ∙ own)

  memory_given : (globals : ℕ) (kind : ImportKind) (wanted : Limits) → memory_import kind ≡ Some wanted
      → import_match script globals kind ≡ match_of_limits MAX_PAGES script.memory wanted
  memory_given globals (Memory limits) wanted e = let same : limits ≡ wanted = cc in ap (match_of_limits MAX_PAGES script.memory) same
  memory_given globals kind wanted e = cc

  table_given : (globals : ℕ) (kind : ImportKind) (wanted : Limits) → table_import kind ≡ Some wanted
      → import_match script globals kind ≡ match_of_limits MAX_ENTRIES script.table wanted
  table_given globals (Table limits) wanted e = let same : limits ≡ wanted = cc in ap (match_of_limits MAX_ENTRIES script.table) same
  table_given globals kind wanted e = cc

  -- the values from a place on are those of the imported globals
  abbrev AreGiven : ℕ → ℕ → List GlobalType → Type 0
  AreGiven n globals types =
      (before given : List (Option Val)) → script.globals ≡ before ++ given → length before ≡ globals
      → length given ≡ length types
      → All (λ it. IfSome it (λ value. IsTrue (is_constant value))) given
      → AreValues n (map (λ global. global.ty) types) (given_values given)

  global_matched : (n : ℕ) (types : List GlobalType) (globals : ℕ) (kind : ImportKind)
      → import_match script globals kind ≡ Alike → AreGiven n (globals + globals_in kind) types
      → AreGiven n globals (cons_option (global_import kind) types)
  global_matched n types globals (Func ty) own later before given is size count each =
      later before given is (omega (arith, size)) count each
  global_matched n types globals (Table limits) own later before given is size count each =
      later before given is (omega (arith, size)) count each
  global_matched n types globals (Memory limits) own later before given is size count each =
      later before given is (omega (arith, size)) count each
  global_matched n types globals (Global ty) own later before [] is size count each = cc
  global_matched n types globals (Global ty) own later before (None ∷ given) is size count each =
      let there : slice_get script.globals globals ≡ Some None =
      subst (λ k. slice_get script.globals k ≡ Some None) size
      (ap (λ l. slice_get l (length before)) is ∙ get_middle before None given) in
      let none : Nothing ≡ Alike =
      subst (λ o. match_of_value (option_and_then (λ (v : Option Val). v) o) ty ≡ Alike) there own in
      cc
  global_matched n types globals (Global ty) own later before (Some value ∷ given) is size count each =
      let there : slice_get script.globals globals ≡ Some (Some value) =
      subst (λ k. slice_get script.globals k ≡ Some (Some value)) size
      (ap (λ l. slice_get l (length before)) is ∙ get_middle before (Some value) given) in
      let alike : alike_if (same_type value.ty ty.ty) ≡ Alike =
      subst (λ o. match_of_value (option_and_then (λ (v : Option Val). v) o) ty ≡ Alike) there own in
      let typed : value.ty ≡ ty.ty = type_same value.ty ty.ty (alike_true (same_type value.ty ty.ty) alike) in
      let in_range = All-head (λ (it : Option Val). IfSome it (λ v. IsTrue (is_constant v))) (Some value) given each in
      let fewer : length given ≡ length types = omega (arith, count) in (
        subst (λ t. IsValue n t value) typed (constant_value n value in_range),
        later (before ++ Some value ∷ []) given (is ∙ sym (append_assoc before (Some value ∷ []) given))
            (omega (arith, size, length-append before (Some value ∷ []))) fewer
            (All-tail (λ (it : Option Val). IfSome it (λ v. IsTrue (is_constant v))) (Some value) given each),
      )

  globals_matched : (n : ℕ) (imports : List Import) (at globals : ℕ) → first_fault script imports at globals ≡ None
      → AreGiven n globals (of_kind global_import imports)
  globals_matched n [] at globals h before [] is size count each = tt
  globals_matched n [] at globals h before (x ∷ given) is size count each = cc
  globals_matched n (i ∷ imports) at globals h before given is size count each =
      let p = no_fault (import_match script globals i.kind) at
      (first_fault script imports (at + 1) (globals + globals_in i.kind)) h in
      global_matched n (of_kind global_import imports) globals i.kind p.0
      (globals_matched n imports (at + 1) (globals + globals_in i.kind) p.1) before given is size count each

-- the supply of a script that fits matches the imports
pub supply_fits : SuppliesMatch
supply_fits m script supply fits is =
    let p = no_link_fault (first_fault script m.imports 0 0) (supply_for m script) supply is in
    let own : IsSupply m (supply_for m script) = record {
      memory = limits_given script MAX_PAGES script.memory memory_import (memory_given script) m.imports 0 0 p.0;
      table = limits_given script MAX_ENTRIES script.table table_import (table_given script) m.imports 0 0 p.0;
      globals = globals_matched script (func_count m) m.imports 0 0 p.0 [] script.globals refl refl fits.globals
          fits.values;
    } in
    subst (IsSupply m) p.1 own
