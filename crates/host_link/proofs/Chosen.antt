-- Memory and table are what is supplied, or else what is declared, and begin within the limits.
use Rattle.std.proofs.Common.{◌≡◌, ℕ, ◌≤◌, List, [], ◌∷◌, ◌++◌, Option, Some, None, Ok, ◌&&◌, refl, sym, subst, arith}
use Rattle.std.specs.Prelude.{All, nat_le}
use Rattle.std.proofs.lemmas.Bool.{leb-true}
use Rattle.std.proofs.lemmas.List.Elements.{All-head}
use Rattle.base.proofs.Booleans.{and_right}
use Rattle.wasm_syntax.specs.declared.limits.TheConstants.{MAX_ENTRIES, MAX_PAGES}
use Rattle.wasm_syntax.specs.declared.signatures.Limits.{Limits}
use Rattle.wasm_syntax.specs.declared.modules.Module.{Module}
use Rattle.wasm_syntax.specs.Index.{of_kind, memory_import, table_import}
use Rattle.wasm_syntax.specs.Profile.{IsSupported}
use Rattle.host_script.specs.declared.scripts.Script.{Script}
use Rattle.host_script.specs.declared.scripts.Supply.{Supply}
use Rattle.host_script.specs.Supply.{is_within, keeps_max, if_imported, supply_of}
use Rattle.history_spec.specs.Instantiation.{limits_of}
use Rattle.wasm_store.specs.Parts.{minimum_of}
use Rattle.type_safety.specs.Supplies.{IsSupply, Match}
use Rattle.host_link.specs.Link.{HasLimits, first_of}
use Rattle.type_safety.proofs.Quantities.{small_memories, small_tables}
use Rattle.host_link.proofs.Supplied.{supply_is}

-- ---- what is chosen

chosen_limits : (most : ℕ) (imports declared : List Limits) (given : Option Limits)
    → Match most imports (if_imported imports given) → limits_of imports (if_imported imports given) declared
    ≡ first_of (if_imported imports given) declared
chosen_limits most [] [] given matches = refl
chosen_limits most [] (l ∷ declared) given matches = refl
chosen_limits most (wanted ∷ imports) declared None matches = absurd matches
chosen_limits most (wanted ∷ imports) declared (Some limits) matches = refl

small_limits : (most : ℕ) (imports declared : List Limits) (given : Option Limits)
    → Match most imports (if_imported imports given) → All (λ limits. limits.min ≤ most) (imports ++ declared)
    → minimum_of (limits_of imports (if_imported imports given) declared) ≤ most
small_limits most [] [] given matches small = omega arith
small_limits most [] (l ∷ declared) given matches small = All-head (λ limits. limits.min ≤ most) l declared small
small_limits most (wanted ∷ imports) declared None matches small = absurd matches
small_limits most (wanted ∷ imports) declared (Some limits) matches small =
    leb-true limits.min most
    (and_right (nat_le wanted.min limits.min && keeps_max limits.max wanted.max && is_within limits.min limits.max)
    (nat_le limits.min most) matches)

are_chosen : (m : Module) (script : Script) (supply : Supply) → IsSupported m → IsSupply m supply
    → supply_of m script ≡ Ok supply → HasLimits m supply
are_chosen m script supply supported matches is =
    subst (λ s. IsSupply m s → HasLimits m s) (supply_is m script supply is)
    (λ given. record {
      memory = chosen_limits MAX_PAGES (of_kind memory_import m.imports) m.memories script.memory given.memory;
      table = chosen_limits MAX_ENTRIES (of_kind table_import m.imports) m.tables script.table given.table;
      few_pages = small_limits MAX_PAGES (of_kind memory_import m.imports) m.memories script.memory given.memory
          (small_memories m supported);
      few_entries = small_limits MAX_ENTRIES (of_kind table_import m.imports) m.tables script.table given.table
          (small_tables m supported);
    }) matches

-- what a script supplies for a module that has two names here matches its imports and is chosen
pub supplied_there : (checked it : Module) (script : Script) (supply : Supply) → it ≡ checked → IsSupported checked
    → (supply_of checked script ≡ Ok supply → IsSupply checked supply) → supply_of it script ≡ Ok supply
    → IsSupply checked supply × HasLimits it supply
supplied_there checked it script supply same supported law is =
    let own : supply_of checked script ≡ Ok supply = subst (λ m. supply_of m script ≡ Ok supply) same is in
    let matches = law own in
    (matches, subst (λ m. HasLimits m supply) (sym same) (are_chosen checked script supply supported matches own))
