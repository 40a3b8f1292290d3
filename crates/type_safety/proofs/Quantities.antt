-- The quantities of a supported module are within their limits.
use Rattle.std.proofs.Common.{◌≡◌, ℕ, ◌≤◌, List, [], ◌∷◌, ◌++◌, Option, Some, None, Bool, true, false, cond, refl}
use Rattle.std.specs.Prelude.{All, filter_map, nat_lt}
use Rattle.std.specs.List.{cons_option}
use Rattle.std.proofs.lemmas.Bool.{ltb-false}
use Rattle.std.proofs.lemmas.List.Elements.{All-nil, All-cons}
use Rattle.base.proofs.Lists.{nil_parts}
use Rattle.wasm_syntax.specs.declared.limits.TheConstants.{MAX_ENTRIES, MAX_LOCALS_HOOKED, MAX_PAGES}
use Rattle.wasm_syntax.specs.declared.signatures.Limits.{Limits}
use Rattle.wasm_syntax.specs.declared.modules.Module.{Module}
use Rattle.wasm_syntax.specs.declared.profile.Which.{Which}
use Rattle.wasm_syntax.specs.declared.profile.Which.TheVariants.{Table, Memory, Locals}
use Rattle.wasm_syntax.specs.Index.{all_memories, all_tables}
use Rattle.wasm_syntax.proofs.Quantities.{parameters_past, tables_past, memories_past}
use Rattle.wasm_syntax.specs.Profile.{Refusal, Limit, past, count_of_locals, IsSupported}

pub past_none : (most value : ℕ) (which : Which) → past most which value ≡ None → value ≤ most
past_none most value which h = by (nat_lt most value) refl h
  where
    by : (b : Bool) → nat_lt most value ≡ b → cond b (Some (Limit which value)) None ≡ None → value ≤ most
    by true e i = cc
    by false e i = ltb-false most value e

pub none_past : (most : ℕ) (which : Which) (all : List Limits)
    → filter_map (λ limits. past most which limits.min) all ≡ [] → All (λ limits. limits.min ≤ most) all
none_past most which [] h = All-nil (λ limits. limits.min ≤ most)
none_past most which (l ∷ all) h = by (past most which l.min) refl h (none_past most which all)
  where
    by : (o : Option Refusal) → past most which l.min ≡ o
        → cons_option o (filter_map (λ limits. past most which limits.min) all) ≡ []
        → (filter_map (λ limits. past most which limits.min) all ≡ [] → All (λ limits. limits.min ≤ most) all)
        → All (λ limits. limits.min ≤ most) (l ∷ all)
    by None e i later = All-cons (λ limits. limits.min ≤ most) l all (past_none most l.min which e) (later i)
    by (Some refusal) e i later = cc

-- the memories and tables of a supported module begin within the limits
module _ (m : Module) (supported : IsSupported m) where
  abbrev locals : List Refusal
  locals = filter_map (λ f. past MAX_LOCALS_HOOKED Locals (count_of_locals f)) m.funcs

  no_quantity : (parameters_past m ++ tables_past m ++ memories_past m ≡ []) × (locals ≡ [])
  no_quantity = nil_parts (parameters_past m ++ tables_past m ++ memories_past m) locals supported.quantities

  pub small_memories : All (λ limits. limits.min ≤ MAX_PAGES) (all_memories m)
  small_memories =
      none_past MAX_PAGES Memory (all_memories m) (nil_parts (parameters_past m ++ tables_past m) (memories_past m) no_quantity.0).1

  pub small_tables : All (λ limits. limits.min ≤ MAX_ENTRIES) (all_tables m)
  small_tables =
      none_past MAX_ENTRIES Table (all_tables m)
      (nil_parts (parameters_past m) (tables_past m) (nil_parts (parameters_past m ++ tables_past m) (memories_past m) no_quantity.0).0).1
