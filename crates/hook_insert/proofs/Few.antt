-- A module whose quantities are within their limits has few locals and parameters.
use Rattle.std.proofs.Common.{◌≡◌, ℕ, ◌≤◌, List, [], ◌∷◌, ◌++◌, length, None, Bool, true, false, All, refl}
use Rattle.std.specs.Prelude.{filter_map, nat_lt}
use Rattle.std.proofs.lemmas.Bool.{ltb-false}
use Rattle.std.proofs.lemmas.List.Elements.{All-nil, All-cons}
use Rattle.base.proofs.Lists.{nil_parts}
use Rattle.wasm_syntax.specs.declared.limits.TheConstants.{MAX_ENTRIES, MAX_LOCALS_HOOKED, MAX_PAGES, MAX_PARAMETERS}
use Rattle.wasm_syntax.specs.declared.profile.Which.{Which}
use Rattle.wasm_syntax.specs.declared.profile.Which.TheVariants.{Parameters, Table, Memory, Locals}
use Rattle.wasm_syntax.specs.declared.signatures.FuncType.{FuncType}
use Rattle.wasm_syntax.specs.declared.signatures.Limits.{Limits}
use Rattle.wasm_syntax.specs.declared.modules.Func.{Func}
use Rattle.wasm_syntax.specs.declared.modules.Module.{Module}
use Rattle.wasm_syntax.specs.Index.{all_tables, all_memories}
use Rattle.wasm_syntax.specs.Profile.{Refusal, past, count_of_locals, quantities_past}
use Rattle.wasm_syntax.proofs.JoinedLists.{nil_option}

-- a quantity that is not past its limit is within
within : (most : ℕ) (which : Which) (value : ℕ) (past_it : Bool) → nat_lt most value ≡ past_it
    → past most which value ≡ None → value ≤ most
within most which value true over is = absurd (some over is)
  where
    some : nat_lt most value ≡ true → past most which value ≡ None → ⊥
    some over is = cc
within most which value false under is = ltb-false most value under

-- if no quantity of the items is past its limit, each is within
all_within : {X : Type 0} (most : ℕ) (which : Which) (quantity : X → ℕ) (xs : List X)
    → filter_map (λ x. past most which (quantity x)) xs ≡ [] → All (λ x. quantity x ≤ most) xs
all_within most which quantity [] none = All-nil (λ x. quantity x ≤ most)
all_within most which quantity (x ∷ xs) none =
    let parts = nil_option (past most which (quantity x)) (filter_map (λ y. past most which (quantity y)) xs) none in
    All-cons (λ y. quantity y ≤ most) x xs
    (within most which (quantity x) (nat_lt most (quantity x)) refl parts.0)
    (all_within most which quantity xs parts.1)

module _ (m : Module) (none : quantities_past true m ≡ []) where
  abbrev params_past : List Refusal
  params_past = filter_map (λ (ty : FuncType). past MAX_PARAMETERS Parameters (length ty.params)) m.types

  abbrev tables_past : List Refusal
  tables_past = filter_map (λ (limits : Limits). past MAX_ENTRIES Table limits.min) (all_tables m)

  abbrev memories_past : List Refusal
  memories_past = filter_map (λ (limits : Limits). past MAX_PAGES Memory limits.min) (all_memories m)

  abbrev locals_past : List Refusal
  locals_past = filter_map (λ (f : Func). past MAX_LOCALS_HOOKED Locals (count_of_locals f)) m.funcs

  pub few_locals : All (λ (f : Func). count_of_locals f ≤ MAX_LOCALS_HOOKED) m.funcs
  few_locals =
      all_within MAX_LOCALS_HOOKED Locals count_of_locals m.funcs
      (nil_parts (params_past ++ tables_past ++ memories_past) locals_past none).1

  pub few_params : All (λ (ty : FuncType). length ty.params ≤ MAX_PARAMETERS) m.types
  few_params =
      all_within MAX_PARAMETERS Parameters (λ (ty : FuncType). length ty.params) m.types
      (nil_parts params_past tables_past
      (nil_parts (params_past ++ tables_past) memories_past
      (nil_parts (params_past ++ tables_past ++ memories_past) locals_past none).0).0).0
