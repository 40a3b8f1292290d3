-- The arguments of a hook's call, read one by one.
use Rattle.std.proofs.Common.{◌≡◌, List, [], ◌∷◌, length, Some, refl, sym, ap, ◌∙◌, subst, slice_get, arith}
use Rattle.std.specs.Prelude.{Result, ⊤}
use Rattle.wasm_syntax.specs.declared.values.Val.{Val}
use Rattle.history_spec.specs.Store.{Store}
use Rattle.record_replay_spec.specs.declared.hooks.Hook.{Hook}
use Rattle.hook_names.specs.Steps.{Steps}
use Rattle.hook_names.specs.declared.hooks.HookFault.{HookFault}

module _ {A : Type 0} where
  pub none_read : (args : List A) → length args ≡ 0 → args ≡ []
  none_read [] none = refl
  none_read (x ∷ xs) none = absurd (omega (arith, none))

  one_more : (x a : A) (xs later : List A) → Some x ≡ Some a → xs ≡ later → x ∷ xs ≡ a ∷ later
  one_more x a xs later first rest =
      let same : x ≡ a = cc in
      ap (λ z. z ∷ xs) same ∙ ap (λ zs. a ∷ zs) rest

  pub one_read : (args : List A) (a : A) → length args ≡ 1 → slice_get args 0 ≡ Some a → args ≡ a ∷ []
  one_read [] a one first = absurd (omega (arith, one))
  one_read (x ∷ xs) a one first = one_more x a xs [] first (none_read xs (omega (arith, one)))

  pub two_read : (args : List A) (a b : A) → length args ≡ 2 → slice_get args 0 ≡ Some a → slice_get args 1 ≡ Some b
      → args ≡ a ∷ b ∷ []
  two_read [] a b two first second = absurd (omega (arith, two))
  two_read (x ∷ xs) a b two first second =
      one_more x a xs (b ∷ []) first (one_read xs b (omega (arith, two)) second)

  pub three_read : (args : List A) (a b c : A) → length args ≡ 3 → slice_get args 0 ≡ Some a
      → slice_get args 1 ≡ Some b → slice_get args 2 ≡ Some c → args ≡ a ∷ b ∷ c ∷ []
  three_read [] a b c three first second third = absurd (omega (arith, three))
  three_read (x ∷ xs) a b c three first second third =
      one_more x a xs (b ∷ c ∷ []) first (two_read xs b c (omega (arith, three)) second third)

  pub four_read : (args : List A) (a b c d : A) → length args ≡ 4 → slice_get args 0 ≡ Some a
      → slice_get args 1 ≡ Some b → slice_get args 2 ≡ Some c → slice_get args 3 ≡ Some d
      → args ≡ a ∷ b ∷ c ∷ d ∷ []
  four_read [] a b c d four first second third fourth = absurd (omega (arith, four))
  four_read (x ∷ xs) a b c d four first second third fourth =
      one_more x a xs (b ∷ c ∷ d ∷ []) first (three_read xs b c d (omega (arith, four)) second third fourth)

-- a step by the arguments that were read, with the view of the store
pub step_read : {H : Type 0} (is_step : Steps H) (before after : H) (kind : Hook) (args found : List Val)
    (store view : Store) (answer : Result ⊤ HookFault) → args ≡ found → view ≡ store
    → is_step before (record { kind = kind; args = found; view = view }) answer after
    → is_step before (record { kind = kind; args = args; view = store }) answer after
step_read is_step before after kind args found store view answer read seen taken =
    subst (λ values. is_step before (record { kind = kind; args = values; view = store }) answer after) (sym read)
    (subst (λ seen. is_step before (record { kind = kind; args = found; view = seen }) answer after) seen taken)
