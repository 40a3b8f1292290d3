-- Two searches for a top-level call that go on alike have results that are related if what they find is.
use Rattle.std.proofs.Common.{ℕ, zero, suc}
use Rattle.trace_model.specs.declared.tapes.Next.{Next}
use Rattle.trace_model.specs.declared.tapes.Next.TheVariants.{Call, Return, End, Trap}
use Rattle.rest_spec.specs.Rests.{without_one, by_call}
use Rattle.rest_spec.specs.KnownBefore.{by_end}

module _ {A B : Type 0} (R : A → B → Type 0) (a : A) (b : B) (this : R a b) where
  -- at a call of the host
  both_by_call : (opened number : ℕ) (left : ℕ → A) (right : ℕ → B) → ((n : ℕ) → R (left n) (right n))
      → R (by_call opened number a left) (by_call opened number b right)
  both_by_call zero zero left right later = this
  both_by_call zero (suc number) left right later = later number
  both_by_call (suc opened) number left right later = later number

  -- at the end of an activity
  pub both_by_end : (opened number : ℕ) (next : Next) (left : (number opened : ℕ) → A)
      (right : (number opened : ℕ) → B) → ((n o : ℕ) → R (left n o) (right n o))
      → R (by_end opened number next a left) (by_end opened number next b right)
  both_by_end opened number (Call func args) left right later =
      both_by_call opened number (λ n. left n opened) (λ n. right n opened) (λ n. later n opened)
  both_by_end opened number (Return result) left right later = later number (without_one opened)
  both_by_end opened number End left right later = later number opened
  both_by_end opened number Trap left right later = later number opened
