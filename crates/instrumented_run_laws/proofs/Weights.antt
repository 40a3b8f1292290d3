-- The weights of a sequence of instructions from a number on.
use Rattle.std.proofs.Common.{◌≡◌, ℕ, ◌+◌, List, [], ◌∷◌, ◌++◌, length, subst, arith}
use Rattle.history_spec.specs.Run.{Meter}

-- the instructions of a function from a number on have these weights
abbrev pub AreWeights : Meter → (func number : ℕ) → List ℕ → Type 0
AreWeights meter func number [] = Unit {0}
AreWeights meter func number (w ∷ ws) = (meter.instruction func number ≡ w) × AreWeights meter func (number + 1) ws

-- the weights of the first part
pub first_weights : (meter : Meter) (func number : ℕ) (a b : List ℕ) → AreWeights meter func number (a ++ b)
    → AreWeights meter func number a
first_weights meter func number [] b h = tt
first_weights meter func number (w ∷ a) b h = (h.0, first_weights meter func (number + 1) a b h.1)

-- the weights of the second part
pub later_weights : (meter : Meter) (func number : ℕ) (a b : List ℕ) → AreWeights meter func number (a ++ b)
    → AreWeights meter func (number + length a) b
later_weights meter func number [] b h =
    let e : number ≡ number + 0 = omega arith in subst (λ at. AreWeights meter func at b) e h
later_weights meter func number (w ∷ a) b h =
    let e : number + 1 + length a ≡ number + length (w ∷ a) = omega arith in
    subst (λ at. AreWeights meter func at b) e (later_weights meter func (number + 1) a b h.1)
