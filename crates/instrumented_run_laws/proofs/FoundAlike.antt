-- Two executions or actions that first look something up.
use Rattle.std.proofs.Common.{◌≡◌, Option, Some, None, refl, sym, subst}

-- two results are alike if what the first looks up is found by the second
pub found_alike : {E X Y : Type 0} (AreAlike : E → E → Type 0) (first : Option X → E) (second : Option Y → E)
    (f : X → Y) (o : Option X) (other : Option Y) → ((x : X) → o ≡ Some x → other ≡ Some (f x))
    → AreAlike (first None) (second other) → ((x : X) → AreAlike (first (Some x)) (second (Some (f x))))
    → AreAlike (first o) (second other)
found_alike AreAlike first second f None other there none alike = none
found_alike AreAlike first second f (Some x) other there none alike =
    subst (λ o. AreAlike (first (Some x)) (second o)) (sym (there x refl)) (alike x)
