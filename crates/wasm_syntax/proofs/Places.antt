-- A module is valid, or it is invalid at one place, which the plain test finds.
use Rattle.std.proofs.Common.{◌≡◌, ℕ, ◌+◌, ◌<◌, List, [], ◌∷◌, length, Option, Some, None, Bool, true, false, cond, not, slice_get, get_or, position, option_map, MatchOption, All, refl, sym, ap, ◌∙◌, subst, arith}
use Rattle.std.proofs.lemmas.Bool.Decides.{not_from_Decides, nat_tests}
use Rattle.std.proofs.lemmas.List.Quantifiers.{position-Some}
use Rattle.std.proofs.lemmas.List.Sums.{fails_before_first}
use Rattle.std.specs.List.{position_or_len}
use Rattle.std.proofs.lemmas.Option.{slice_get-get_or, get_or_from_slice_get, slice_get_within}
use Rattle.wasm_syntax.specs.declared.modules.Module.{Module}
use Rattle.wasm_syntax.specs.declared.modules.Func.{Func}
use Rattle.wasm_syntax.specs.Index.{imported_funcs}
use Rattle.wasm_syntax.specs.Validity.{IsValidOutside, IsTypedFunc, IsValid, IsFirstUntyped, IsInvalidAt}
use Rattle.wasm_syntax.specs.ValidityTests.{is_valid_outside, is_typed_func, invalid_at}
use Rattle.wasm_syntax.proofs.ValidityTests.{outside_decides, bodies_decide}

not_true : (b : Bool) → not b ≡ false → b ≡ true
not_true true h = refl
not_true false h = cc

not_false : (b : Bool) → not b ≡ true → b ≡ false
not_false true h = cc
not_false false h = refl

typed_of : (m : Module) (f : Func) → not (is_typed_func m f) ≡ false → IsTypedFunc m f
typed_of m f h = (bodies_decide m f).0 (not_true (is_typed_func m f) h)

untyped_of : (m : Module) (f : Func) → not (is_typed_func m f) ≡ true → ¬ IsTypedFunc m f
untyped_of m f h = not_from_Decides (is_typed_func m f) (bodies_decide m f) (not_false (is_typed_func m f) h)

-- the function that the test finds, with any function for a default
first_untyped_by : (m : Module) (place : ℕ) (d : Func) → position (λ f. not (is_typed_func m f)) m.funcs ≡ Some place
    → IsFirstUntyped m place
first_untyped_by m place d e =
    let p = position-Some (λ f. not (is_typed_func m f)) m.funcs place d e in
    record {
      func = get_or m.funcs place d;
      found = slice_get-get_or m.funcs place d p.0;
      untyped = untyped_of m (get_or m.funcs place d) p.1;
      before = λ earlier f below at.
          typed_of m f (subst (λ g. not (is_typed_func m g) ≡ false) (get_or_from_slice_get m.funcs earlier f d at) (p.2 earlier below));
    }

some_default : (p : Func → Bool) (funcs : List Func) (place : ℕ) → position p funcs ≡ Some place → Func
some_default p [] place e = cc
some_default p (f ∷ funcs) place e = f

-- if no item is found, the test fails on each
none_found : {X : Type 0} (p : X → Bool) (xs : List X) (k : ℕ) (d : X) → position p xs ≡ None → k < length xs
    → p (get_or xs k d) ≡ false
none_found p xs k d e below =
    let before : k < position_or_len p xs = grind (arith, nat_tests) in
    fails_before_first p xs k d before

bodies_place : (m : Module) → IsValidOutside m → (o : Option ℕ) → position (λ f. not (is_typed_func m f)) m.funcs ≡ o
    → MatchOption (option_map (λ place. Some (imported_funcs m + place)) o) (IsValid m) (λ place. IsInvalidAt m place)
bodies_place m outside None e = record {
  outside = outside;
  bodies = λ k d below. typed_of m (get_or m.funcs k d) (none_found (λ f. not (is_typed_func m f)) m.funcs k d e below);
}
bodies_place m outside (Some place) e =
    (outside, (place, refl, first_untyped_by m place (some_default (λ f. not (is_typed_func m f)) m.funcs place e) e))

-- the plain test finds the place at which a module is invalid
pub place_found : (m : Module) → MatchOption (invalid_at m) (IsValid m) (λ place. IsInvalidAt m place)
place_found m = by (is_valid_outside m) refl
  where
    by : (b : Bool) → is_valid_outside m ≡ b
        → MatchOption (cond b (option_map (λ place. Some (imported_funcs m + place))
        (position (λ f. not (is_typed_func m f)) m.funcs)) (Some None)) (IsValid m) (λ place. IsInvalidAt m place)
    by true e = bodies_place m ((outside_decides m).0 e) (position (λ f. not (is_typed_func m f)) m.funcs) refl
    by false e = not_from_Decides (is_valid_outside m) (outside_decides m) e

-- ---- a module is not both, and has one place at most

-- a function that is found has the property that all have
at_found : (P : Func → Type 0) (funcs : List Func) (place : ℕ) (f : Func) → All P funcs → slice_get funcs place ≡ Some f
    → P f
at_found P funcs place f all e =
    subst P (get_or_from_slice_get funcs place f f e) (all place f (slice_get_within funcs place f e))

pub not_both : (m : Module) (place : Option ℕ) → IsValid m → IsInvalidAt m place → ⊥
not_both m None valid invalid = invalid valid.outside
not_both m (Some func) valid invalid =
    let first = invalid.1.2 in
    first.untyped (at_found (IsTypedFunc m) m.funcs invalid.1.0 first.func valid.bodies first.found)

same_place : (m : Module) (a b : ℕ) → IsFirstUntyped m a → IsFirstUntyped m b → a ≡ b
same_place m a b p q =
    let not_before : a < b → ⊥ = λ (lt : a < b). p.untyped (q.before a p.func lt p.found) in
    let not_behind : b < a → ⊥ = λ (lt : b < a). q.untyped (p.before b q.func lt q.found) in
    omega arith

pub one_place : (m : Module) (a b : Option ℕ) → IsInvalidAt m a → IsInvalidAt m b → a ≡ b
one_place m None None p q = refl
one_place m None (Some b) p q = absurd (p q.0)
one_place m (Some a) None p q = absurd (q p.0)
one_place m (Some a) (Some b) p q =
    ap Some (p.1.1 ∙ ap (λ n. imported_funcs m + n) (same_place m p.1.0 q.1.0 p.1.2 q.1.2) ∙ sym q.1.1)

pub valid_found : (m : Module) → IsValid m → invalid_at m ≡ None
valid_found m valid = by (invalid_at m) (place_found m)
  where
    by : (o : Option (Option ℕ)) → MatchOption o (IsValid m) (λ place. IsInvalidAt m place) → o ≡ None
    by None h = refl
    by (Some place) h = absurd (not_both m place valid h)

pub invalid_found : (m : Module) (place : Option ℕ) → IsInvalidAt m place → invalid_at m ≡ Some place
invalid_found m place invalid = by (invalid_at m) (place_found m)
  where
    by : (o : Option (Option ℕ)) → MatchOption o (IsValid m) (λ p. IsInvalidAt m p) → o ≡ Some place
    by None h = absurd (not_both m place h invalid)
    by (Some p) h = ap Some (one_place m p place h invalid)

pub valid_if : (m : Module) → invalid_at m ≡ None → IsValid m
valid_if m e = subst (λ o. MatchOption o (IsValid m) (λ place. IsInvalidAt m place)) e (place_found m)

pub invalid_if : (m : Module) (place : Option ℕ) → invalid_at m ≡ Some place → IsInvalidAt m place
invalid_if m place e = subst (λ o. MatchOption o (IsValid m) (λ p. IsInvalidAt m p)) e (place_found m)
