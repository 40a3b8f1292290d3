-- Exactly the functions to which bodies refer are declared.
use Rattle.std.proofs.Common.{◌≡◌, ◌↔◌, ℕ, ◌<◌, List, [], ◌∷◌, Bool, true, false, cond, refl, sym, subst, arith}
use Rattle.std.specs.Prelude.{◌||◌, filter, nat_eq}
use Rattle.std.specs.List.{AllByRecursion, Contains, list_any, range_with_len}
use Rattle.std.proofs.lemmas.List.Elements.{All-contains, All-from_recursion}
use Rattle.std.proofs.lemmas.Bool.{eqb-true}
use Rattle.wasm_syntax.specs.declared.modules.Func.{Func}
use Rattle.replay_module_spec.specs.Fragments.{referred_funcs, referred_once}
use Rattle.replay_module_laws.proofs.Declarations.{any_contains, any_filter, contains_any, in_range}

-- ---- what a filter keeps

filter_passes : (func : ℕ) (test : ℕ → Bool) (xs : List ℕ) → list_any (nat_eq func) (filter test xs) ≡ true
    → test func ≡ true
filter_passes func test [] h = cc
filter_passes func test (x ∷ xs) h = go (test x) refl h (filter_passes func test xs)
  where
    first : (b : Bool) → nat_eq func x ≡ b → test x ≡ true
        → (b || list_any (nat_eq func) (filter test xs)) ≡ true
        → (list_any (nat_eq func) (filter test xs) ≡ true → test func ≡ true) → test func ≡ true
    first true e passes h' later = subst (λ n. test n ≡ true) (sym (eqb-true func x e)) passes
    first false e passes h' later = later h'

    go : (b : Bool) → test x ≡ b → list_any (nat_eq func) (cond b (x ∷ filter test xs) (filter test xs)) ≡ true
        → (list_any (nat_eq func) (filter test xs) ≡ true → test func ≡ true) → test func ≡ true
    go true passes h' later = first (nat_eq func x) refl passes h' later
    go false passes h' later = later h'

-- ---- declared functions

pub declared_are : (below : ℕ) (funcs : List Func) → AllByRecursion (λ func. func < below) (referred_funcs funcs)
    → (func : ℕ) → Contains (referred_once below funcs) func ↔ Contains (referred_funcs funcs) func
declared_are below funcs all func = (
  (λ there.
      any_contains func (referred_funcs funcs)
      (filter_passes func (λ f. list_any (nat_eq f) (referred_funcs funcs)) (range_with_len 0 below)
      (contains_any func (referred_once below funcs) there.0 there.1 there.2))),
  (λ there.
      let small = All-contains (λ f. f < below) (referred_funcs funcs) func
      (All-from_recursion (λ f. f < below) (referred_funcs funcs) all) there in
      any_contains func (referred_once below funcs)
      (any_filter func (λ f. list_any (nat_eq f) (referred_funcs funcs)) (range_with_len 0 below)
      (contains_any func (referred_funcs funcs) there.0 there.1 there.2)
      (in_range func 0 below (omega arith) (omega (arith, small))))),
)
