-- The imports of functions and of hooks, counted and looked through one by one.
use Rattle.std.proofs.Common.{◌≡◌, ℕ, zero, suc, ◌+◌, ◌<◌, ◌≤◌, List, [], ◌∷◌, length, drop, get_or, Bool, true, false, cond, nat_eq, refl, ap, sym, ◌∙◌, arith}
use Rattle.std.specs.Prelude.{filter, count_by}
use Rattle.std.specs.List.{cons_option}
use Rattle.std.proofs.lemmas.Bool.Decides.{nat_tests}
use Rattle.std.proofs.lemmas.List.{drop_more, drop_all}
use Rattle.std.proofs.lemmas.List.Sums.{sum_by-cons}
use Rattle.wasm_syntax.specs.declared.modules.Import.{Import}
use Rattle.wasm_syntax.specs.declared.modules.ImportKind.{ImportKind}
use Rattle.wasm_syntax.specs.declared.modules.ImportKind.TheVariants.{Func, Table, Memory, Global}
use Rattle.wasm_syntax.specs.declared.modules.Module.{Module}
use Rattle.wasm_syntax.specs.Index.{func_import, of_kind}
use Rattle.record_replay_spec.specs.declared.hooks.Hook.{Hook}
use Rattle.record_replay_spec.specs.HookedForm.{are_hooks, is_from_hooks, is_func_kind, is_hook}

-- ---- counted

filtered : {X : Type 0} (p : X → Bool) (x : X) (xs : List X) (b : Bool) (n : ℕ) → n ≡ length (filter p xs)
    → cond b 1 0 + n ≡ length (cond b (x ∷ filter p xs) (filter p xs))
filtered p x xs true n h = omega (arith, h)
filtered p x xs false n h = omega (arith, h)

counted : {X : Type 0} (p : X → Bool) (xs : List X) → count_by p xs ≡ length (filter p xs)
counted p [] = refl
counted p (x ∷ xs) = sum_by-cons (λ y. cond (p y) 1 0) x xs ∙ filtered p x xs (p x) (count_by p xs) (counted p xs)

pub hooks_counted : (imports : List Import) → count_by is_from_hooks imports ≡ length (filter is_from_hooks imports)
hooks_counted imports = counted is_from_hooks imports

one_more : (kind : ImportKind) (indices : List ℕ) (n : ℕ) → n ≡ length indices
    → cond (is_func_kind kind) 1 0 + n ≡ length (cons_option (func_import kind) indices)
one_more (Func ty) indices n h = omega (arith, h)
one_more (Table limits) indices n h = omega (arith, h)
one_more (Memory limits) indices n h = omega (arith, h)
one_more (Global ty) indices n h = omega (arith, h)

pub funcs_counted : (imports : List Import)
    → count_by (λ (import : Import). is_func_kind import.kind) imports ≡ length (of_kind func_import imports)
funcs_counted [] = refl
funcs_counted (import ∷ imports) =
    sum_by-cons (λ (i : Import). cond (is_func_kind i.kind) 1 0) import imports
    ∙ one_more import.kind (of_kind func_import imports)
    (count_by (λ (i : Import). is_func_kind i.kind) imports) (funcs_counted imports)

-- ---- one by one

-- the imports of functions after the skipped ones are the hooks from a place on
abbrev pub left_are_hooks : Module → (kinds : List Hook) → (place skipped : ℕ) → List Import → Bool
left_are_hooks m kinds place skipped imports =
    are_hooks m (drop place kinds) (drop skipped (filter (λ (i : Import). is_func_kind i.kind) imports))

module _ (m : Module) (kinds : List Hook) (place skipped : ℕ) (imports : List Import) (i : ℕ) (import d : Import)
    (lt : i < length imports) (here : import ≡ get_or imports i d) where
  front : drop i imports ≡ import ∷ drop (i + 1) imports
  front = drop_more imports i d lt ∙ ap (λ x. x ∷ drop (i + 1) imports) (sym here)

  pub skips : (less : ℕ) → is_func_kind import.kind ≡ true → suc less ≡ skipped
      → left_are_hooks m kinds place skipped (drop i imports)
      ≡ left_are_hooks m kinds place less (drop (i + 1) imports)
  skips less func more = rw (front, func, sym more) refl

  pub takes : (kind : Hook) → is_func_kind import.kind ≡ true → skipped ≡ 0 → place < length kinds
      → is_hook m (get_or kinds place kind) import ≡ true
      → left_are_hooks m kinds place skipped (drop i imports)
      ≡ left_are_hooks m kinds (place + 1) skipped (drop (i + 1) imports)
  takes kind func none within is =
      let kinds_front : drop place kinds ≡ get_or kinds place kind ∷ drop (place + 1) kinds =
      drop_more kinds place kind within in
      rw (front, func, none, kinds_front, is) refl

  pub differs : (kind : Hook) → is_func_kind import.kind ≡ true → skipped ≡ 0 → place < length kinds
      → is_hook m (get_or kinds place kind) import ≡ false
      → left_are_hooks m kinds place skipped (drop i imports) ≡ false
  differs kind func none within is =
      let kinds_front : drop place kinds ≡ get_or kinds place kind ∷ drop (place + 1) kinds =
      drop_more kinds place kind within in
      rw (front, func, none, kinds_front, is) refl

  pub too_many : is_func_kind import.kind ≡ true → skipped ≡ 0 → length kinds ≤ place
      → left_are_hooks m kinds place skipped (drop i imports) ≡ false
  too_many func none past = rw (front, func, none, drop_all place kinds past) refl

abbrev no_imports : List Import
no_imports = []

drop_none : (n : ℕ) → drop n no_imports ≡ no_imports
drop_none n = let least : 0 ≤ n = omega arith in drop_all n no_imports least

longer : (m n : ℕ) → nat_eq (suc m) (suc n) ≡ nat_eq m n
longer m n = grind (arith, nat_tests)

empty : (n : ℕ) → nat_eq 0 (suc n) ≡ false
empty n = grind (arith, nat_tests)

all_there : (m : Module) (kinds : List Hook) (place : ℕ) → place ≤ length kinds
    → are_hooks m (drop place kinds) [] ≡ nat_eq place (length kinds)
all_there m [] zero within = refl
all_there m [] (suc place) within = absurd (few within)
  where
    few : suc place ≤ 0 → ⊥
    few less = omega (arith, less)
all_there m (kind ∷ kinds) zero within = sym (empty (length kinds))
all_there m (kind ∷ kinds) (suc place) within =
    all_there m kinds place (omega (arith, within)) ∙ sym (longer place (length kinds))

pub at_end : (m : Module) (kinds : List Hook) (place skipped : ℕ) (imports : List Import) (i : ℕ)
    → length imports ≤ i → place ≤ length kinds
    → left_are_hooks m kinds place skipped (drop i imports) ≡ nat_eq place (length kinds)
at_end m kinds place skipped imports i past within =
    ap (left_are_hooks m kinds place skipped) (drop_all i imports past)
    ∙ ap (are_hooks m (drop place kinds)) (drop_none skipped)
    ∙ all_there m kinds place within
