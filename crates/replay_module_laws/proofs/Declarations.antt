-- The functions to which bodies refer are declared in the replay module.
use Rattle.std.proofs.Common.{◌≡◌, ℕ, zero, suc, ◌+◌, ◌<◌, ◌≤◌, List, [], ◌∷◌, ◌++◌, Option, Some, None, Bool, true, false, cond, length, refl, sym, ap, ◌∙◌, subst, arith}
use Rattle.std.specs.Prelude.{◌||◌, filter, filter_map, flat_map, nat_eq}
use Rattle.std.specs.List.{AllByRecursion, Contains, cons_option, list_any, range_with_len, slice_index_or}
use Rattle.std.proofs.lemmas.Bool.Decides.{nat_tests}
use Rattle.std.proofs.lemmas.Bool.{eqb-true}
use Rattle.std.proofs.lemmas.List.{append_assoc}
use Rattle.base.proofs.Booleans.{own_number}
use Rattle.wasm_syntax.specs.declared.instructions.Instr.{Instr}
use Rattle.wasm_syntax.specs.declared.instructions.Instr.TheVariants.{RefFunc}
use Rattle.wasm_syntax.specs.declared.modules.ElemSeg.{ElemSeg}
use Rattle.wasm_syntax.specs.declared.modules.Func.{Func}
use Rattle.wasm_syntax.specs.Validity.{elem_funcs}
use Rattle.replay_module_spec.specs.Fragments.{referred_func, referred_funcs, referred_once}
use Rattle.replay_module_spec.specs.Merge.{declaration}

-- ---- tests of lists

module _ {X : Type 0} (test : X → Bool) where
  pub any_front : (xs ys : List X) → list_any test xs ≡ true → list_any test (xs ++ ys) ≡ true
  any_front [] ys h = cc
  any_front (x ∷ xs) ys h = go (test x) (any_front xs ys) h
    where
      go : (b : Bool) → (list_any test xs ≡ true → list_any test (xs ++ ys) ≡ true) → (b || list_any test xs) ≡ true
          → (b || list_any test (xs ++ ys)) ≡ true
      go true later h = refl
      go false later h = later h

  pub any_after : (xs ys : List X) → list_any test ys ≡ true → list_any test (xs ++ ys) ≡ true
  any_after [] ys h = h
  any_after (x ∷ xs) ys h = go (test x) (any_after xs ys h)
    where
      go : (b : Bool) → list_any test (xs ++ ys) ≡ true → (b || list_any test (xs ++ ys)) ≡ true
      go true later = refl
      go false later = later

any_item : {X Y : Type 0} (test : Y → Bool) (f : X → List Y) (xs ys : List X) → list_any test (flat_map f ys) ≡ true
    → list_any test (flat_map f (xs ++ ys)) ≡ true
any_item test f [] ys h = h
any_item test f (x ∷ xs) ys h = any_after test (f x) (flat_map f (xs ++ ys)) (any_item test f xs ys h)

equal_pass : (func x : ℕ) (test : ℕ → Bool) → nat_eq func x ≡ true → test func ≡ true → test x ≡ true
equal_pass func x test e h =
    let same : func ≡ x = grind (arith, nat_tests, e) in subst (λ n. test n ≡ true) same h

pub any_filter : (func : ℕ) (test : ℕ → Bool) (xs : List ℕ) → test func ≡ true → list_any (nat_eq func) xs ≡ true
    → list_any (nat_eq func) (filter test xs) ≡ true
any_filter func test [] passes h = h
any_filter func test (x ∷ xs) passes h =
    go (nat_eq func x) refl (test x) refl (any_filter func test xs passes) h
  where
    go : (b : Bool) → nat_eq func x ≡ b → (c : Bool) → test x ≡ c
        → (list_any (nat_eq func) xs ≡ true → list_any (nat_eq func) (filter test xs) ≡ true)
        → (b || list_any (nat_eq func) xs) ≡ true
        → list_any (nat_eq func) (cond c (x ∷ filter test xs) (filter test xs)) ≡ true
    go true e true c later h' = ap (λ b. b || list_any (nat_eq func) (filter test xs)) e
    go true e false c later h' = let same = equal_pass func x test e passes in absurd (cc (same, c))
    go false e true c later h' = ap (λ b. b || list_any (nat_eq func) (filter test xs)) e ∙ later h'
    go false e false c later h' = later h'

pub in_range : (func from count : ℕ) → from ≤ func → func < from + count
    → list_any (nat_eq func) (range_with_len from count) ≡ true
in_range func from zero least below = absurd (omega (arith, least, below))
in_range func from (suc count) least below =
    go (nat_eq func from) refl (λ past. in_range func (from + 1) count past (omega (arith, below)))
  where
    go : (b : Bool) → nat_eq func from ≡ b
        → (from + 1 ≤ func → list_any (nat_eq func) (range_with_len (from + 1) count) ≡ true)
        → (b || list_any (nat_eq func) (range_with_len (from + 1) count)) ≡ true
    go true e later = refl
    go false e later = later (grind (arith, nat_tests, e, least))

-- ---- references

abbrev pub IsReferred : List ℕ → Instr → Type 0
IsReferred funcs i = (func : ℕ) → i ≡ RefFunc func → list_any (nat_eq func) funcs ≡ true

weaker : (funcs more : List ℕ) (body : List Instr)
    → ((func : ℕ) → list_any (nat_eq func) funcs ≡ true → list_any (nat_eq func) more ≡ true)
    → AllByRecursion (IsReferred funcs) body → AllByRecursion (IsReferred more) body
weaker funcs more [] wider h = tt
weaker funcs more (i ∷ body) wider h =
    ((λ func e. wider func (h.0 func e)), weaker funcs more body wider h.1)

body_refers : (body : List Instr) → AllByRecursion (IsReferred (filter_map referred_func body)) body
body_refers [] = tt
body_refers (i ∷ body) = (
  (λ func e. subst (λ j. list_any (nat_eq func) (cons_option (referred_func j) (filter_map referred_func body)) ≡ true)
      (sym e) (ap (λ b. b || list_any (nat_eq func) (filter_map referred_func body)) (own_number func))),
  weaker (filter_map referred_func body) (filter_map referred_func (i ∷ body)) body
      (λ func h. one func (referred_func i) h) (body_refers body),
)
  where
    one : (func : ℕ) (o : Option ℕ) → list_any (nat_eq func) (filter_map referred_func body) ≡ true
        → list_any (nat_eq func) (cons_option o (filter_map referred_func body)) ≡ true
    one func None h = h
    one func (Some x) h = any_after (nat_eq func) (x ∷ []) (filter_map referred_func body) h

-- the functions to which the bodies of some functions refer are among those of all
pub refers_among : (before funcs after : List Func)
    → AllByRecursion (λ (f : Func). AllByRecursion (IsReferred (referred_funcs (before ++ (funcs ++ after)))) f.body)
    funcs
refers_among before [] after = tt
refers_among before (f ∷ funcs) after = (
  weaker (filter_map referred_func f.body) (referred_funcs (before ++ (f ∷ (funcs ++ after)))) f.body
      (λ func h.
      any_item (nat_eq func) (λ (f : Func). filter_map referred_func f.body) before (f ∷ (funcs ++ after))
      (any_front (nat_eq func) (filter_map referred_func f.body) (referred_funcs (funcs ++ after)) h))
      (body_refers f.body),
  subst (λ l. AllByRecursion (λ (g : Func). AllByRecursion (IsReferred (referred_funcs l)) g.body) funcs)
      (append_assoc before (f ∷ []) (funcs ++ after)) (refers_among (before ++ f ∷ []) funcs after),
)

-- ---- membership in a list, and the test of it

pub any_contains : (func : ℕ) (xs : List ℕ) → list_any (nat_eq func) xs ≡ true → Contains xs func
any_contains func [] h = cc
any_contains func (x ∷ xs) h = go (nat_eq func x) refl h (any_contains func xs)
  where
    go : (b : Bool) → nat_eq func x ≡ b → (b || list_any (nat_eq func) xs) ≡ true
        → (list_any (nat_eq func) xs ≡ true → Contains xs func) → Contains (x ∷ xs) func
    go true e h' later = (0, omega arith, sym (eqb-true func x e))
    go false e h' later = let there = later h' in (suc there.0, (let low = there.1 in omega (arith, low)), there.2)

pub contains_any : (func : ℕ) (xs : List ℕ) (place : ℕ) → place < length xs → slice_index_or xs place func ≡ func
    → list_any (nat_eq func) xs ≡ true
contains_any func [] place below is = absurd (omega (arith, below))
contains_any func (x ∷ xs) zero below is =
    let own : nat_eq func x ≡ true = grind (arith, nat_tests, is) in
    ap (λ b. b || list_any (nat_eq func) xs) own
contains_any func (x ∷ xs) (suc place) below is =
    go (nat_eq func x) (contains_any func xs place (omega (arith, below)) is)
  where
    go : (b : Bool) → list_any (nat_eq func) xs ≡ true → (b || list_any (nat_eq func) xs) ≡ true
    go true later = refl
    go false later = later

-- ---- declared functions

-- a function of a declared list is declared
pub declared_in : (func : ℕ) (declared : List ℕ) (elems : List ElemSeg) (exported : List ℕ)
    → list_any (nat_eq func) declared ≡ true
    → list_any (nat_eq func) (flat_map elem_funcs (elems ++ declaration declared) ++ exported) ≡ true
declared_in func declared elems exported h =
    any_front (nat_eq func) (flat_map elem_funcs (elems ++ declaration declared)) exported
    (any_item (nat_eq func) elem_funcs elems (declaration declared) (of_declaration declared h))
  where
    of_declaration : (declared : List ℕ) → list_any (nat_eq func) declared ≡ true
        → list_any (nat_eq func) (flat_map elem_funcs (declaration declared)) ≡ true
    of_declaration [] h' = cc
    of_declaration (x ∷ more) h' = any_front (nat_eq func) (x ∷ more) [] h'

-- a function below the given number to which bodies refer is declared
pub declared_among : (func below : ℕ) (funcs : List Func) (elems : List ElemSeg) (exported : List ℕ) → func < below
    → list_any (nat_eq func) (referred_funcs funcs) ≡ true
    → list_any (nat_eq func)
    (flat_map elem_funcs (elems ++ declaration (referred_once below funcs)) ++ exported) ≡ true
declared_among func below funcs elems exported small h =
    declared_in func (referred_once below funcs) elems exported
    (any_filter func (λ f. list_any (nat_eq f) (referred_funcs funcs)) (range_with_len 0 below) h
    (in_range func 0 below (omega arith) (omega (arith, small))))

-- a number in a range is below its end
pub range_end : (func from count : ℕ) → list_any (nat_eq func) (range_with_len from count) ≡ true → func < from + count
range_end func from zero h = cc
range_end func from (suc count) h = go (nat_eq func from) refl h (range_end func (from + 1) count)
  where
    go : (b : Bool) → nat_eq func from ≡ b → (b || list_any (nat_eq func) (range_with_len (from + 1) count)) ≡ true
        → (list_any (nat_eq func) (range_with_len (from + 1) count) ≡ true → func < from + 1 + count)
        → func < from + suc count
    go true e h later = let same : func ≡ from = grind (arith, nat_tests, e) in omega (arith, same)
    go false e h later = let below = later h in omega (arith, below)
