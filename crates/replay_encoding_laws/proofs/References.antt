-- The number of functions to which bodies refer, each counted once, is at most the number of references.
use Rattle.std.proofs.Common.{◌≡◌, ℕ, zero, suc, ◌+◌, ◌*◌, ◌<◌, ◌≤◌, ◌⊎◌, inl, inr, List, [], ◌∷◌, length, Bool, true, false, cond, refl, arith}
use Rattle.std.specs.Prelude.{filter, filter_map, nat_eq}
use Rattle.std.specs.List.{AllByRecursion, cons_option, list_any, range_with_len}
use Rattle.std.proofs.lemmas.Bool.Decides.{nat_tests}
use Rattle.std.proofs.lemmas.List.{length-append}
use Rattle.base.proofs.Booleans.{or_cases}
use Rattle.wasm_syntax.specs.declared.instructions.Instr.{Instr}
use Rattle.wasm_syntax.specs.declared.instructions.Instr.TheVariants.{RefFunc}
use Rattle.wasm_syntax.specs.declared.modules.Func.{Func}
use Rattle.wasm_syntax.specs.Encoding.Forms.{AreCoreInstrs, IsCoreInstr}
use Rattle.replay_module_spec.specs.Fragments.{referred_func, referred_funcs, referred_once}
use Rattle.replay_encoding_laws.proofs.Instructions.{marks}
use Rattle.replay_encoding_laws.proofs.Bodies.{all_marks}

-- ---- numbers that pass tests

-- a number that passes one test passes one of two others
either_most : (p q r : ℕ → Bool) → ((n : ℕ) → r n ≡ true → (p n ≡ true) ⊎ (q n ≡ true)) → (xs : List ℕ)
    → length (filter r xs) ≤ length (filter p xs) + length (filter q xs)
either_most p q r one [] = omega arith
either_most p q r one (x ∷ xs) = go (p x) (q x) (r x) (one x) (either_most p q r one xs)
  where
    go : (a b c : Bool) → (c ≡ true → (a ≡ true) ⊎ (b ≡ true))
        → length (filter r xs) ≤ length (filter p xs) + length (filter q xs)
        → length (cond c (x ∷ filter r xs) (filter r xs))
        ≤ length (cond a (x ∷ filter p xs) (filter p xs)) + length (cond b (x ∷ filter q xs) (filter q xs))
    go true true true one' later = omega (arith, later)
    go true false true one' later = omega (arith, later)
    go false true true one' later = omega (arith, later)
    go false false true one' later = elim (one' refl) [ inl h ↦ absurd (cc h) | inr h ↦ absurd (cc h) ]
    go true true false one' later = omega (arith, later)
    go true false false one' later = omega (arith, later)
    go false true false one' later = omega (arith, later)
    go false false false one' later = later

none_pass : (xs : List ℕ) → length (filter (λ func. list_any (nat_eq func) []) xs) ≡ 0
none_pass [] = refl
none_pass (x ∷ xs) = none_pass xs

-- ---- ranges

none_equal : (x from count : ℕ) → x < from → length (filter (λ func. nat_eq func x) (range_with_len from count)) ≡ 0
none_equal x from zero past = refl
none_equal x from (suc count) past =
    go (nat_eq from x) refl (none_equal x (from + 1) count (omega (arith, past)))
  where
    go : (b : Bool) → nat_eq from x ≡ b
        → length (filter (λ func. nat_eq func x) (range_with_len (from + 1) count)) ≡ 0
        → length (cond b (from ∷ filter (λ func. nat_eq func x) (range_with_len (from + 1) count))
        (filter (λ func. nat_eq func x) (range_with_len (from + 1) count))) ≡ 0
    go true e later = let same : from ≡ x = grind (arith, nat_tests, e) in absurd (omega (arith, same, past))
    go false e later = later

one_equal : (x from count : ℕ) → length (filter (λ func. nat_eq func x) (range_with_len from count)) ≤ 1
one_equal x from zero = omega arith
one_equal x from (suc count) = go (nat_eq from x) refl (one_equal x (from + 1) count)
  where
    go : (b : Bool) → nat_eq from x ≡ b
        → length (filter (λ func. nat_eq func x) (range_with_len (from + 1) count)) ≤ 1
        → length (cond b (from ∷ filter (λ func. nat_eq func x) (range_with_len (from + 1) count))
        (filter (λ func. nat_eq func x) (range_with_len (from + 1) count))) ≤ 1
    go true e later =
        let same : from ≡ x = grind (arith, nat_tests, e) in
        let none = none_equal x (from + 1) count (omega (arith, same)) in
        omega (arith, none)
    go false e later = later

among_most : (refs : List ℕ) (from count : ℕ)
    → length (filter (λ func. list_any (nat_eq func) refs) (range_with_len from count)) ≤ length refs
among_most [] from count = let none = none_pass (range_with_len from count) in omega (arith, none)
among_most (x ∷ refs) from count =
    let parts =
    either_most (λ func. nat_eq func x) (λ func. list_any (nat_eq func) refs)
    (λ func. list_any (nat_eq func) (x ∷ refs))
    (λ n h. or_cases (nat_eq n x) (list_any (nat_eq n) refs) h) (range_with_len from count) in
    let one = one_equal x from count in
    let later = among_most refs from count in
    omega (arith, parts, one, later)

pub once_most : (below : ℕ) (funcs : List Func) → length (referred_once below funcs) ≤ length (referred_funcs funcs)
once_most below funcs = among_most (referred_funcs funcs) 0 below

-- ---- marks

marks_are : (is : List Instr) → 5 * length (filter_map referred_func is) ≡ all_marks is
marks_are [] = refl
marks_are (i ∷ is) = go i (marks_are is)
  where
    go : (i : Instr) → 5 * length (filter_map referred_func is) ≡ all_marks is
        → 5 * length (cons_option (referred_func i) (filter_map referred_func is)) ≡ marks i + all_marks is
    go (RefFunc func) later = omega (arith, later)
    go i later = omega (arith, later)

-- the marks of all bodies
abbrev pub total_marks : List Func → ℕ
total_marks [] = 0
total_marks (func ∷ funcs) = all_marks func.body + total_marks funcs

pub total_marks_are : (funcs : List Func) → 5 * length (referred_funcs funcs) ≡ total_marks funcs
total_marks_are [] = refl
total_marks_are (func ∷ funcs) =
    let both : length (referred_funcs (func ∷ funcs))
    ≡ length (filter_map referred_func func.body) + length (referred_funcs funcs) =
    length-append (filter_map referred_func func.body) (referred_funcs funcs) in
    let own = marks_are func.body in
    let later = total_marks_are funcs in
    omega (arith, both, own, later)

-- a module of the form Core has no marks
core_marks : (body : List Instr) → AreCoreInstrs body → all_marks body ≡ 0
core_marks [] core = refl
core_marks (i ∷ body) core = go i core.0 (core_marks body core.1)
  where
    go : (i : Instr) → IsCoreInstr i → all_marks body ≡ 0 → marks i + all_marks body ≡ 0
    go (RefFunc func) h later = absurd h
    go i h later = omega (arith, later)

pub no_marks : (funcs : List Func) → AllByRecursion (λ func. AreCoreInstrs func.body) funcs → total_marks funcs ≡ 0
no_marks [] core = refl
no_marks (func ∷ funcs) core =
    let own = core_marks func.body core.0 in let later = no_marks funcs core.1 in omega (arith, own, later)
