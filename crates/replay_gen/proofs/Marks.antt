-- Laws on the functions that bodies refer to.
use Rattle.std.proofs.Common.{◌≡◌, ◌∙◌, refl, ap, sym, append_assoc, ℕ, suc, zero, ◌+◌, ◌<◌, List, [], ◌∷◌, ◌++◌, length, take, get_or, Option, Some, None, Bool, cond, filter, filter_map, arith}
use Rattle.std.specs.List.{cons_option, range_with_len}
use Rattle.std.proofs.lemmas.Grind.{flat_map-append}
use Rattle.std.proofs.lemmas.List.{take_more, flat_map_more, map-id}
use Rattle.std.proofs.lemmas.List.FromFn.{filter_of_map_range_with_len_more}
use Rattle.wasm_syntax.specs.declared.modules.Func.{Func}
use Rattle.wasm_syntax.specs.declared.instructions.Instr.{Instr}
use Rattle.replay_module_spec.specs.Fragments.{referred_func, referred_funcs}

picked_before : (o : Option ℕ) (xs ys : List ℕ) → cons_option o (xs ++ ys) ≡ cons_option o xs ++ ys
picked_before None xs ys = refl
picked_before (Some x) xs ys = refl

referred_last : (body : List Instr) (i : Instr)
    → filter_map referred_func (body ++ i ∷ []) ≡ filter_map referred_func body ++ cons_option (referred_func i) []
referred_last [] i = refl
referred_last (j ∷ body) i =
    ap (cons_option (referred_func j)) (referred_last body i)
    ∙ picked_before (referred_func j) (filter_map referred_func body) (cons_option (referred_func i) [])

-- one more instruction
pub instr_more : (done : List ℕ) (body : List Instr) (n : ℕ) (i : Instr) → n < length body → i ≡ get_or body n i
    → (done ++ filter_map referred_func (take n body)) ++ cons_option (referred_func i) []
    ≡ done ++ filter_map referred_func (take (n + 1) body)
instr_more done body n i within is =
    append_assoc done (filter_map referred_func (take n body)) (cons_option (referred_func i) [])
    ∙ ap (λ l. done ++ l) (sym (referred_last (take n body) i)
    ∙ ap (filter_map referred_func) (ap (λ j. take n body ++ j ∷ []) is ∙ sym (take_more body n i within)))

-- one more function
pub func_more : (done : List ℕ) (funcs : List Func) (n : ℕ) (func : Func) → n < length funcs → func ≡ get_or funcs n func
    → (done ++ referred_funcs (take n funcs)) ++ filter_map referred_func func.body
    ≡ done ++ referred_funcs (take (n + 1) funcs)
func_more done funcs n func within is =
    flat_map_more (λ (f : Func). filter_map referred_func f.body) done (take n funcs) func
    ∙ ap (λ l. done ++ referred_funcs l) (ap (λ f. take n funcs ++ f ∷ []) is ∙ sym (take_more funcs n func within))

-- three lists of functions
pub referred_of_all : (bodies own helpers : List Func)
    → (referred_funcs bodies ++ referred_funcs own) ++ referred_funcs helpers ≡ referred_funcs (bodies ++ (own ++ helpers))
referred_of_all bodies own helpers =
    append_assoc (referred_funcs bodies) (referred_funcs own) (referred_funcs helpers)
    ∙ (ap (λ l. referred_funcs bodies ++ l) (sym (flat_map-append (λ (f : Func). filter_map referred_func f.body) own helpers))
    ∙ sym (flat_map-append (λ (f : Func). filter_map referred_func f.body) bodies (own ++ helpers)))

-- ---- marked numbers

pub marked_more : (test : ℕ → Bool) (n : ℕ) (before now : List ℕ) → before ≡ filter test (range_with_len 0 n)
    → now ≡ before ++ cond (test n) (n ∷ []) [] → now ≡ filter test (range_with_len 0 (n + 1))
marked_more test n before now invariant written =
    written ∙ (ap (λ l. l ++ cond (test n) (n ∷ []) []) (invariant ∙ ap (filter test) (sym (map-id (range_with_len 0 n))))
    ∙ (sym (filter_of_map_range_with_len_more test (λ (x : ℕ). x) 0 n n (omega arith)) ∙ ap (filter test) (map-id (range_with_len 0 (n + 1)))))

-- tests that agree on a range
pub same_filter : (test other : ℕ → Bool) (first n : ℕ) → ((f : ℕ) → f < first + n → test f ≡ other f)
    → filter test (range_with_len first n) ≡ filter other (range_with_len first n)
same_filter test other first zero same = refl
same_filter test other first (suc n) same =
    let rest : filter test (range_with_len (first + 1) n) ≡ filter other (range_with_len (first + 1) n) =
    same_filter test other (first + 1) n (λ f lt. same f (omega (arith, lt))) in
    let here : test first ≡ other first = same first (omega arith) in
    ap (λ b. cond b (first ∷ filter test (range_with_len (first + 1) n)) (filter test (range_with_len (first + 1) n))) here
    ∙ ap (λ l. cond (other first) (first ∷ l) l) rest
