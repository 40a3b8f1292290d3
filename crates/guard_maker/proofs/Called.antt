-- Laws on the functions that bodies call.
use Rattle.std.proofs.Common.{◌≡◌, ◌∙◌, refl, ap, sym, append_assoc, ℕ, ◌+◌, ◌<◌, ◌≤◌, List, [], ◌∷◌, ◌++◌, length, map, take, Bool, flat_map, filter_map, get_or, false, arith}
use Rattle.std.specs.List.{cons_option, enumerate_from}
use Rattle.std.proofs.lemmas.List.{flat_map_more, take_more}
use Rattle.wasm_syntax.specs.declared.signatures.FuncType.{FuncType}
use Rattle.wasm_syntax.specs.declared.instructions.Instr.{Instr}
use Rattle.wasm_syntax.specs.declared.modules.Func.{Func}
use Rattle.wasm_syntax.proofs.JoinedLists.{cons_front}
use Rattle.module_index.specs.Marks.{AreMarks}
use Rattle.guarded_module_spec.specs.declared.numbers.Numbers.{Numbers}
use Rattle.guarded_module_spec.specs.Fronts.{func_front}
use Rattle.guarded_module_spec.specs.GuardedModules.{called_func, called_funcs, func_fronts, is_called, type_in}
use Rattle.guard_maker.specs.Parts.{marked_fronts}

called_last : (body : List Instr) (i : Instr)
    → filter_map called_func (body ++ i ∷ []) ≡ filter_map called_func body ++ cons_option (called_func i) []
called_last [] i = refl
called_last (j ∷ body) i =
    ap (cons_option (called_func j)) (called_last body i)
    ∙ cons_front (called_func j) (filter_map called_func body) (cons_option (called_func i) [])

-- one more instruction
pub instr_more : (done : List ℕ) (body : List Instr) (n : ℕ) (i : Instr) → n < length body → i ≡ get_or body n i
    → (done ++ filter_map called_func (take n body)) ++ cons_option (called_func i) []
    ≡ done ++ filter_map called_func (take (n + 1) body)
instr_more done body n i within is =
    append_assoc done (filter_map called_func (take n body)) (cons_option (called_func i) [])
    ∙ ap (λ l. done ++ l) (sym (called_last (take n body) i)
    ∙ ap (filter_map called_func) (ap (λ j. take n body ++ j ∷ []) is ∙ sym (take_more body n i within)))

-- one more function
pub func_more : (done : List ℕ) (funcs : List Func) (n : ℕ) (func : Func) → n < length funcs → func ≡ get_or funcs n func
    → (done ++ called_funcs (take n funcs)) ++ filter_map called_func func.body
    ≡ done ++ called_funcs (take (n + 1) funcs)
func_more done funcs n func within is =
    flat_map_more (λ (f : Func). filter_map called_func f.body) done (take n funcs) func
    ∙ ap (λ l. done ++ called_funcs l) (ap (λ f. take n funcs ++ f ∷ []) is ∙ sym (take_more funcs n func within))

-- the fronts by marks are those by the functions outside
pub fronts_marked : (types : List FuncType) (n : Numbers) (marks : List Bool) (count first : ℕ) (outside funcs : List Func)
    → AreMarks marks count (called_funcs outside) → first + length funcs ≤ count
    → marked_fronts types n marks first funcs ≡ func_fronts types n outside first funcs
fronts_marked types n marks count first outside [] are few = refl
fronts_marked types n marks count first outside (f ∷ funcs) are few =
    ap (λ b. func_front b n (type_in types f.ty) first f.ty ∷ marked_fronts types n marks (first + 1) funcs)
    (are.each first (omega (arith, few)))
    ∙ ap (λ l. func_front (is_called first outside) n (type_in types f.ty) first f.ty ∷ l)
    (fronts_marked types n marks count (first + 1) outside funcs are (omega (arith, few)))
