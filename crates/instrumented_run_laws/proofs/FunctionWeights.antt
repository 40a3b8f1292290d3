-- The weights of instrumented functions, as their meter has them.
use Rattle.std.proofs.Common.{◌≡◌, ℕ, zero, suc, ◌+◌, ◌-◌, ◌≤◌, List, [], ◌∷◌, ◌++◌, Option, Some, None, slice_get, slice_index, sym, ap, ◌∙◌, arith}
use Rattle.std.specs.List.{AllByRecursion, slice_index_or}
use Rattle.std.proofs.lemmas.Option.{get_or_from_slice_get}
use Rattle.base.proofs.Lists.{joined_all}
use Rattle.wasm_syntax.specs.declared.signatures.FuncType.{FuncType}
use Rattle.wasm_syntax.specs.declared.instructions.Instr.{Instr}
use Rattle.wasm_syntax.specs.declared.modules.Func.{Func}
use Rattle.wasm_syntax.specs.declared.modules.Module.{Module}
use Rattle.wasm_syntax.specs.Index.{imported_funcs, type_at}
use Rattle.wasm_syntax.specs.Nest.{Nest, Empty, Plain, InBlock, InLoop, InIf, InIfElse, nest_of}
use Rattle.history_spec.specs.Code.{Definition, code_of, signature, definition}
use Rattle.history_spec.specs.Run.{Meter}
use Rattle.record_replay_spec.specs.Hooks.{hook_count, renumber}
use Rattle.record_replay_spec.specs.Insertions.{Site, inserted_before, inserted_after, inserted_at_enter, inserted_at_end}
use Rattle.record_replay_spec.specs.Instrumented.{site_of, weightless, weights_of_nest, weights_of_body, weights_of_func, each_func, instrumented_weights, instrumented_meter}
use Rattle.instrumented_run_laws.proofs.DefinedFunctions as functions
use Rattle.instrumented_run_laws.proofs.DefinedFunctions.{IsDefined, is_defined, each_at}
use Rattle.instrumented_run_laws.proofs.Relation.{site_at}
use Rattle.instrumented_run_laws.proofs.Weights.{AreWeights}

-- each weight, by its instruction's number
are_weights : (meter : Meter) (func number : ℕ) (ws : List ℕ)
    → ((j : ℕ) → meter.instruction func (number + j) ≡ slice_index ws j) → AreWeights meter func number ws
are_weights meter func number [] each = tt
are_weights meter func number (w ∷ ws) each =
    let here : number + 0 ≡ number = omega arith in (
      ap (meter.instruction func) (sym here) ∙ each 0,
      are_weights meter func (number + 1) ws (λ j.
          let next : number + 1 + j ≡ number + suc j = omega arith in
          ap (meter.instruction func) next ∙ each (suc j)),
    )

-- the weights of a defined function
pub function_weights : (m : Module) (func : ℕ) (ty : FuncType) (d : Definition) → signature (code_of m) func ≡ Some ty
    → definition (code_of m) func ≡ Some d
    → AreWeights (instrumented_meter m) (renumber (imported_funcs m) func) 0 (weights_of_body (site_at m func) ty
    d.body)
function_weights m func ty d signed defined =
    let own = is_defined m func ty d signed defined in
    let at : imported_funcs m + own.place ≡ func = sym own.index_is in
    let number = functions.renumbered_is m func ty d signed defined in
    let place : renumber (imported_funcs m) func - (imported_funcs m + hook_count) ≡ own.place =
    omega (arith, at, number) in
    let made : slice_get (instrumented_weights m) own.place ≡ Some (weights_of_body (site_at m func) ty d.body) =
    each_at m (weights_of_func m) (imported_funcs m) m.funcs own.place own.func own.there
    ∙ (λ i. Some (weights_of_func m (at i) own.func (own.has_type i) (own.nested i)))
    ∙ (λ i. Some (weights_of_body (functions.site_same m func ty d signed defined i) ty d.body)) in
    let found : slice_index_or (instrumented_weights m)
    (renumber (imported_funcs m) func - (imported_funcs m + hook_count)) []
    ≡ weights_of_body (site_at m func) ty d.body =
    ap (λ k. slice_index_or (instrumented_weights m) k []) place
    ∙ get_or_from_slice_get (instrumented_weights m) own.place (weights_of_body (site_at m func) ty d.body) [] made in
    are_weights (instrumented_meter m) (renumber (imported_funcs m) func) 0 (weights_of_body (site_at m func) ty d.body)
    (λ j. let e : 0 + j ≡ j = omega arith in
    (λ i. slice_index (found i) (e i)))

-- ---- each weight is 0 or 1

abbrev AreSmall : List ℕ → Type 0
AreSmall ws = AllByRecursion (λ w. w ≤ 1) ws

small_weightless : (is : List Instr) → AreSmall (weightless is)
small_weightless [] = tt
small_weightless (i ∷ is) = (omega arith, small_weightless is)

small_both : (a b : List ℕ) → AreSmall a → AreSmall b → AreSmall (a ++ b)
small_both a b h k = joined_all (λ w. w ≤ 1) a b h k

small_nest : (s : Site) (nest : Nest) → AreSmall (weights_of_nest s nest)
small_nest s Empty = tt
small_nest s (Plain i rest) =
    small_both (weightless (inserted_before s i)) _ (small_weightless (inserted_before s i)) (
      omega arith,
      small_both (weightless (inserted_after s i)) (weights_of_nest s rest) (small_weightless (inserted_after s i))
          (small_nest s rest),
    )
small_nest s (InBlock ty body rest) =
    (omega arith, small_both (weights_of_nest s body) (weights_of_nest s rest) (small_nest s body) (small_nest s rest))
small_nest s (InLoop ty body rest) =
    (omega arith, small_both (weights_of_nest s body) (weights_of_nest s rest) (small_nest s body) (small_nest s rest))
small_nest s (InIf ty body rest) =
    (omega arith, small_both (weights_of_nest s body) (weights_of_nest s rest) (small_nest s body) (small_nest s rest))
small_nest s (InIfElse ty body other rest) = (
  omega arith,
  small_both (weights_of_nest s body) (weights_of_nest s other ++ weights_of_nest s rest) (small_nest s body)
      (small_both (weights_of_nest s other) (weights_of_nest s rest) (small_nest s other) (small_nest s rest)),
)

small_body : (s : Site) (ty : FuncType) (nest : Nest) → AreSmall (weights_of_body s ty nest)
small_body s ty nest =
    small_both (weightless (inserted_at_enter s ty.params)) _ (small_weightless (inserted_at_enter s ty.params)) (
      omega arith,
      small_both (weights_of_nest s nest) (weightless (inserted_at_end s)) (small_nest s nest)
          (small_weightless (inserted_at_end s)),
    )

small_func : (m : Module) (index : ℕ) (func : Func) (ty : Option FuncType) (nest : Option Nest)
    → AreSmall (weights_of_func m index func ty nest)
small_func m index func None nest = tt
small_func m index func (Some ty) None = tt
small_func m index func (Some ty) (Some nest) = small_body (site_of m index ty func) ty nest

small_funcs : (m : Module) (index : ℕ) (funcs : List Func) (place : ℕ)
    → AreSmall (slice_index_or (each_func m (weights_of_func m) index funcs) place [])
small_funcs m index [] place = tt
small_funcs m index (func ∷ funcs) zero = small_func m index func (type_at m func.ty) (nest_of func.body)
small_funcs m index (func ∷ funcs) (suc place) = small_funcs m (index + 1) funcs place

small_at : (ws : List ℕ) (number : ℕ) → AreSmall ws → slice_index ws number ≤ 1
small_at [] number h = omega arith
small_at (w ∷ ws) zero h = h.0
small_at (w ∷ ws) (suc number) h = small_at ws number h.1

-- an instruction of the instrumented module takes at most one turn
pub weight_at_most_one : (m : Module) (func number : ℕ) → (instrumented_meter m).instruction func number ≤ 1
weight_at_most_one m func number =
    small_at _ number
    (small_funcs m (imported_funcs m) m.funcs (func - (imported_funcs m + hook_count)))
