-- The next instruction of a well-typed activation, blocks included, has a rule.
use Rattle.std.proofs.Common.{◌≡◌, ℕ, suc, zero, ◌+◌, ◌≤◌, List, [], ◌∷◌, ◌++◌, length, Option, Some, None, refl, subst, arith}
use Rattle.wasm_syntax.specs.declared.values.ValType.{ValType}
use Rattle.wasm_syntax.specs.declared.values.ValType.TheVariants.{I32}
use Rattle.wasm_syntax.specs.Nest.{Nest, Empty, Plain, InBlock, InLoop, InIf, InIfElse, size}
use Rattle.wasm_syntax.specs.Index.{all_tables}
use Rattle.wasm_syntax.specs.Typing.{results_of}
use Rattle.history_spec.specs.Store.{Store}
use Rattle.history_spec.specs.Code.{code_of}
use Rattle.history_spec.specs.Configuration.{Place, place, Frame}
use Rattle.history_spec.specs.Instruction.{block_arity, bits_at, choice, takes, enters, execute_at, execute}
use Rattle.wasm_numeric.specs.Laws.{ResultsFit}
use Rattle.type_safety.specs.Values.{AreValues}
use Rattle.type_safety.specs.Stores.{func_count, IsStore}
use Rattle.type_safety.specs.Frames.{Scope, IsCode, base_of, IsAround, IsFrame}
use Rattle.type_safety.specs.Configurations.{IsGoing}
use Rattle.type_safety.proofs.Values.{length_values}
use Rattle.type_safety.proofs.Codes.{of_plain, of_block, of_loop, of_if, of_if_else}
use Rattle.type_safety.specs.Results.{HasRule}
use Rattle.type_safety.proofs.Fine.{takes_fine, enters_fine}
use Rattle.type_safety.proofs.Instructions.{HaveTypes, plain_fine}

pub arity_is : (ty : Option ValType) → block_arity ty ≡ length (results_of ty)
arity_is None = refl
arity_is (Some t) = refl

chosen_place : (P : Place → Type 0) (bits : ℕ) (a b : Place) → P a → P b → P (choice bits a b)
chosen_place P zero a b p q = q
chosen_place P (suc n) a b p q = p

-- a missing `else` is an empty sequence
empty_code : (s : Scope) (labels : List (List ValType)) (number base : ℕ) (results : List ValType) → [] ≡ results
    → IsCode s labels (place Empty number) base [] results
empty_code s labels number base results none =
    record { typed = none; supported = tt; heights = λ k below. absurd (omega arith) }

module _ (laws : ResultsFit) (s : Scope) (have : HaveTypes s) (one : length (all_tables s.m) ≤ 1) (store : Store)
    (is_store : IsStore s.m store) (frame : Frame) (labels : List (List ValType)) (given : List ValType)
    (around : IsAround s labels given frame) (types : List ValType)
    (values : AreValues (func_count s.m) types frame.values) where
  -- a choice, by the topmost value, between two bodies that both give the results of the block
  choice_fine : (ty : Option ValType) (below : List ValType) (first second next : Place) → types ≡ I32 ∷ below
      → IsCode s (results_of ty ∷ labels) first (base_of frame.labels + length below) [] (results_of ty)
      → IsCode s (results_of ty ∷ labels) second (base_of frame.labels + length below) [] (results_of ty)
      → IsCode s labels next (base_of frame.labels) (results_of ty ++ below) given
      → HasRule s (takes frame (I32 ∷ [])
      (λ operands vs. enters store frame operands vs (block_arity ty) (choice (bits_at operands 0) first second) next
      next))
  choice_fine ty below first second next same p q code =
      takes_fine s frame (I32 ∷ []) below
      (λ operands vs. enters store frame operands vs (block_arity ty) (choice (bits_at operands 0) first second) next
      next)
      (subst (λ ts. AreValues (func_count s.m) ts frame.values) same values)
      (λ operands rest of_operands of_rest.
      enters_fine s store frame labels given (results_of ty) (results_of ty) below operands rest (block_arity ty)
      (choice (bits_at operands 0) first second) next next is_store around of_rest (arity_is ty)
      (chosen_place
      (λ at. IsCode s (results_of ty ∷ labels) at (base_of frame.labels + length below) [] (results_of ty))
      (bits_at operands 0) first second p q)
      code code (length_values (func_count s.m) below rest of_rest))

  at_fine : (rest : Nest) (number : ℕ) → IsCode s labels (place rest number) (base_of frame.labels) types given
      → IsGoing rest → HasRule s (execute_at (code_of s.m) store frame rest number)
  at_fine Empty number code going = absurd going
  at_fine (Plain i rest) number code going =
      let c = of_plain s labels number (base_of frame.labels) types given i rest code in
      plain_fine laws s have one store is_store frame labels given around (place rest (number + 1)) i types c.0 values
      c.1 c.2 c.3
  at_fine (InBlock ty body rest) number code going =
      let c = of_block s labels number (base_of frame.labels) types given ty body rest code in
      enters_fine s store frame labels given (results_of ty) (results_of ty) types [] frame.values (block_arity ty)
      (place body (number + 1)) (place rest (number + 1 + size body)) (place rest (number + 1 + size body))
      is_store around values (arity_is ty) c.1 c.2 c.2 (length_values (func_count s.m) types frame.values values)
  at_fine (InLoop ty body rest) number code going =
      let c = of_loop s labels number (base_of frame.labels) types given ty body rest code in
      enters_fine s store frame labels given [] (results_of ty) types [] frame.values 0 (place body (number + 1))
      (place (InLoop ty body rest) number) (place rest (number + 1 + size body))
      is_store around values refl c.1 code c.2 (length_values (func_count s.m) types frame.values values)
  at_fine (InIf ty body rest) number code going =
      let c = of_if s labels number (base_of frame.labels) types given ty body rest code in
      choice_fine ty c.0 (place body (number + 1)) (place Empty (number + 1 + size body))
      (place rest (number + 1 + size body)) c.1 c.3
      (empty_code s (results_of ty ∷ labels) (number + 1 + size body) (base_of frame.labels + length c.0)
      (results_of ty) c.2) c.4
  at_fine (InIfElse ty body other rest) number code going =
      let c = of_if_else s labels number (base_of frame.labels) types given ty body other rest code in
      choice_fine ty c.0 (place body (number + 1)) (place other (number + 1 + size body))
      (place rest (number + 1 + size body + size other)) c.1 c.2 c.3 c.4

pub execute_fine : (laws : ResultsFit) (s : Scope) (have : HaveTypes s) (one : length (all_tables s.m) ≤ 1)
    (store : Store) (is_store : IsStore s.m store) (frame : Frame)
    → IsFrame s [] frame → IsGoing frame.at.rest → HasRule s (execute (code_of s.m) store frame)
execute_fine laws s have one store is_store frame f going =
    at_fine laws s have one store is_store frame f.labels f.given f.around f.types f.values frame.at.rest
    frame.at.number f.code going
