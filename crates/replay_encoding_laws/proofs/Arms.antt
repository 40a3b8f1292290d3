-- A property of each instruction of arms, and of the code around them, is a property of each instruction of their
-- code.
use Rattle.std.proofs.Common.{ℕ, zero, suc, List, [], ◌∷◌, ◌++◌, length, Option, Some, None, sym, subst}
use Rattle.std.specs.Prelude.{reverse, replicate}
use Rattle.std.specs.List.{AllByRecursion, range_with_len}
use Rattle.std.proofs.lemmas.List.{reverse-append}
use Rattle.base.proofs.Lists.{joined_all}
use Rattle.wasm_syntax.specs.declared.instructions.Instr.{Instr}
use Rattle.wasm_syntax.specs.declared.instructions.Instr.TheVariants.{Unreachable, Block, BrTable, Drop, End}
use Rattle.wasm_syntax.specs.declared.signatures.FuncType.{FuncType}
use Rattle.wasm_syntax.specs.Nest.{Nest, Empty, flat}
use Rattle.replay_module_spec.specs.Dispatch.{body_of, dispatch, nested, sequence}
use Rattle.replay_module_spec.specs.Segments.{drops}

reversed_all : {A : Type 0} (P : A → Type 0) (xs : List A) → AllByRecursion P xs → AllByRecursion P (reverse xs)
reversed_all P [] all = tt
reversed_all P (x ∷ xs) all =
    subst (AllByRecursion P) (sym (reverse-append (x ∷ []) xs))
    (joined_all P (reverse xs) (x ∷ []) (reversed_all P xs all.1) (all.0, tt))

module _ (P : Instr → Type 0) (trap : P Unreachable) (block : P (Block None)) (closed : P End) where
  pub sequence_all : (is : List Instr) (rest : Nest) → AllByRecursion P is → AllByRecursion P (flat rest)
      → AllByRecursion P (flat (sequence is rest))
  sequence_all [] rest own later = later
  sequence_all (i ∷ is) rest own later = (own.0, sequence_all is rest own.1 later)

  nested_all : (inner : Nest) (arms : List (List Instr)) → AllByRecursion P (flat inner)
      → AllByRecursion (AllByRecursion P) arms → AllByRecursion P (flat (nested inner arms))
  nested_all inner [] own all = own
  nested_all inner (arm ∷ arms) own all = (
    block,
    joined_all P (flat (nested inner arms)) (End ∷ flat (sequence arm Empty)) (nested_all inner arms own all.1)
        (closed, sequence_all arm Empty all.0 tt),
  )

  pub dispatch_all : (selector : List Instr) (arms : List (List Instr)) → AllByRecursion P selector
      → P (BrTable (range_with_len 0 (length arms)) (length arms)) → AllByRecursion (AllByRecursion P) arms
      → AllByRecursion P (flat (dispatch selector arms))
  dispatch_all selector arms own switch all =
      let inner = selector ++ BrTable (range_with_len 0 (length arms)) (length arms) ∷ [] in
      nested_all (sequence inner Empty) ((Unreachable ∷ []) ∷ reverse arms)
      (sequence_all inner Empty
      (joined_all P selector (BrTable (range_with_len 0 (length arms)) (length arms) ∷ []) own (switch, tt)) tt)
      ((trap, tt), reversed_all (AllByRecursion P) arms all)

  pub body_all : (nest : Nest) → AllByRecursion P (flat nest) → AllByRecursion P (body_of nest)
  body_all nest own = joined_all P (flat nest) (End ∷ []) own (closed, tt)

-- the code that drops a call's results consists of drops alone
pub dropped_all : (P : Instr → Type 0) → P Drop → (ty : Option FuncType) → AllByRecursion P (drops ty)
dropped_all P drop None = tt
dropped_all P drop (Some ty) = all (length ty.results)
  where
    all : (count : ℕ) → AllByRecursion P (replicate count Drop)
    all zero = tt
    all (suc count) = (drop, all count)
