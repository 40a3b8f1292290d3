-- Blocks and branches of an instrumented body lead where the original's lead.
use Rattle.std.proofs.Common.{◌≡◌, ℕ, zero, suc, ◌+◌, List, [], ◌∷◌, ◌++◌, length, Option, slice_get, refl, sym, subst, arith}
use Rattle.std.specs.List.{slice_index_or}
use Rattle.std.proofs.lemmas.List.{length-append}
use Rattle.wasm_syntax.specs.declared.values.ValType.{ValType}
use Rattle.wasm_syntax.specs.declared.values.Val.{Val}
use Rattle.wasm_syntax.specs.declared.signatures.FuncType.{FuncType}
use Rattle.wasm_syntax.specs.declared.instructions.Instr.{Instr}
use Rattle.wasm_syntax.specs.declared.instructions.Instr.TheVariants as instrs
use Rattle.wasm_syntax.specs.Nest.{Nest, Empty, Plain, InBlock, InLoop, InIf, InIfElse, size}
use Rattle.history_spec.specs.Store.{Store}
use Rattle.history_spec.specs.Code.{Code}
use Rattle.history_spec.specs.Configuration.{Place, place, Frame}
use Rattle.history_spec.specs.Instruction.{Goes, Calls, Returns, Execution, Did, Traps, NoRule, bits_at, block_arity, choice, enters, branch, gives, execute_at, execute_plain}
use Rattle.history_spec.specs.Run.{Meter}
use Rattle.record_replay_spec.specs.Hooks.{renumber, renumbered_view}
use Rattle.record_replay_spec.specs.Insertions.{Site, imports_at}
use Rattle.record_replay_spec.specs.Instrumented.{instrumented_nest, weights_of_nest}
use Rattle.record_replay_spec.specs.HookLaws.{BodiesAreInstrumented}
use Rattle.instrumented_run_laws.proofs.Branches as branches
use Rattle.instrumented_run_laws.proofs.Relation.{hooked_place, hooked_labels, IsWeighed, AreWeighed}
use Rattle.instrumented_run_laws.proofs.Weights.{AreWeights, first_weights}
use Rattle.instrumented_run_laws.proofs.PieceFacts.{IsBlock, IsBranch}

-- a sequence has as many weights as its instrumented sequence has instructions
pub nest_weighed : BodiesAreInstrumented → (s : Site) (nest : Nest)
    → length (weights_of_nest s nest) ≡ size (instrumented_nest s nest)
nest_weighed bodies s nest =
    let none : FuncType = record { params = []; results = [] } in
    let whole = bodies.weighed s none nest in
    let both = length-append (weights_of_nest s nest) (0 ∷ 0 ∷ []) in omega (arith, whole, both)

module _ (meter : Meter) (s : Site) (ty : FuncType) (last : ℕ) (other frame : Frame) (store : Store)
    (arity : frame.arity ≡ block_arity (slice_get ty.results 0)) (code second : Code) (numbers : List (ℕ × ℕ))
    (labels : AreWeighed meter s frame.labels numbers) (alike : other.values ≡ frame.values) where
  abbrev n : ℕ
  n = imports_at s

  abbrev with_labels : Frame
  with_labels = record other { labels = hooked_labels s ty frame.labels numbers last }

  abbrev IsMoved : Execution → Execution → Type 0
  IsMoved = branches.IsMoved meter s ty last other

  -- ---- blocks

  module _ (weighed : (nest : Nest) → length (weights_of_nest s nest) ≡ size (instrumented_nest s nest)) where
    abbrev after_nest : (body : Nest) (number : ℕ) (more : List ℕ)
        → AreWeights meter (renumber n s.func) number (weights_of_nest s body ++ more)
        → AreWeights meter (renumber n s.func) (number + size (instrumented_nest s body)) more
    after_nest = branches.after_nest meter s ty last other store frame arity code second numbers labels alike weighed

    -- an `if` with `else`
    module _ (block : Option ValType) (body otherwise rest : Nest) (at number : ℕ)
        (h : IsWeighed meter s (InIfElse block body otherwise rest) number) where
      abbrev after : Place
      after = place rest (at + 1 + size body + size otherwise)

      -- the number of the second part
      abbrev k : ℕ
      k = number + 1 + size (instrumented_nest s body)

      abbrev end : ℕ
      end = k + size (instrumented_nest s otherwise)

      later : AreWeights meter (renumber n s.func) k (weights_of_nest s otherwise ++ weights_of_nest s rest)
      later = after_nest body (number + 1) (weights_of_nest s otherwise ++ weights_of_nest s rest) h.1

      into : (operands values : List Val) (inside : Place) (first : ℕ) → IsWeighed meter s inside.rest first
          → IsMoved (enters store frame operands values (block_arity block) inside after after)
          (enters (renumbered_view n store) with_labels operands values (block_arity block)
          (hooked_place s inside first) (hooked_place s after end)
          (hooked_place s after end))
      into operands values inside first weighs =
          let rest_weights = after_nest otherwise k (weights_of_nest s rest) later in
          branches.under_label meter s ty last other store frame arity code second numbers labels alike weighed operands
          values values refl (block_arity block) inside after after first (end, end) weighs rest_weights rest_weights

      -- both executions choose a part of an `if` with `else` by an equal test
      either_chosen : (operands values : List Val) (bits : ℕ)
          → IsMoved
          (enters store frame operands values (block_arity block)
          (choice bits (place body (at + 1)) (place otherwise (at + 1 + size body))) after after)
          (enters (renumbered_view n store) with_labels operands values (block_arity block)
          (choice bits (place (instrumented_nest s body) (number + 1)) (place (instrumented_nest s otherwise) k))
          (place (instrumented_nest s rest) end) (place (instrumented_nest s rest) end))
      either_chosen operands values zero =
          into operands values (place otherwise (at + 1 + size body)) k
          (first_weights meter (renumber n s.func) k (weights_of_nest s otherwise) (weights_of_nest s rest) later)
      either_chosen operands values (suc bits) =
          into operands values (place body (at + 1)) (number + 1)
          (first_weights meter (renumber n s.func) (number + 1) (weights_of_nest s body)
          (weights_of_nest s otherwise ++ weights_of_nest s rest) h.1)

      enters_either : IsMoved (execute_at code store frame (InIfElse block body otherwise rest) at)
          (execute_at second (renumbered_view n store) with_labels
          (instrumented_nest s (InIfElse block body otherwise rest)) number)
      enters_either =
          branches.taken meter s ty last other frame.values alike _ _
          (λ operands values. either_chosen operands values (bits_at operands 0))

    pub moved_block : (nest : Nest) (at number : ℕ) → IsBlock nest → IsWeighed meter s nest number
        → IsMoved (execute_at code store frame nest at)
        (execute_at second (renumbered_view n store) with_labels (instrumented_nest s nest) number)
    moved_block Empty at number is h = absurd is
    moved_block (Plain i rest) at number is h = absurd is
    moved_block (InBlock block body rest) at number is h =
        branches.enters_block meter s ty last other store frame arity code second numbers labels alike weighed block
        body
        rest at number h
    moved_block (InLoop block body rest) at number is h =
        branches.enters_loop meter s ty last other store frame arity code second numbers labels alike weighed block body
        rest at number h
    moved_block (InIf block body rest) at number is h =
        branches.enters_if meter s ty last other store frame arity code second numbers labels alike weighed block body
        rest at number h
    moved_block (InIfElse block body otherwise rest) at number is h =
        enters_either block body otherwise rest at number h

  -- ---- branches

  -- the labels of the second activation do not matter to an execution that replaces them
  relabelled : (e with : Execution) → branches.IsMoved meter s ty last with_labels e with → IsMoved e with
  relabelled NoRule with h = tt
  relabelled (Traps kind operands found) with h = h
  relabelled (Did operands results found (Goes left next)) with h =
      record { numbers = h.numbers; number = h.number; labels = h.labels; at = h.at; is = h.is }
  relabelled (Did operands results found (Calls waiting func args)) with h = absurd h
  relabelled (Did operands results found (Returns given)) with h = h

  branched : (operands values : List Val) (l : ℕ)
      → IsMoved (branch store frame operands values l)
      (branch (renumbered_view n store) with_labels operands values l)
  branched operands values l =
      relabelled (branch store frame operands values l) (branch (renumbered_view n store) with_labels operands values l)
      (branches.branches meter s ty last with_labels store frame arity operands values frame.labels numbers l labels)

  module _ (rest : Nest) (at number : ℕ) (weighed : IsWeighed meter s rest (number + 1)) where
    -- both executions branch by an equal test
    branched_if : (l : ℕ) (operands values : List Val) (bits : ℕ)
        → IsMoved
        (choice bits (branch store frame operands values l)
        (gives store frame (place rest (at + 1)) operands values []))
        (choice bits (branch (renumbered_view n store) with_labels operands values l)
        (gives (renumbered_view n store) with_labels (place (instrumented_nest s rest) (number + 1)) operands values
        []))
    branched_if l operands values zero =
        record { numbers = numbers; number = number + 1; labels = labels; at = weighed; is = refl }
    branched_if l operands values (suc bits) = branched operands values l

    pub moved_branch : (i : Instr) → IsBranch i
        → IsMoved (execute_plain code store frame (place rest (at + 1)) i)
        (execute_plain second (renumbered_view n store) with_labels
        (place (instrumented_nest s rest) (number + 1)) i)
    moved_branch (instrs.Br l) is =
        subst
        (λ values. IsMoved (branch store frame [] frame.values l)
        (branch (renumbered_view n store) with_labels [] values l))
        (sym alike) (branched [] frame.values l)
    moved_branch (instrs.BrIf l) is =
        branches.taken meter s ty last other frame.values alike _ _
        (λ operands values. branched_if l operands values (bits_at operands 0))
    moved_branch (instrs.BrTable indices l) is =
        branches.taken meter s ty last other frame.values alike _ _
        (λ operands values. branched operands values (slice_index_or indices (bits_at operands 0) l))
    moved_branch i is = absurd is
