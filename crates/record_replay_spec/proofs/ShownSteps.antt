-- An instruction shows what it observes.
use Rattle.std.proofs.Common.{◌≡◌, ℕ, ◌+◌, [], ◌∷◌, length, Option, Some, None, slice_get, refl}
use Rattle.std.specs.Prelude.{IfSome}
use Rattle.wasm_syntax.specs.declared.values.Val.{Val}
use Rattle.wasm_syntax.specs.declared.instructions.Instr.{Instr}
use Rattle.wasm_syntax.specs.declared.instructions.Instr.TheVariants.{CallIndirect, GlobalGet, GlobalSet, Load, Store as StoreTo, MemorySize, MemoryGrow, MemoryCopy, MemoryFill, TableSet, TableGrow, TableSize}
use Rattle.wasm_syntax.specs.Nest.{Nest, Plain}
use Rattle.history_spec.specs.Store.{Store, Table}
use Rattle.history_spec.specs.Instantiation.{table_length}
use Rattle.history_spec.specs.Code.{Code}
use Rattle.history_spec.specs.Configuration.{Place, place, Frame}
use Rattle.history_spec.specs.Instruction.{execute_plain, execute_at}
use Rattle.record_replay_spec.specs.Observations.{WritesGlobal, ResizesTable, on as observed_on, plain_observations, nest_observations}
use Rattle.record_replay_spec.specs.StoreAnswers.{SameKind, AnswersAll}
use Rattle.record_replay_spec.specs.Unshown.{AnswersUnshown}
use Rattle.record_replay_spec.specs.ShownStepLaws.{HasBytes, ShownStepsAreAnswered}
use Rattle.record_replay_spec.proofs.SameExecutions.{IsShown}
use Rattle.record_replay_spec.proofs.ShownMemorySteps.{load_shown, store_shown, size_shown, grow_shown, copy_shown, fill_shown}
use Rattle.record_replay_spec.proofs.ShownTableSteps.{call_indirect_shown, set_shown, get_shown}

-- what is not shown is all that is observed of the table's size
resized : {X : Type 0} (other : Store) (o : Option X) (found left : X → ℕ) (func : Option ℕ)
    → AnswersUnshown other (observed_on o (λ x. ResizesTable (found x) (left x) func ∷ []))
    → AnswersAll other (observed_on o (λ x. ResizesTable (found x) (left x) func ∷ []))
resized other None found left func unshown = tt
resized other (Some x) found left func unshown = (go other.table (unshown.resized (found x) refl), tt)
  where
    go : (o : Option Table) → table_length o ≡ found x → IfSome o (λ t. length t.entries ≡ found x)
    go None h = tt
    go (Some t) h = h

written : (other : Store) (x : ℕ) (o : Option Val)
    → AnswersAll other (observed_on o (λ value. WritesGlobal x value ∷ []))
written other x None = tt
written other x (Some value) = (tt, tt)

module _ (code : Code) (store other : Store) (frame : Frame) (kind : SameKind store other) (of : HasBytes store)
    (of' : HasBytes other) where
  plain_shown : (next : Place) (i : Instr)
      → IsShown other frame (plain_observations store frame.values i) (execute_plain code store frame next i)
      (execute_plain code other frame next i)
  plain_shown next (Load at) = load_shown code store other frame next of of' kind.memory at
  plain_shown next (StoreTo at) = store_shown code store other frame next of of' kind.memory at
  plain_shown next MemorySize = size_shown code store other frame next of of' kind.memory
  plain_shown next MemoryGrow = grow_shown code store other frame next of of' kind.memory
  plain_shown next MemoryCopy = copy_shown code store other frame next of of' kind.memory
  plain_shown next MemoryFill = fill_shown code store other frame next of of' kind.memory
  plain_shown next (CallIndirect t) = call_indirect_shown code store other frame next kind.table t
  plain_shown next (TableSet t) = set_shown code store other frame next kind.table t
  plain_shown next (TableGrow t) = record { answers = λ some same unshown. resized other store.table _ _ _ unshown }
  plain_shown next (TableSize t) = record { answers = λ some same unshown. resized other store.table _ _ _ unshown }
  plain_shown next (GlobalGet x) = get_shown code store other frame next x
  plain_shown next (GlobalSet x) = record { answers = λ some same unshown. written other x (slice_get frame.values 0) }
  plain_shown next i = record { answers = λ some same unshown. tt }

  nest_shown : (nest : Nest) (n : ℕ)
      → IsShown other frame (nest_observations store frame.values nest) (execute_at code store frame nest n)
      (execute_at code other frame nest n)
  nest_shown (Plain i rest) n = plain_shown (place rest (n + 1)) i
  nest_shown nest n = record { answers = λ some same unshown. tt }

pub shown_steps_are_answered : ShownStepsAreAnswered
shown_steps_are_answered code store other frame kind of of' =
    (nest_shown code store other frame kind of of' frame.at.rest frame.at.number).answers
