-- An instruction shows what it observes of the store.
use Rattle.std.specs.Prelude.{◌≡◌, ◌≢◌, ◌<◌, List, [], ◌∷◌, IfSome, All}
use Rattle.history_spec.specs.declared.entries.Entry.{Entry}
use Rattle.history_spec.specs.declared.entries.Entry.TheVariants.{Step, Trap}
use Rattle.history_spec.specs.Store.{Store}
use Rattle.history_spec.specs.Code.{Code}
use Rattle.history_spec.specs.Configuration.{Frame}
use Rattle.history_spec.specs.Instruction.{Execution, Did, Traps, NoRule, execute}
use Rattle.record_replay_spec.specs.StoreAnswers.{SameKind, HasWholePages, AnswersAll}
use Rattle.record_replay_spec.specs.ObservedStepLaws.{observed}
use Rattle.record_replay_spec.specs.Unshown.{AnswersUnshown}

-- the entry of an instruction, if a rule applies to it: its operands, its results and what it found, or its trap
abbrev pub shown : Frame → Execution → List Entry
shown frame (Did operands results found control) =
    Step frame.func frame.at.number operands results found ∷ []
shown frame (Traps kind operands found) = Trap frame.func frame.at.number kind operands found ∷ []
shown frame NoRule = []

-- a memory, if there is one, holds bytes in whole pages (Core 1.0, 4.2.8)
pub record HasBytes (store : Store) : Type 0 where
  pub bytes : IfSome store.memory (λ memory. All (λ byte. byte < 256) memory.bytes)
  pub whole : HasWholePages store

-- if an instruction has an entry in a store, and the same entry in another store of its kind, the other store answers
-- what was observed of the first, if it answers what no entry shows
abbrev pub ShownStepsAreAnswered : Type 0
ShownStepsAreAnswered =
    (code : Code) (store other : Store) (frame : Frame) → SameKind store other → HasBytes store → HasBytes other
    → shown frame (execute code store frame) ≢ []
    → shown frame (execute code other frame) ≡ shown frame (execute code store frame)
    → AnswersUnshown other (observed store frame) → AnswersAll other (observed store frame)
