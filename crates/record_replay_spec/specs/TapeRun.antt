-- The run of a module with a tape as its host: each time that control reaches the host, the next segment is played.
-- Its configurations are those of the scripted run, and so are the steps of the module. Segments that are left when
-- the run is over are not a disagreement.
use Rattle.std.specs.Prelude.{ℕ, zero, suc, ◌-◌, List, [], ◌∷◌, ◌++◌, length, Option, Some, None, Bool, true, false, cond, nat_le, replicate, slice_get, option_map, option_and_then}
use Rattle.std.specs.Option.{option_to_list}
use Rattle.host_script.specs.declared.scripts.Action.{Action}
use Rattle.host_script.specs.declared.scripts.Action.TheVariants.{Grow as GrowBy}
use Rattle.host_script.specs.declared.scripts.Answer.{Answer}
use Rattle.host_script.specs.declared.scripts.ResponseEnd.TheVariants.{Trap as EndsInTrap}
use Rattle.base.specs.declared.outcomes.Outcome.{Outcome}
use Rattle.base.specs.declared.outcomes.Outcome.TheVariants.{Ended, HostTrapped}
use Rattle.trace_model.specs.declared.tapes.Origin.{Origin}
use Rattle.trace_model.specs.declared.tapes.Origin.TheVariants.{Begin, Import, Back}
use Rattle.trace_model.specs.declared.tapes.Next.{Next}
use Rattle.trace_model.specs.declared.tapes.Next.TheVariants.{Call, Return, End, Trap}
use Rattle.trace_model.specs.declared.tapes.Effect.{Effect}
use Rattle.trace_model.specs.declared.tapes.Effect.TheVariants.{Grow, Table as GrowTable, Bytes, Entry as SetEntry, Global}
use Rattle.trace_model.specs.declared.tapes.Segment.{Segment}
use Rattle.history_spec.specs.declared.entries.Entry.{Entry}
use Rattle.history_spec.specs.declared.entries.Entry.TheVariants.{HostCall, HostReturn, ImportCall, ImportReturn, HostTrap}
use Rattle.history_spec.specs.Store.{Store, Memory, Table, pages, grown_memory, grown_table, with_bytes_at, with_entry, with_memory, with_table, with_global}
use Rattle.history_spec.specs.Code.{Code}
use Rattle.history_spec.specs.Configuration.{Activation, InModule, InMain, InImport, Config}
use Rattle.history_spec.specs.Settle.{deliver}
use Rattle.history_spec.specs.Step.{Program, Progress, Running, Finished, Faulted, Stuck, StepResult, after_entries, after_settling, enter_function, step}
use Rattle.record_replay_spec.specs.Alike.{same_origin}

-- ---- effects

-- the memory with this number of pages, if it has at most as many and may grow to it
abbrev pub memory_of_size : ℕ → Memory → Option Memory
memory_of_size size memory = cond (nat_le (pages memory) size) (grown_memory memory (size - pages memory)) None

-- the table with this number of entries, the new ones empty, if it has at most as many and may grow to it
abbrev pub table_of_size : ℕ → Table → Option Table
table_of_size size table =
    cond (nat_le (length table.entries) size) (grown_table table (size - length table.entries) None) None

-- the memory with bytes from an address on, if these are within it
abbrev pub memory_with : ℕ → List ℕ → Memory → Option Memory
memory_with address bytes memory =
    option_map (λ all. record memory { bytes = all }) (with_bytes_at memory.bytes address bytes)

-- the table with an entry set, if the entry exists
abbrev pub table_with : ℕ → Option ℕ → Table → Option Table
table_with index func table = option_map (λ all. record table { entries = all }) (with_entry table.entries index func)

-- the store after an effect, if the effect can be performed
abbrev pub store_after_effect : Store → Effect → Option Store
store_after_effect store (Grow pages) =
    option_map (with_memory store) (option_and_then (memory_of_size pages) store.memory)
store_after_effect store (GrowTable size) =
    option_map (with_table store) (option_and_then (table_of_size size) store.table)
store_after_effect store (Bytes address bytes) =
    option_map (with_memory store) (option_and_then (memory_with address bytes) store.memory)
store_after_effect store (SetEntry index func) =
    option_map (with_table store) (option_and_then (table_with index func) store.table)
store_after_effect store (Global global value) =
    option_map (λ old. with_global store global value) (slice_get store.globals global)

-- the store after a list of effects
abbrev pub store_after_effects : List Effect → Store → Option Store
store_after_effects [] store = Some store
store_after_effects (effect ∷ effects) store =
    option_and_then (store_after_effects effects) (store_after_effect store effect)

-- ---- configurations

-- the host's action in a tape run, which is never performed, so that control stops at the host
abbrev pub pause : Action
pause = GrowBy 0

-- the answer to each call of an import
abbrev pub awaiting_answer : Answer
awaiting_answer = record { calls = []; rest = Some (record { actions = pause ∷ []; end = EndsInTrap }) }

-- the program of the module with the awaiting answers
abbrev pub program_awaiting : Code → Program
program_awaiting code = record { code = code; answers = replicate code.imported (Some awaiting_answer) }

-- a configuration, the remaining segments, and the origin of the last arrival of control at the host
pub record TapeConfig : Type 0 where
  pub config : Config
  pub left : List Segment
  pub came : Origin

-- how a tape run goes on: from a configuration; or it is over, by an outcome, by a disagreement with the tape, or
-- because no rule applies, which a valid module with a tape that fits it excludes
pub data TapeProgress : Type 0 where
  Plays : (at : TapeConfig) → TapeProgress
  Over : (outcome : Outcome) → TapeProgress
  Disagrees : TapeProgress
  NoRule : TapeProgress

-- the result of a step of a tape run, or of several: its entries, and how the run goes on
pub record TapeResult : Type 0 where
  pub entries : List Entry
  pub next : TapeProgress

-- the result with these entries, after which the run goes on like this
abbrev pub tape_result : List Entry → TapeProgress → TapeResult
tape_result entries next = record { entries = entries; next = next }

-- ---- steps

-- the origin of control at the host, by the entries of a step
abbrev pub origin_after : List Entry → Origin → Origin
origin_after [] came = came
origin_after (ImportCall import args ∷ later) came = origin_after later (Import import)
origin_after (HostReturn func results ∷ later) came = origin_after later Back
origin_after (entry ∷ later) came = origin_after later came

-- how the tape run goes on, by how the run does
abbrev pub tape_progress : List Segment → Origin → Progress → TapeProgress
tape_progress left came (Running config) = Plays (record { config = config; left = left; came = came })
tape_progress left came (Finished outcome) = Over outcome
tape_progress left came (Faulted kind) = NoRule
tape_progress left came Stuck = NoRule

-- the result of a step of the module in a tape run
abbrev pub after_step : List Segment → Origin → StepResult → TapeResult
after_step left came s = tape_result s.entries (tape_progress left (origin_after s.entries came) s.next)

-- the result of the host's next move: it calls, returns, ends its work or traps, as its topmost activation can
abbrev pub after_next : Code → Store → List ℕ → List Activation → List Segment → Origin → Next → TapeResult
after_next code store counts stack left came (Call func args) =
    after_step left came
    (after_entries (HostCall func args ∷ []) (enter_function code store counts func args stack))
after_next code store counts (InImport import args actions end ∷ below) left came (Return result) =
    after_step left came
    (after_entries (ImportReturn import (option_to_list result) ∷ [])
    (after_settling store counts (deliver below (option_to_list result))))
after_next code store counts (InMain actions ∷ below) left came End = tape_result [] (Over Ended)
after_next code store counts (InImport import args actions end ∷ below) left came Trap =
    tape_result (HostTrap ∷ []) (Over HostTrapped)
after_next code store counts stack left came next = tape_result [] NoRule

-- the result of the host's next move after a segment's effects, if these can be performed
abbrev pub after_effects : Code → Config → List Segment → Origin → Next → Option Store → TapeResult
after_effects code config left came next None = tape_result [] Disagrees
after_effects code config left came next (Some store) =
    after_next code store config.counts config.stack left came next

-- the result of a segment, if its origin is that of control
abbrev pub after_segment_if : Bool → Code → Config → Segment → List Segment → Origin → TapeResult
after_segment_if false code config segment left came = tape_result [] Disagrees
after_segment_if true code config segment left came =
    after_effects code config left came segment.next (store_after_effects segment.effects config.store)

-- the result of the host's part: the next segment, if there is one
abbrev pub after_segment : Code → Config → List Segment → Origin → TapeResult
after_segment code config [] came = tape_result [] Disagrees
after_segment code config (segment ∷ left) came =
    after_segment_if (same_origin segment.origin came) code config segment left came

-- the result of a step of the topmost activation: of the module as in the scripted run, of the host by the tape
abbrev pub tape_step_of : Code → List Activation → TapeConfig → TapeResult
tape_step_of code (InModule frame ∷ below) t = after_step t.left t.came (step (program_awaiting code) t.config)
tape_step_of code stack t = after_segment code t.config t.left t.came

-- the result of a step of a tape run
abbrev pub tape_step : Code → TapeConfig → TapeResult
tape_step code t = tape_step_of code t.config.stack t

-- ---- runs

-- a result with entries in front
abbrev pub tape_after : List Entry → TapeResult → TapeResult
tape_after entries t = tape_result (entries ++ t.entries) t.next

-- the tape run after at most `k` steps
abbrev pub tape_steps : Code → ℕ → TapeProgress → TapeResult
tape_steps code zero at = tape_result [] at
tape_steps code (suc k) (Plays t) = tape_after (tape_step code t).entries (tape_steps code k (tape_step code t).next)
tape_steps code (suc k) at = tape_result [] at

-- the start of a tape run: control is with the host; the tape calls the start function
abbrev pub tape_start : Code → Store → List Segment → TapeProgress
tape_start code store segments =
    Plays
    (record {
      config = record { store = store; stack = InMain (pause ∷ []) ∷ []; counts = replicate code.imported 0 };
      left = segments;
      came = Begin;
    })

-- the tape run of a module from a store, after at most `k` steps
abbrev pub tape_run : Code → Store → List Segment → ℕ → TapeResult
tape_run code store segments k = tape_steps code k (tape_start code store segments)
