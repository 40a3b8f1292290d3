-- Worked recordings: the logs of runs, and their tapes.
use Rattle.std.specs.Prelude.{◌≡◌, ℕ, List, [], ◌∷◌, ◌++◌, Option, Some, None, false}
use Rattle.wasm_syntax.specs.declared.values.ValType.TheVariants.{F32}
use Rattle.host_script.specs.declared.scripts.Address.TheVariants.{Fixed}
use Rattle.host_script.specs.declared.scripts.Script.{Script}
use Rattle.host_script.specs.declared.scripts.Action.TheVariants.{Write, SetTable, SetGlobal, Grow as GrowBy, GrowTable}
use Rattle.base.specs.declared.outcomes.Outcome.TheVariants.{Ended, Trapped, HostTrapped}
use Rattle.trace_model.specs.declared.events.Event.{Event}
use Rattle.trace_model.specs.declared.events.Event.TheVariants.{Enter, Leave, Pre, Post, Grow, Seen, Table, Bytes, Entry, Global}
use Rattle.trace_model.specs.declared.events.Log.{Log}
use Rattle.trace_model.specs.declared.tapes.Origin.TheVariants.{Begin, Import, Back}
use Rattle.trace_model.specs.declared.tapes.Next.TheVariants.{Call, Return, End, Trap}
use Rattle.trace_model.specs.declared.tapes.Effect.TheVariants as effects
use Rattle.trace_model.specs.declared.tapes.Tape.{Tape}
use Rattle.trace_model.specs.Balance.{first_unbalanced}
use Rattle.history_spec.specs.Run.{all_one}
use Rattle.record_replay_spec.specs.LogTapes.{IsLogTape}
use Rattle.record_replay_spec.specs.LogTapeTest.{is_log_tape}
use Rattle.worked_histories.specs.Build.{value, i32, limits}
use Rattle.worked_histories.specs.Modules.{two_answers, overwrite, grow_access, copy_load, copy_overlap, fill_past, grow_failed, nested_call, nested_trap, table_entry, table_growth, float_global, c_buffers}
use Rattle.worked_histories.specs.RunLines.{print, Spent}
use Rattle.worked_histories.specs.Scripts.{five_seven, does, does_all, does_nothing, host_traps, calls_back, reads_hi}
use Rattle.worked_tapes.specs.TapeBuild.{segment, changes, changes_then_traps}
use Rattle.worked_hooks.specs.Examples.{hooked_two_answers, damaged}
use Rattle.worked_hooks.specs.Recordings.{Recorded, OutOfOrder, script_for_hooked, recording_by, log, tape, Example, example, IsRecorded, IsRecordedAsNeeded}

-- ---- two answers

-- the log of two answers
abbrev pub two_answers_log : Log
two_answers_log =
    log (Enter 1 [] ∷ Pre (Some 0) ∷ Post (Some (i32 5)) ∷ Pre (Some 0) ∷ Post (Some (i32 7)) ∷ Leave 1 ∷ []) Ended

-- two answers, with their log and their tape
abbrev pub two_answers_recorded : Example
two_answers_recorded =
    example two_answers five_seven 4
    two_answers_log
    (segment Begin [] (Call 1 []) ∷ segment (Import 0) [] (Return (Some (i32 5)))
    ∷ segment (Import 0) [] (Return (Some (i32 7))) ∷ segment Back [] End ∷ [])

-- each step is a turn
abbrev pub TwoAnswersAllTurns : Type 0
TwoAnswersAllTurns = recording_by hooked_two_answers five_seven all_one ≡ Recorded 29 two_answers_log

-- one turn less does not suffice
abbrev pub TwoAnswersSpent : Type 0
TwoAnswersSpent = print hooked_two_answers (script_for_hooked five_seven) 28 ≡ Spent

-- a module whose hook calls are out of order has no log
abbrev pub EntersAtEndLog : Type 0
EntersAtEndLog = recording_by (damaged 127 2) five_seven all_one ≡ OutOfOrder 7

-- a module that reports a reference's type has no log
abbrev pub ReportsReferenceLog : Type 0
ReportsReferenceLog = recording_by (damaged 111 3) five_seven all_one ≡ OutOfOrder 2

-- ---- one call of an import, which changes something and returns nothing

-- the events of a call of the import in function 1, and of what is found after it
abbrev pub found : List Event → List Event
found events = Enter 1 [] ∷ Pre (Some 0) ∷ Post None ∷ events

-- the log of a run whose function ends after the import's call
abbrev pub left : List Event → Log
left events = log (found (events ++ Leave 1 ∷ [])) Ended

-- the log of a run whose module traps after the import's call
abbrev pub trapped : List Event → Log
trapped events = log (found events) Trapped

-- the host's write overlaps what the module stored: two of four bytes are found
abbrev pub overwrite_recorded : Example
overwrite_recorded =
    example overwrite (does (Write (Fixed 8) (0xAA ∷ 0xBB ∷ 0xCC ∷ 0xDD ∷ []))) 8
    (left (Bytes 10 (0xCC ∷ 0xDD ∷ []) ∷ []))
    (changes (effects.Bytes 10 (0xCC ∷ 0xDD ∷ []) ∷ []))

-- the host's write is not read
abbrev pub unread_write_recorded : Example
unread_write_recorded = example overwrite (does (Write (Fixed 100) (0xFF ∷ []))) 8 (left []) (changes [])

-- the host's growth is noticed and not seen
abbrev pub unseen_growth_recorded : Example
unseen_growth_recorded = example overwrite (does (GrowBy 1)) 8 (left (Grow 2 ∷ [])) (changes [])

-- an access sees the host's growth
abbrev pub growth_recorded : Example
growth_recorded =
    example grow_access (does (GrowBy 1)) 6 (left (Grow 2 ∷ Seen ∷ [])) (changes (effects.Grow 2 ∷ []))

-- an access traps without the host's growth
abbrev pub no_growth_recorded : Example
no_growth_recorded = example grow_access does_nothing 5 (trapped []) (changes_then_traps [])

-- a growth by the module, which fails, sees the host's growth
abbrev pub growth_failed_recorded : Example
growth_failed_recorded =
    example (record grow_failed { memories = limits 1 (Some 2) ∷ [] }) (does (GrowBy 1)) 5
    (left (Grow 2 ∷ Seen ∷ []))
    (changes (effects.Grow 2 ∷ []))

-- a copy reads two bytes that are not known, and a load reads its target
abbrev pub copy_recorded : Example
copy_recorded =
    example copy_load (does (Write (Fixed 8) (0x85 ∷ 0x00 ∷ 0x00 ∷ 0x01 ∷ []))) 10
    (left (Bytes 8 (0x85 ∷ []) ∷ Bytes 11 (0x01 ∷ []) ∷ []))
    (changes (effects.Bytes 8 (0x85 ∷ []) ∷ effects.Bytes 11 (0x01 ∷ []) ∷ []))

-- a copy overwrites some of the bytes that it reads, and a load reads bytes that it wrote
abbrev pub copy_overlap_recorded : Example
copy_overlap_recorded =
    example copy_overlap (does (Write (Fixed 8) (1 ∷ 2 ∷ 3 ∷ []))) 13
    (left (Bytes 8 (1 ∷ 2 ∷ 3 ∷ []) ∷ []))
    (changes (effects.Bytes 8 (1 ∷ 2 ∷ 3 ∷ []) ∷ []))

-- a fill ends past the memory
abbrev pub fill_recorded : Example
fill_recorded = example fill_past does_nothing 6 (trapped []) (changes_then_traps [])

-- a fill sees the host's growth
abbrev pub fill_grown_recorded : Example
fill_grown_recorded =
    example fill_past (does (GrowBy 1)) 7 (left (Grow 2 ∷ Seen ∷ [])) (changes (effects.Grow 2 ∷ []))

-- a call by the first entry of the table, which holds this function; the call begins and does not end
abbrev pub entry_case : Script → (turns : ℕ) → Option ℕ → Example
entry_case script turns func =
    example table_entry script turns (trapped (Entry 0 func ∷ Pre func ∷ []))
    (changes_then_traps (effects.Entry 0 func ∷ []))

-- the entry holds a function of another type
abbrev pub entry_recorded : Example
entry_recorded = entry_case (does (SetTable 0 (Some 3))) 5 (Some 3)

-- the entry is emptied
abbrev pub emptied_recorded : Example
emptied_recorded = entry_case (does (SetTable 0 None)) 5 None

-- the entry holds an import of another type, whose call begins no segment
abbrev pub import_entry_recorded : Example
import_entry_recorded = entry_case (does (SetTable 0 (Some 0))) 5 (Some 0)

-- a table grows unseen, since the call is within its first entries
abbrev pub table_unseen_recorded : Example
table_unseen_recorded = entry_case (does_all (GrowTable 4 ∷ SetTable 0 (Some 3) ∷ [])) 6 (Some 3)

-- the bits of a NaN are kept
abbrev pub float_recorded : Example
float_recorded =
    example float_global (does (SetGlobal 0 (value F32 2141192193))) 4
    (left (Global 0 (value F32 2141192193) ∷ []))
    (changes (effects.Global 0 (value F32 2141192193) ∷ []))

-- the host grows the table and sets its new last entry
abbrev pub table_growth_recorded : Example
table_growth_recorded =
    example table_growth (does_all (GrowTable 4 ∷ SetTable 5 (Some 3) ∷ [])) 6
    (trapped (Table 6 ∷ Entry 5 (Some 3) ∷ Pre (Some 3) ∷ []))
    (changes_then_traps (effects.Table 6 ∷ effects.Entry 5 (Some 3) ∷ []))

-- the host grows the table, and the index is still past its end
abbrev pub table_short_recorded : Example
table_short_recorded =
    example table_growth (does (GrowTable 2)) 5
    (trapped (Table 4 ∷ Pre None ∷ []))
    (changes_then_traps (effects.Table 4 ∷ []))

-- the host does not grow the table
abbrev pub table_not_grown_recorded : Example
table_not_grown_recorded =
    example table_growth does_nothing 4 (trapped (Pre None ∷ [])) (changes_then_traps [])

-- ---- others

-- a call within the call of an import; what is written after the inner call is found after the import's return
abbrev pub nested_recorded : Example
nested_recorded =
    example nested_call calls_back 8
    (log (Enter 1 [] ∷ Pre (Some 0) ∷ Enter 2 [] ∷ Pre (Some 0) ∷ Post (Some (i32 2)) ∷ Leave 2
    ∷ Post (Some (i32 1)) ∷ Bytes 0 (0x04 ∷ []) ∷ Leave 1 ∷ []) Ended)
    (segment Begin [] (Call 1 []) ∷ segment (Import 0) [] (Call 2 [])
    ∷ segment (Import 0) [] (Return (Some (i32 2)))
    ∷ segment Back (effects.Bytes 0 (0x04 ∷ []) ∷ []) (Return (Some (i32 1))) ∷ segment Back [] End ∷ [])

-- a call within the call of an import traps
abbrev pub nested_trap_recorded : Example
nested_trap_recorded =
    example nested_trap calls_back 4
    (log (Enter 1 [] ∷ Pre (Some 0) ∷ Enter 2 [] ∷ []) Trapped)
    (segment Begin [] (Call 1 []) ∷ segment (Import 0) [] (Call 2 []) ∷ [])

-- the host traps
abbrev pub host_trap_recorded : Example
host_trap_recorded =
    example two_answers host_traps 2
    (log (Enter 1 [] ∷ Pre (Some 0) ∷ []) HostTrapped)
    (segment Begin [] (Call 1 []) ∷ segment (Import 0) [] Trap ∷ [])

-- the run reads into buffers on a C stack
abbrev pub c_buffers_recorded : Example
c_buffers_recorded =
    example c_buffers reads_hi 29
    (log (Enter 1 [] ∷ Pre (Some 0) ∷ Post (Some (i32 0)) ∷ Bytes 66544 (0x68 ∷ 0x69 ∷ 0x0A ∷ [])
    ∷ Bytes 66552 (0x03 ∷ []) ∷ Pre (Some 2) ∷ Enter 2 (i32 0xA696B ∷ []) ∷ Leave 2
    ∷ Post (Some (i32 0x14D2D6)) ∷ Leave 1 ∷ []) Ended)
    (segment Begin [] (Call 1 []) ∷ segment (Import 0) (effects.Bytes 66544 (0x68 ∷ 0x69 ∷ 0x0A ∷ [])
    ∷ effects.Bytes 66552 (0x03 ∷ []) ∷ []) (Return (Some (i32 0))) ∷ segment Back [] End ∷ [])

-- ---- a log that no run has, whose window finds many effects, out of order and some of them twice

-- a log that no run has
abbrev pub mixed_log : Log
mixed_log =
    left
    (Bytes 8 (1 ∷ 2 ∷ []) ∷ Global 3 (i32 9) ∷ Bytes 4 (5 ∷ []) ∷ Entry 7 None ∷ Grow 2 ∷ Seen
    ∷ Bytes 5 (6 ∷ 7 ∷ 8 ∷ []) ∷ Pre (Some 1) ∷ Enter 1 [] ∷ Entry 2 (Some 1) ∷ Leave 1 ∷ Post None
    ∷ Bytes 9 (3 ∷ 4 ∷ []) ∷ Table 6 ∷ Global 1 (i32 8) ∷ Entry 7 (Some 1) ∷ Grow 3 ∷ Seen ∷ Bytes 20 (0 ∷ [])
    ∷ Table 7 ∷ [])

-- the tape of a log that no run has
abbrev pub mixed_tape : Tape
mixed_tape =
    tape
    (changes
    (effects.Grow 2 ∷ effects.Table 6 ∷ effects.Bytes 4 (5 ∷ 6 ∷ 7 ∷ 8 ∷ 1 ∷ 2 ∷ 4 ∷ []) ∷ effects.Bytes 20 (0 ∷ [])
    ∷ effects.Entry 2 (Some 1) ∷ effects.Entry 7 None ∷ effects.Global 1 (i32 8) ∷ effects.Global 3 (i32 9) ∷ []))

-- a log that no run has is balanced
abbrev pub MixedBalanced : Type 0
MixedBalanced = first_unbalanced mixed_log ≡ None

-- a log that no run has has a tape
abbrev pub MixedTape : Type 0
MixedTape = IsLogTape mixed_log mixed_tape

-- ---- tapes that are not those of a log

-- the log of `overwrite_recorded`
abbrev pub overwrite_log : Log
overwrite_log = overwrite_recorded.log

-- the second byte of the tape is wrong
abbrev pub WrongByte : Type 0
WrongByte = is_log_tape overwrite_log (tape (changes (effects.Bytes 10 (0xCC ∷ 0xDE ∷ []) ∷ []))) ≡ false

-- the tape has a run of bytes that is not the longest
abbrev pub ShortRuns : Type 0
ShortRuns =
    is_log_tape overwrite_log
    (tape (changes (effects.Bytes 10 (0xCC ∷ []) ∷ effects.Bytes 11 (0xDD ∷ []) ∷ []))) ≡ false

-- the tape has a change that is not found
abbrev pub MoreThanFound : Type 0
MoreThanFound =
    is_log_tape overwrite_log (tape (changes (effects.Grow 2 ∷ effects.Bytes 10 (0xCC ∷ 0xDD ∷ []) ∷ [])))
    ≡ false

-- the last segment is missing
abbrev pub LastMissing : Type 0
LastMissing = is_log_tape overwrite_log (tape (changes_then_traps (effects.Bytes 10 (0xCC ∷ 0xDD ∷ []) ∷ []))) ≡ false

-- the worked runs have these logs and tapes
pub record WorkedRecordings : Type 0 where
  -- runs with the tapes that the originals need
  pub two_answers : IsRecordedAsNeeded two_answers_recorded
  pub overwrite : IsRecordedAsNeeded overwrite_recorded
  pub unread_write : IsRecordedAsNeeded unread_write_recorded
  pub growth : IsRecordedAsNeeded growth_recorded
  pub no_growth : IsRecordedAsNeeded no_growth_recorded
  pub copy : IsRecordedAsNeeded copy_recorded
  pub copy_onto_itself : IsRecordedAsNeeded copy_overlap_recorded
  pub fill_grown : IsRecordedAsNeeded fill_grown_recorded
  pub entry : IsRecordedAsNeeded entry_recorded
  pub emptied : IsRecordedAsNeeded emptied_recorded
  pub import_entry : IsRecordedAsNeeded import_entry_recorded
  pub table_unseen : IsRecordedAsNeeded table_unseen_recorded
  pub float : IsRecordedAsNeeded float_recorded
  pub table_grown : IsRecordedAsNeeded table_growth_recorded
  pub table_short : IsRecordedAsNeeded table_short_recorded
  pub table_not_grown : IsRecordedAsNeeded table_not_grown_recorded
  pub nested : IsRecordedAsNeeded nested_recorded
  pub nested_trapped : IsRecordedAsNeeded nested_trap_recorded
  pub host_trapped : IsRecordedAsNeeded host_trap_recorded
  pub buffers : IsRecordedAsNeeded c_buffers_recorded
  -- other runs
  pub unseen_growth : IsRecorded unseen_growth_recorded
  pub growth_failed : IsRecorded growth_failed_recorded
  pub fill : IsRecorded fill_recorded
  -- runs with their turns and log, or with the number of a hook call out of order
  pub two_answers_all_turns : TwoAnswersAllTurns
  pub two_answers_spent : TwoAnswersSpent
  pub enters_at_end : EntersAtEndLog
  pub reports_reference : ReportsReferenceLog
  -- logs and tapes of no run
  pub mixed_balanced : MixedBalanced
  pub mixed : MixedTape
  pub wrong_byte : WrongByte
  pub short_runs : ShortRuns
  pub more_than_found : MoreThanFound
  pub last_missing : LastMissing
