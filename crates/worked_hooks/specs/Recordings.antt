-- The runs of instrumented modules: their hook calls, their logs, and the tapes of these.
use Rattle.std.specs.Prelude.{◌≡◌, ℕ, List, map, None, Result, Ok, Err}
use Rattle.wasm_syntax.specs.declared.values.Val.{Val}
use Rattle.wasm_syntax.specs.declared.modules.Module.{Module}
use Rattle.host_script.specs.declared.scripts.Script.{Script}
use Rattle.host_script.specs.declared.scripts.LinkFault.{LinkFault}
use Rattle.base.specs.declared.outcomes.Outcome.{Outcome}
use Rattle.trace_model.specs.declared.events.Event.{Event}
use Rattle.trace_model.specs.declared.events.Log.{Log}
use Rattle.trace_model.specs.declared.tapes.Segment.{Segment}
use Rattle.trace_model.specs.declared.tapes.Tape.{Tape}
use Rattle.trace_model.specs.Balance.{first_unbalanced}
use Rattle.history_spec.specs.Store.{Store}
use Rattle.history_spec.specs.Step.{Progress, Finished}
use Rattle.history_spec.specs.Run.{Run, Meter, run_from, program_of, start_in_store}
use Rattle.record_replay_spec.specs.Needed.{opening_store, IsNeededOfRun}
use Rattle.record_replay_spec.specs.declared.hooks.Hook.{Hook}
use Rattle.record_replay_spec.specs.Hooks.{HookCall}
use Rattle.record_replay_spec.specs.HookedRuns.{hooked_script, renumbered_script, hook_calls}
use Rattle.record_replay_spec.specs.ReportedCalls.{reported_by_run}
use Rattle.record_replay_spec.specs.Order.{shape_of}
use Rattle.record_replay_spec.specs.Logs.{log_of}
use Rattle.record_replay_spec.specs.LogTapes.{IsLogTape}
use Rattle.record_replay_spec.specs.Instrumented.{instrumented_module, instrumented_meter}
use Rattle.worked_hooks.specs.Examples.{no_digest}

-- ---- calls of hooks

-- more steps than the run of any example takes
abbrev pub enough : ℕ
enough = 400

-- the script for the instrumented module of an original with one import
abbrev pub script_for_hooked : Script → Script
script_for_hooked script = hooked_script 1 (renumbered_script 1 script)

-- the hook calls of the instrumented module from a store on
abbrev pub calls_made : Module → Script → Store → List HookCall
calls_made hooked script store =
    hook_calls 1 (program_of hooked (script_for_hooked script)) enough
    (start_in_store hooked (script_for_hooked script) store).next

-- the hook calls of the original's run from a store on
abbrev pub calls_reported : Module → Script → Store → List HookCall
calls_reported m script store = reported_by_run m (program_of m script) store (start_in_store m script store) enough

-- a call without its view
pub record CallShown : Type 0 where
  pub kind : Hook
  pub args : List Val

-- a hook call with these arguments, without its view
abbrev pub shown : Hook → List Val → CallShown
shown kind args = record { kind = kind; args = args }

-- hook calls without their views
abbrev pub shown_calls : List HookCall → List CallShown
shown_calls calls = map (λ call. shown call.kind call.args) calls

-- ---- logs

-- a run of an instrumented module: its turns and its log; or the number of the first hook call out of order; or it
-- has no outcome
pub data Recording : Type 0 where
  Recorded : (turns : ℕ) (log : Log) → Recording
  OutOfOrder : (number : ℕ) → Recording
  NoOutcome : Recording

-- the recording of a run with an outcome, by its turns and its log
abbrev pub recording_with : (turns : ℕ) → Result Log ℕ → Recording
recording_with turns (Ok log) = Recorded turns log
recording_with turns (Err number) = OutOfOrder number

-- the recording of a run with these hook calls, by how it goes on
abbrev pub recording_at : Module → (opened : Store) → List HookCall → (turns : ℕ) → Progress → Recording
recording_at hooked opened calls turns (Finished outcome) =
    recording_with turns (log_of (shape_of 1 hooked) opened calls outcome)
recording_at hooked opened calls turns at = NoOutcome

-- the recording of a run with these hook calls
abbrev pub recording_of : Module → (opened : Store) → List HookCall → Run → Recording
recording_of hooked opened calls run = recording_at hooked opened calls run.turns run.at

-- the recording of a run that begins in a store
abbrev pub recording_in : Module → Script → Meter → Store → Recording
recording_in hooked script meter store =
    recording_of hooked store (calls_made hooked script store)
    (run_from (program_of hooked (script_for_hooked script)) meter
    (start_in_store hooked (script_for_hooked script) store) enough)

-- the recording from the store in which a run begins, if the module links
abbrev pub from_opened : (Store → Recording) → Result Store LinkFault → Recording
from_opened record_from (Ok store) = record_from store
from_opened record_from (Err fault) = NoOutcome

-- the recording of a module in the hooked form, under a script of the original and a meter
abbrev pub recording_by : Module → Script → Meter → Recording
recording_by hooked script meter =
    from_opened (recording_in hooked script meter) (opening_store hooked (script_for_hooked script))

-- the recording of the instrumented module of an example, under the meter of the original's turns
abbrev pub recording : Module → Script → Recording
recording m script = recording_by (instrumented_module m no_digest) script (instrumented_meter m)

-- a log of a module with one import
abbrev pub log : List Event → Outcome → Log
log events outcome = record { imports = 1; events = events; outcome = outcome }

-- a tape with these segments
abbrev pub tape : List Segment → Tape
tape segments = record { segments = segments }

-- ---- worked recordings

-- a module and a script, and the turns of the run, its log and its tape
pub record Example : Type 0 where
  pub m : Module
  pub script : Script
  pub turns : ℕ
  pub log : Log
  pub segments : List Segment

-- an example, by its parts
abbrev pub example : Module → Script → (turns : ℕ) → Log → List Segment → Example
example m script turns log segments =
    record { m = m; script = script; turns = turns; log = log; segments = segments }

-- the run of the instrumented module takes these turns and has this log, which is balanced and has this tape
pub record IsRecorded (example : Example) : Type 0 where
  pub recorded : recording example.m example.script ≡ Recorded example.turns example.log
  pub balanced : first_unbalanced example.log ≡ None
  pub of_log : IsLogTape example.log (tape example.segments)

-- the run is recorded, and the tape is the one that the original's run needs
pub record IsRecordedAsNeeded (example : Example) : Type 0 where
  pub tape_of_log : IsRecorded example
  pub needed : IsNeededOfRun example.m example.script example.segments
