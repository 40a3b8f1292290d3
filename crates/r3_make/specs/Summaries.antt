-- The summary of the run of a module under a script, and of the tape that it needs.
use Rattle.std.specs.Prelude.{◌≡◌, ℕ, ◌≤◌, List, ◌++◌, length, codes}
use Rattle.wasm_syntax.specs.declared.limits.TheConstants.{LOAD_TURNS, MAX_TAPE_WEIGHT}
use Rattle.wasm_syntax.specs.declared.modules.Module.{Module}
use Rattle.host_script.specs.declared.scripts.Script.{Script}
use Rattle.host_script.specs.declared.scripts.Supply.{Supply}
use Rattle.base.specs.declared.outcomes.Outcome.{Outcome}
use Rattle.trace_model.specs.declared.tapes.Tape.{Tape}
use Rattle.trace_model.specs.Weight.{tape_weight}
use Rattle.history_spec.specs.Run.{Run}
use Rattle.history_spec.specs.Store.{Store}
use Rattle.accepted_runs.specs.Runs.{HasOutcome}
use Rattle.load_maker.specs.Loads.{load_script}
use Rattle.load_maker.specs.declared.load_module.TheConstants.{LOAD_MODULE}
use Rattle.r3_faults.specs.Lines.{with_number}
use Rattle.r3_inputs.specs.Inputs.{AreInputs}
use Rattle.r3_make.specs.Tapes.{NeedsTape}
use Rattle.r3_make.specs.declared.lines.Counts.{Counts}

-- four lines, each of a word and a number in decimal
abbrev pub summary_text : (turns entries segments weight : ℕ) → List ℕ
summary_text turns entries segments weight =
    with_number (codes "turns ") turns ++ (with_number (codes "entries ") entries
    ++ (with_number (codes "segments ") segments ++ with_number (codes "weight ") weight))

-- the run has an outcome within the turns; the counts are those of its turns and of the entries of its history
pub record HasCounts (m : Module) (script : Script) (turns : ℕ) (counts : Counts) : Type 0 where
  pub run : Run
  pub outcome : Outcome
  pub ends : HasOutcome m script turns run outcome
  pub turns_are : counts.turns ≡ run.turns
  pub entries_are : counts.entries ≡ length run.history

-- The run has an outcome within the turns, and the one tape that it needs is light enough. The lines have the
-- turns of the run, the entries of its history, the segments of the tape, and the tape's weight.
pub record IsSummaryOf (m : Module) (script : Script) (turns : ℕ) (printed : List ℕ) : Type 0 where
  pub supply : Supply
  pub store : Store
  pub tape : Tape
  pub needed : NeedsTape m script turns supply store tape
  pub light : tape_weight tape ≤ MAX_TAPE_WEIGHT
  pub lines : printed
      ≡ summary_text needed.run.turns (length needed.run.history) (length tape.segments) (tape_weight tape)

-- the summary of the run of the module and the script that the bytes of two files are
pub record IsSummaryFor (module_bytes script_bytes : List ℕ) (turns : ℕ) (printed : List ℕ) : Type 0 where
  pub m : Module
  pub script : Script
  pub inputs : AreInputs module_bytes script_bytes m script
  pub summary : IsSummaryOf m script turns printed

-- the summary of the load of a number of calls
abbrev pub IsSummary : (number : ℕ) → (printed : List ℕ) → Type 0
IsSummary number printed = IsSummaryFor LOAD_MODULE (load_script number) LOAD_TURNS printed
