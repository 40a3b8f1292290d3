-- The summary of a run is determined by the run and by the one tape that it needs.
use Rattle.std.proofs.Common.{◌≡◌, ℕ, List, Vec, Result, ◌≤◌, length, ◌∙◌, ap}
use Rattle.wasm_syntax.specs.declared.limits.TheConstants.{MAX_TAPE_WEIGHT}
use Rattle.wasm_syntax.specs.declared.modules.Module.{Module}
use Rattle.host_script.specs.declared.scripts.Script.{Script}
use Rattle.host_script.specs.declared.scripts.Supply.{Supply}
use Rattle.trace_model.specs.declared.tapes.Tape.{Tape}
use Rattle.trace_model.specs.Weight.{tape_weight}
use Rattle.history_spec.specs.Budget.{HasOneResultAtMost}
use Rattle.history_spec.specs.Run.{Run, all_one, program_of, run_from}
use Rattle.history_spec.specs.Step.{StepResult}
use Rattle.history_spec.specs.Store.{Store}
use Rattle.accepted_runs.proofs.OneResult.{run-one}
use Rattle.r3_faults.specs.Answers.{IsCaused, IsReplayAnswer}
use Rattle.r3_faults.specs.declared.faults.Fault.{Fault}
use Rattle.r3_faults.proofs.OneAnswer.{replay_answer}
use Rattle.r3_make.specs.Refusals.{IsUnmade}
use Rattle.r3_make.specs.Tapes.{NeedsLightTape, NeedsTape}
use Rattle.r3_make.proofs.OneAnswer.{light-unmade, unmade-one}
use Rattle.r3_make.specs.declared.lines.Counts.{Counts}
use Rattle.r3_make.specs.Summaries.{HasCounts, IsSummaryOf, summary_text}

module _ (m : Module) (script : Script) (turns : ℕ)
    (one : (initial : StepResult) → HasOneResultAtMost (run_from (program_of m script) all_one initial) all_one turns)
  where
    summary-unmade : (printed : List ℕ) (fault : Fault) → IsSummaryOf m script turns printed
        → IsUnmade m script turns fault → ⊥
    summary-unmade printed fault is unmade =
        light-unmade m script turns one fault
        (record { supply = is.supply; store = is.store; tape = is.tape; needed = is.needed; light = is.light }) unmade

    -- the lines of the counts of a run and of the tape that it needs
    pub summary-of_counts : (counts : Counts) (supply : Supply) (store : Store) (tape : Tape) (printed : List ℕ)
        → HasCounts m script turns counts → NeedsTape m script turns supply store tape → tape_weight tape ≤ MAX_TAPE_WEIGHT
        → printed ≡ summary_text counts.turns counts.entries (length tape.segments) (tape_weight tape)
        → IsSummaryOf m script turns printed
    summary-of_counts counts supply store tape printed is needed light lines =
        let same : is.run ≡ needed.run =
        run-one m script turns one is.run needed.run is.outcome needed.outcome is.ends needed.ends in
        record {
          supply = supply;
          store = store;
          tape = tape;
          needed = needed;
          light = light;
          lines =
              lines
              ∙ ap (λ took. summary_text took counts.entries (length tape.segments) (tape_weight tape))
              (is.turns_are ∙ ap (λ (run : Run). run.turns) same)
              ∙ ap (λ entries. summary_text needed.run.turns entries (length tape.segments) (tape_weight tape))
              (is.entries_are ∙ ap (λ (run : Run). length run.history) same);
        }

    -- a result with its cause is the answer of a call that prints something where there is a replay module
    pub summary_is : {Z : Type 0} (r : Result (Vec ℕ Z) Fault)
        → IsCaused (IsSummaryOf m script turns) (IsUnmade m script turns) r
        → IsReplayAnswer (IsSummaryOf m script turns) (IsUnmade m script turns) (NeedsLightTape m script turns) r
    summary_is =
        replay_answer (IsSummaryOf m script turns) (IsUnmade m script turns) (NeedsLightTape m script turns)
        summary-unmade (λ light fault. light-unmade m script turns one fault light) (unmade-one m script turns one)
