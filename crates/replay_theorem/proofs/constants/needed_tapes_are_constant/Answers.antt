use Rattle.std.proofs.Common.{[], replicate}
use Rattle.std.proofs.lemmas.List.Elements.{recursion_from_All}
use Rattle.tape_laws.proofs.SafeRuns.{safe_run}
use Rattle.generated_code_laws.specs.Playable.{AllWriteBytes}
use Rattle.history_spec.specs.Run.{program_of, start_in_store}
use Rattle.record_replay_spec.specs.Known.{opening_known}
use Rattle.record_replay_spec.specs.Observations.{run_observations}
use Rattle.replay_theorem.proofs.ConstantEffects.{segments_constant}
use Rattle.replay_theorem.proofs.ConstantSteps.{run_constant}
use Rattle.replay_theorem.proofs.constants.needed_tapes_are_constant.Goals as goal

pub returns : goal.returns
returns c m script supply store tape runnable fits links opens needed =
    let steps = c.laws_of_steps.ensures in
    let run = safe_run c.laws_of_runs.ensures m script supply store runnable fits links opens in
    segments_constant (opening_known store) []
    (run_observations (program_of m script) (start_in_store m script store) needed.count) tape.segments needed.needed
    (run_constant steps.rules steps.steps m run.heights runnable.valid run.typed script.imports fits.imports m.start store
    (replicate (program_of m script).code.imported 0) script.main needed.count run.safe)
    (recursion_from_All AllWriteBytes tape.segments
    (c.needed_tapes_write_bytes.ensures m script supply store tape.segments runnable fits links opens needed))
