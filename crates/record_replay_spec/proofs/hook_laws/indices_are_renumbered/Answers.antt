use Rattle.record_replay_spec.proofs.Indices.{indices_are_renumbered}
use Rattle.record_replay_spec.proofs.hook_laws.indices_are_renumbered.Goals as goal

pub returns : goal.returns
returns c = indices_are_renumbered
