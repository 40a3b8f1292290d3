use Rattle.record_replay_spec.proofs.KindsOfStores.{changes_keep_kinds, kinds_compose}
use Rattle.record_replay_spec.proofs.observed_step_laws.kinds_of_stores.Goals as goal

pub returns : goal.returns
returns c = record { kept = changes_keep_kinds; composed = kinds_compose }
