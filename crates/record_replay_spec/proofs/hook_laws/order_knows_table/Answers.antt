use Rattle.record_replay_spec.proofs.HookTables.{order_knows_table}
use Rattle.record_replay_spec.proofs.hook_laws.order_knows_table.Goals as goal

pub returns : goal.returns
returns c = order_knows_table
