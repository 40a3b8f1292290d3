use Rattle.wasm_syntax.proofs.Encoding.Forms.{module_core, core_replay, replay_core}
use Rattle.wasm_syntax.proofs.encoding_laws.encoding_forms.Goals as goal

pub returns : goal.returns
returns c = record { core = module_core; in_replay = core_replay; in_core = replay_core }
