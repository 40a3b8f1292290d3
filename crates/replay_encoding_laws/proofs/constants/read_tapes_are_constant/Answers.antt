use Rattle.replay_encoding_laws.proofs.ReadTapes.{read_constant}
use Rattle.replay_encoding_laws.proofs.constants.read_tapes_are_constant.Goals as goal

pub returns : goal.returns
returns c bytes digest tape all of = read_constant of.0 bytes digest tape all of.1
