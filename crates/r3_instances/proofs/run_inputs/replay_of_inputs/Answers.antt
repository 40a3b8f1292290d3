use Rattle.r3_instances.proofs.FileFacts.{original_module}
use Rattle.r3_instances.proofs.run_inputs.replay_of_inputs.Goals as goal

pub replay_of-requires-clause-original : goal.replay_of-requires-clause-original
replay_of-requires-clause-original c =
    original_module c.args.inputs.checked c.requires.recorded c.shortest_encoding.ensures.encodes
    c.encoding_forms.ensures.in_core c.lists_of_encoding.ensures.within
