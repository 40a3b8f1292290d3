use Rattle.replay_laws.proofs.Sized.{can_be_replayed, is_core}
use Rattle.replay_laws.proofs.encoded_replays.replay_bytes.Goals as goal

pub encoded_replay-requires-clause-core : goal.encoded_replay-requires-clause-core
encoded_replay-requires-clause-core c =
    is_core c.requires.encoded.0 c.args.checked c.requires.encoded.1.encoded c.encoding_forms.ensures.core
    c.shortest_encoding.ensures.encodable

pub encoded_replay-requires-clause-can : goal.encoded_replay-requires-clause-can
encoded_replay-requires-clause-can c =
    can_be_replayed c.requires.encoded.0 c.args.checked c.args.supply.now c.args.tape c.requires.encoded.1
    (record { matches = c.requires.supplied; table = c.know_maximum.ensures })
    (record { fits = c.requires.fits; constants = c.requires.constants; weight = c.requires.light })
    c.plans_fit_indices.ensures c.replay_modules_are_encodable.ensures c.replay_modules_are_short.ensures.bounds
