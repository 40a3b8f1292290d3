-- The law, from those of lower layers.
use Rattle.state_laws.proofs.SizesModules.{state_modules_can_be_replayed}
use Rattle.state_laws.proofs.module_laws.state_modules_can_be_replayed.Goals as goal

pub returns : goal.returns
returns c =
    state_modules_can_be_replayed (record {
      core = c.encoding_forms.ensures.core;
      in_replay = c.encoding_forms.ensures.in_replay;
      least = c.shortest_encoding.ensures.least;
      encodable = c.shortest_encoding.ensures.encodable;
      indices = c.plans_fit_indices.ensures;
      plans = c.replay_modules_of_tapes_are_valid.ensures.plans;
      valid = c.replay_modules_of_tapes_are_valid.ensures.valid;
    })
