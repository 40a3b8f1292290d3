use Rattle.worked_replay_modules.proofs.HandmadePart.{eight_is_supply, of_no_plan, original_is_valid, part_fits, replay_is_encodable}
use Rattle.worked_replay_modules.proofs.handmade_part_fits.Goals as goal

pub returns : goal.returns
returns c =
    record {
      valid = original_is_valid c.validity_is_decided.ensures.valid;
      supplied = eight_is_supply;
      fits = part_fits c.validity_is_decided.ensures.valid;
      of_no_plan = of_no_plan;
      encodable =
          replay_is_encodable c.module_encoding.ensures.encoded c.shortest_encoding.ensures.encodable;
    }
