use Rattle.std.proofs.Common.{length, sym, ◌∙◌}
use Rattle.std.proofs.lemmas.List.FromFn.{length-map-range_with_len}
use Rattle.recorder.specs.FrozenViews.{original_entry}
use Rattle.checkpoint.proofs.state_modules.known_entries.Goals as goal

pub returns : goal.returns
returns c =
    c.entries.ensures
    ∙ sym (length-map-range_with_len (original_entry c.args.frozen.now) 0 (length c.args.frozen.now.entries))
