use Rattle.std.proofs.Common.{◌≡◌, drop}
use Rattle.history_spec.specs.Projection as projection
use Rattle.replay_form.specs.Sides.{as_layout}
use Rattle.shown_lines.proofs.shown_text.trap_outcome.Given as goal

abbrev pub invariant-entries : goal.invariant-entries
invariant-entries l =
    projection.trap_outcome (as_layout l.layout) l.entries ≡ projection.trap_outcome (as_layout l.layout) (drop l.entry-index l.entries)
