use Rattle.std.proofs.Common.{◌≡◌, take}
use Rattle.replay_run_spec.specs.Inside.{args_after_all}
use Rattle.shown_lines.specs.ShownLines.{Shows}
use Rattle.shown_lines.proofs.shown_text.ShownText.show_after.Given as goal

abbrev pub invariant-entries : goal.invariant-entries
invariant-entries l =
    Shows l.fn.self l.self l.fn.first (take l.entry-index l.entries) × (l.args ≡ args_after_all l.fn.first (take l.entry-index l.entries))
