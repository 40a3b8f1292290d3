use Rattle.std.proofs.Common.{map, ap, ◌∙◌}
use Rattle.recorder.proofs.Entries.{types_stay}
use Rattle.recorder.proofs.tables.find_global.Goals as goal

pub returns-in_ok-event-clause-globals : goal.returns-in_ok-event-clause-globals
returns-in_ok-event-clause-globals g c =
    ap (λ t. map (λ known. known.ty) t.globals) c.take_global.ensures
    ∙ types_stay c.args.tables.now.globals c.args.global c.args.value c.requires
