use Rattle.std.proofs.Common.{◌≡◌, length, drop, []}
use Rattle.trace_model.specs.Fitting.{unfit_from}
use Rattle.trace_model.proofs.fitting.segments_fit.Given as goal

abbrev pub invariant-segments : goal.invariant-segments
invariant-segments l =
    unfit_from l.scope (length l.segments) 0 [] l.segments
    ≡ unfit_from l.scope (length l.segments) l.number l.opened (drop l.number l.segments)
