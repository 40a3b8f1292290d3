use Rattle.std.proofs.Common.{◌+◌, ◌++◌, map, Some, ap, ◌∙◌, arith}
use Rattle.rest_spec.specs.StateSegments.{func_runs, run_segment}
use Rattle.checkpoint.proofs.ElemRuns.{closed}
use Rattle.checkpoint.proofs.elem_segments.ElemRuns.take_none.Goals as goal

pub returns-clause-segments : goal.returns-clause-segments
returns-clause-segments c =
    let runs = c.args.self.now in
    let made = c.close.new.self in
    let next = c.from.result + 1 in
    λ later.
    ap
    (λ funcs. made.elems.items ++ map run_segment (func_runs next (map (λ func. Some func) funcs ++ later)))
    c.in_ok-close.ensures.funcs
    ∙ ap (λ elems. elems ++ map run_segment (func_runs next later)) c.in_ok-close.ensures.elems
    ∙ closed runs.start next runs.funcs.items runs.elems.items later (omega arith)
