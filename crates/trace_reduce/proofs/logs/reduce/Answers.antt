use Rattle.std.proofs.Common.{rules, [], length, ◌≤◌, ◌^◌, ◌-◌}
use Rattle.trace_reduce.proofs.Taken.{log_answered}
use Rattle.trace_reduce.proofs.logs.reduce.Goals as goal

pub returns : goal.returns
returns c =
    let few : length c.args.log.now.events ≤ 2 ^ 64 - 1 = search rules in
    c.of_any_weight.ensures _ c.args.log.now few
    (log_answered c.args.log.now _ c.push_all.new.reducer c.finish.result
    (c.in-Ok.ensures c.args.log.now.imports _ c.args.log.now.events
    (record {
      taken = [];
      whole = c.as_slice.ensures;
      has = c.new-reducer.ensures.taken;
      imports = c.new-reducer.ensures.imports;
      limit = c.new-reducer.ensures.most;
    }))
    c.finish.ensures)
