use Rattle.std.proofs.Common.{refl}
use Rattle.trace_reduce.proofs.Fitting.{effects_answered}
use Rattle.trace_reduce.proofs.first_values.Firsts.effects.Goals as goal

pub returns : goal.returns
returns c =
    effects_answered c.args.self.now
    (record {
      pages = c.args.self.now.pages;
      size = c.args.self.now.size;
      bytes = c.sort_groups.new.groups;
      entries = c.args.self.now.entries;
      globals = c.args.self.now.globals;
    })
    c.effects_of.result refl refl c.in_ok-sort_groups.ensures.bytes refl refl c.effects_of.ensures.effects
    c.effects_of.ensures.sorted
