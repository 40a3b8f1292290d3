use Rattle.std.proofs.Common.{string_bytes}
use Rattle.r3_outside.proofs.CountLemmas.{with_number-updates}
use Rattle.r3_outside.proofs.counts.Counts.list.Goals as goal

pub returns-clause-ok : goal.returns-clause-ok
returns-clause-ok c =
    with_number-updates c.args.self.now c.self.inside.listed c.self.inside.unlisted c.args.name.now c.self.view_is
    c.insert.new.self (string_bytes c.in_ok-name.name) c.args.count c.in_ok-name.ensures.ok
    c.in_ok-insert.ensures.updates
