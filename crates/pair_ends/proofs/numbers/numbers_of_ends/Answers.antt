use Rattle.std.proofs.Common.{◌≡◌, ℕ, ap, ◌∙◌}
use Rattle.pair_ends.specs.Ends.{end_at}
use Rattle.pair_ends.specs.Numbers.{number_if}
use Rattle.pair_ends.proofs.Counted.{one_more}
use Rattle.pair_ends.proofs.numbers.numbers_of_ends.Goals as goal

pub indices-preserved : goal.indices-preserved
indices-preserved c =
    let F : ℕ → ℕ = λ index. number_if c.args.counts.now (end_at c.args.ends.now c.args.side index) in
    let value : c.number_if.result ≡ F c.indices.index = c.number_if.ensures ∙ ap (number_if c.args.counts.now) c.at.ensures in
    one_more F c.indices.index c.indices.numbers.items c.push.new.self.items c.number_if.result c.indices.invariant value c.in_ok-push.ensures.items
