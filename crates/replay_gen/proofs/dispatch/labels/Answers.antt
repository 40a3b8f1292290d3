use Rattle.std.proofs.Common.{rules, ◌≡◌, [], ◌∷◌, ◌++◌}
use Rattle.replay_gen.proofs.Blocks.{label_more}
use Rattle.replay_gen.proofs.dispatch.labels.Goals as goal

pub labels-preserved : goal.labels-preserved
labels-preserved c =
    let written : c.push.new.self.items ≡ c.labels.labels.items ++ c.labels.label ∷ [] = search rules in
    label_more c.labels.label c.labels.labels.items c.push.new.self.items c.labels.invariant written
