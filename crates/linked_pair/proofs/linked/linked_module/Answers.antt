use Rattle.std.proofs.Common.{◌∙◌}
use Rattle.linked_pair.specs.Parts.{pair_of}
use Rattle.linked_pair.proofs.Law.{is_linked}
use Rattle.linked_pair.proofs.linked.linked_module.Goals as goal

pub returns : goal.returns
returns c =
    c.in_ok-made.ensures
    ∙ is_linked (pair_of c.args.left.now c.args.right.now) c.args.left.now.numbers.now c.args.right.now.numbers.now c.requires.left c.requires.right
