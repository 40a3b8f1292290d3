use Rattle.std.proofs.Common.{◌∙◌}
use Rattle.linked_pair.specs.GlobalConstants.{numbers_on}
use Rattle.linked_pair.proofs.NamedGlobals.{constants_are}
use Rattle.linked_pair.proofs.global_constants.global_constants.Goals as goal

pub returns : goal.returns
returns c =
    c.in_ok-list.ensures
    ∙ constants_are c.args.modules.now c.args.ends.now c.args.side c.requires.ends (numbers_on c.args.numbers.now c.args.side)
    (c.requires.numbers.each c.args.side)
