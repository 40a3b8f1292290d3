use Rattle.linked_pair.proofs.NamedGlobals.{low_without_end}
use Rattle.linked_pair.proofs.global_constants.constants_of_ends.Goals as goal

pub constant_of_end-requires-clause-few : goal.constant_of_end-requires-clause-few
constant_of_end-requires-clause-few c =
    low_without_end c.args.modules.now c.args.ends.now c.args.side c.requires.ends c.requires.imports c.indices.index c.at.result c.at.ensures
