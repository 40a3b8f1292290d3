use Rattle.std.proofs.Common.{◌∙◌}
use Rattle.linked_pair.proofs.NamedGlobals.{defined_within, others_imported}
use Rattle.linked_pair.proofs.global_constants.imported_globals.Goals as goal

pub overflow_sub-result : goal.overflow_sub-result
overflow_sub-result c =
    defined_within c.args.modules.now c.args.side c.numbers_on.result.now c.as_slice.result.now c.«module».result.now
    (c.numbers_on.ensures ∙ c.requires.each c.args.side) c.as_slice.ensures c.«module».ensures

pub returns : goal.returns
returns c =
    others_imported c.args.modules.now c.args.side c.numbers_on.result.now c.as_slice.result.now c.«module».result.now
    (c.numbers_on.ensures ∙ c.requires.each c.args.side) c.as_slice.ensures c.«module».ensures
