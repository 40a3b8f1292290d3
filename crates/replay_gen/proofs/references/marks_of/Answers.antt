use Rattle.std.proofs.Common.{rules, ◌≡◌, [], ◌++◌, replicate, false, subst}
use Rattle.module_index.specs.Marks.{AreMarks}
use Rattle.module_index.proofs.MarkLemmas.{none-marked}
use Rattle.replay_module_spec.specs.Fragments.{referred_funcs}
use Rattle.replay_gen.proofs.Marks.{referred_of_all}
use Rattle.replay_gen.proofs.references.marks_of.Goals as goal

pub returns : goal.returns
returns c =
    let below = c.args.below in
    let fresh : c.in_ok-marks.marks.items ≡ replicate below false = search rules in
    let first = referred_funcs c.args.bodies.now in
    subst (AreMarks c.mark_funcs-3.new.marks.items below) (referred_of_all c.args.bodies.now c.args.own.now c.args.helpers.now)
    (c.mark_funcs-3.ensures below (first ++ referred_funcs c.args.own.now) (c.mark_funcs-2.ensures below first
    (c.mark_funcs.ensures below [] (none-marked below c.in_ok-marks.marks.items fresh))))
