use Rattle.std.proofs.Common.{◌-◌, ◌∙◌, length, ap, arith}
use Rattle.std.specs.Prelude.{slice_get}
use Rattle.module_index.specs.Runs.{locals_from}
use Rattle.module_index.proofs.RunLemmas.{local-after}
use Rattle.module_index.proofs.locals.Locals.get.Goals as goal

pub returns : goal.returns
returns c =
    c.find.ensures
    ∙ ap (λ ends. slice_get (locals_from 0 ends) (c.args.index - length c.self.inside.params.now)) c.as_slice.ensures.value
    ∙ local-after c.self.inside.params.now c.self.inside.ends.items c.self.inside.rest.now c.args.index
    (c.args.index - length c.self.inside.params.now) (omega arith) (omega arith) c.self.invariant
    ∙ ap (λ locals. slice_get locals c.args.index) c.self.view_is
