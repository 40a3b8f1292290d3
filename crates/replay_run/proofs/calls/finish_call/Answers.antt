use Rattle.std.proofs.Common.{◌+◌, ◌∙◌, arith, subst}
use Rattle.replay_run.specs.declared.calls.CallStand.TheVariants as at
use Rattle.replay_run.specs.RunsSoFar.{IsShown, ShowsSoFar}
use Rattle.replay_run.proofs.Extends.{rebudgeted}
use Rattle.replay_run.proofs.calls.finish_call.Goals as goal

pub go_on-requires : goal.go_on-requires
go_on-requires c = subst (λ stand. IsShown stand c.steps.shown c.steps.machine) c.in-Instruction.is c.steps.invariant.1

pub steps-preserved : goal.steps-preserved
steps-preserved c =
    let here : IsShown at.Instruction c.steps.shown c.steps.machine =
    subst (λ stand. IsShown stand c.steps.shown c.steps.machine) c.in-Instruction.is c.steps.invariant.1 in
    let so = here.5 in
    let fewer = c.in_ok-stand.ensures.less in
    let before = c.steps.invariant.2 in (
      λ m actions initial turns first.
          c.in_ok-stand.ensures.goes m actions initial turns
          (subst (λ stand. ShowsSoFar m actions initial turns stand c.steps.shown c.steps.machine c.steps.left)
          c.in-Instruction.is (c.steps.invariant.0 m actions initial turns first)),
      (
        here.0,
        here.1,
        here.2,
        so.used + c.steps.left,
        c.go_on.new.left,
        c.in_ok-stand.ensures.goes here.0 here.1 here.2 (so.used + c.steps.left) (rebudgeted here.0 here.1 here.2 here.3
            at.Instruction c.steps.shown c.steps.machine here.4 c.steps.left so),
      ),
      omega (arith, fewer, before),
      c.in_ok-stand.ensures.layout ∙ c.steps.invariant.3,
    )
