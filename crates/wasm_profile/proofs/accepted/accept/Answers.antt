use Rattle.std.proofs.Common.{OnOk, subst}
use Rattle.wasm_profile.proofs.Whole.{accepted_if}
use Rattle.wasm_syntax.specs.Profile.{IsAccepted}
use Rattle.wasm_profile.proofs.accepted.accept.Goals as goal

pub returns-clause-accepted : goal.returns-clause-accepted
returns-clause-accepted c =
    subst (λ m. OnOk c.refuse.result (IsAccepted c.args.hooked m)) c.module.ensures.same
    (accepted_if c.args.hooked c.module.result.now c.refuse.result c.module.ensures.valid c.refuse.ensures)
