use Rattle.std.proofs.Common.{◌≡◌, IfOk, subst}
use Rattle.wasm_syntax.specs.ValidityTests.{invalid_at}
use Rattle.wasm_validate.proofs.whole.invalid_at.Goals as goal

pub returns : goal.returns
returns c = subst (λ m. IfOk c.invalid_within.result (λ place. place ≡ invalid_at m)) c.in_ok-scope.ensures c.invalid_within.ensures
