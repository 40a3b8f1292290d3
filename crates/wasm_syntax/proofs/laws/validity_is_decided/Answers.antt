use Rattle.wasm_syntax.proofs.ValidityTests.{bodies_decide}
use Rattle.wasm_syntax.proofs.Places.{valid_found, valid_if, invalid_found, invalid_if}
use Rattle.wasm_syntax.proofs.laws.validity_is_decided.Goals as goal

pub returns-clause-valid : goal.returns-clause-valid
returns-clause-valid c = λ m. (valid_found m, valid_if m)

pub returns-clause-invalid : goal.returns-clause-invalid
returns-clause-invalid c = λ m place. (invalid_found m place, invalid_if m place)

pub returns-clause-bodies : goal.returns-clause-bodies
returns-clause-bodies c = λ m f. ((bodies_decide m f).1, (bodies_decide m f).0)
