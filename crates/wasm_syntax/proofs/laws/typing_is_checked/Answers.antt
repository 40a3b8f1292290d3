use Rattle.wasm_syntax.proofs.NestTypes.{checked_fits, checked_from}
use Rattle.wasm_syntax.proofs.laws.typing_is_checked.Goals as goal

pub returns-clause-known : goal.returns-clause-known
returns-clause-known c = checked_fits

pub returns-clause-reached : goal.returns-clause-reached
returns-clause-reached c = checked_from
