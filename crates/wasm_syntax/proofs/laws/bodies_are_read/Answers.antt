use Rattle.wasm_syntax.proofs.Nests.{nest_of_body, body_of_nest}
use Rattle.wasm_syntax.proofs.laws.bodies_are_read.Goals as goal

pub returns : goal.returns
returns c = λ nest body. (nest_of_body nest body, body_of_nest nest body)
