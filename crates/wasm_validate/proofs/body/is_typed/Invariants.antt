use Rattle.std.proofs.Common.{◌≡◌, drop}
use Rattle.wasm_validate.specs.Flat.{scan, body_start}
use Rattle.wasm_validate.specs.Scopes.{base_of}
use Rattle.wasm_validate.proofs.body.is_typed.Given as goal

abbrev pub invariant-body : goal.invariant-body
invariant-body l =
    scan (base_of l.func) (drop l.instr-index l.body) l.stacks
    ≡ scan (base_of l.func) l.body (body_start l.func.outcome)
