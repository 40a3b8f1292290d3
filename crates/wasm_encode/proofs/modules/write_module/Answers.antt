use Rattle.std.proofs.Common.{arith}
use Rattle.wasm_encode.proofs.ModuleLemmas.{encoding_appended, encoding_length}
use Rattle.wasm_encode.proofs.modules.write_module.Goals as goal

pub write_declarations-requires-clause-sizes : goal.write_declarations-requires-clause-sizes
write_declarations-requires-clause-sizes c = omega (arith, c.requires.sizes, encoding_length c.args.module.now)

pub write_definitions-requires-clause-sizes : goal.write_definitions-requires-clause-sizes
write_definitions-requires-clause-sizes c = omega (arith, c.requires.sizes, encoding_length c.args.module.now)

pub returns : goal.returns
returns c =
    encoding_appended c.args.module.now c.args.out.now.items _ _ _
    c.in_ok-extend_from_slice.ensures.items c.in_ok-write_declarations.ensures c.in_ok-write_definitions.ensures
