use Rattle.std.proofs.Common.{◌≡◌, map, take}
use Rattle.instance_spec.specs.Instances.{resolved_instr}
use Rattle.renamed_modules.proofs.funcs.renamed_body.Given as goal

abbrev pub invariant-body : goal.invariant-body
invariant-body g l = l.code.items ≡ map (resolved_instr (g.N.Numbering.instance l.numbering)) (take l.instr-index l.body)
