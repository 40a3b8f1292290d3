use Rattle.std.proofs.Common.{◌≡◌, map, take}
use Rattle.instance_spec.specs.Widened.{renamed_export}
use Rattle.renamed_modules.proofs.exports.renamed_exports.Given as goal

abbrev pub invariant-exports : goal.invariant-exports
invariant-exports g l = l.list.items ≡ map (renamed_export (g.N.Numbering.instance l.numbering)) (take l.export-index l.exports)
