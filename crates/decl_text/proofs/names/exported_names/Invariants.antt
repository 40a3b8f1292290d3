use Rattle.std.proofs.Common.{map, take}
use Rattle.decl_text.specs.Names.{HoldsNames}
use Rattle.decl_text.proofs.names.exported_names.Given as goal

abbrev pub invariant-exports : goal.invariant-exports
invariant-exports l = HoldsNames l.names.keys (map (λ export. export.name) (take l.export-index l.export-items))
