use Rattle.std.proofs.Common.{◌≡◌, map, take}
use Rattle.record_replay_spec.specs.Instrumented.{renumbered_export}
use Rattle.hook_insert.proofs.renumbered_parts.renumbered_exports.Given as goal

abbrev pub invariant-exports : goal.invariant-exports
invariant-exports l = l.list.items ≡ map (renumbered_export l.imports) (take l.export-index l.exports)
