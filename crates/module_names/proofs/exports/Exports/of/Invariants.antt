use Rattle.std.proofs.Common.{◌≡◌, ℕ, List, drop}
use Rattle.module_names.specs.Names.{export_of}
use Rattle.module_names.proofs.NameIndex.{so_far}
use Rattle.module_names.proofs.exports.Exports.of.Given as goal

-- what is exported is in the index, or is still to come
abbrev pub invariant-exports : goal.invariant-exports
invariant-exports l =
    (q : List ℕ)
    → so_far (λ export. export.kind) (λ export. export.name) l.kinds.entries (drop l.export-index l.export-items) q
    ≡ export_of l.fn.module q
