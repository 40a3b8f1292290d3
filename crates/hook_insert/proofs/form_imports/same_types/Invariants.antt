use Rattle.std.proofs.Common.{◌≡◌, drop}
use Rattle.wasm_syntax.specs.Alike.{same_types}
use Rattle.hook_insert.proofs.form_imports.same_types.Given as goal

abbrev pub invariant-places : goal.invariant-places
invariant-places l = same_types (drop l.place l.types) (drop l.place l.others) ≡ same_types l.types l.others
