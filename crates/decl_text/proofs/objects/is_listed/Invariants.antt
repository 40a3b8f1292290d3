use Rattle.std.proofs.Common.{◌≡◌, drop}
use Rattle.std.specs.List.{list_any}
use Rattle.std.specs.Str.{bytes_eq}
use Rattle.script_text.proofs.Listed.{texts}
use Rattle.decl_text.proofs.objects.is_listed.Given as goal

abbrev pub invariant-names : goal.invariant-names
invariant-names l = list_any (bytes_eq l.key) (texts l.listed) ≡ list_any (bytes_eq l.key) (texts (drop l.name-index l.listed))
