use Rattle.std.proofs.Common.{not, ap, ◌∙◌, List, ℕ}
use Rattle.std.specs.Prelude.{bytes_eq}
use Rattle.std.specs.List.{list_any}
use denote.Bor.{Bor}
use Rattle.wasm_validate.proofs.NameLemmas.{has-name, insert-known}
use Rattle.wasm_validate.proofs.export_names.add.Goals as goal

pub returns-clause-added : goal.returns-clause-added
returns-clause-added c = c.in_ok-insert.ensures.added ∙ ap not (has-name c.args.names.now.keys c.args.name.now)

pub returns-clause-known : goal.returns-clause-known
returns-clause-known c = λ other.
    ap (list_any (λ (k : Bor (List ℕ)). bytes_eq other k.now)) c.in_ok-insert.ensures.keys ∙ insert-known c.args.names.now.keys c.args.name other
