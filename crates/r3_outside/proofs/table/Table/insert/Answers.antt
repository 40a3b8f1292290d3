use Rattle.std.proofs.Common.{ap, ◌∙◌, string_bytes}
use Rattle.std.specs.FinMap.{insert}
use Rattle.r3_outside.proofs.TableLemmas.{by_name-updates}
use Rattle.r3_outside.proofs.table.Table.insert.Goals as goal

pub returns-clause-ok : goal.returns-clause-ok
returns-clause-ok c =
    let name = string_bytes c.in_ok-name.name in
    let bytes = c.in_ok-bytes.bytes in
    by_name-updates (λ bytes. bytes.items) c.self.inside.files c.insert.new.self name bytes c.in_ok-insert.ensures.updates
    ∙ ap (λ files. insert files name bytes.items) c.self.view_is
    ∙ ap (λ n. insert c.args.self.now n bytes.items) c.in_ok-name.ensures.ok
    ∙ ap (λ bs. insert c.args.self.now c.args.name.now bs) c.in_ok-bytes.ensures.items
