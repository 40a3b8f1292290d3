use Rattle.std.proofs.Common.{ap, sym, ◌∙◌, Some}
use Rattle.std.specs.Option.{option_map}
use Rattle.std.specs.FinMap.{get}
use Rattle.r3_outside.proofs.TableLemmas.{get-by_name}
use Rattle.r3_outside.proofs.table.Table.get.Goals as goal

pub returns-in-Some : goal.returns-in-Some
returns-in-Some c =
    ap Some c.as_slice.ensures.value
    ∙ ap (option_map (λ bytes. bytes.items)) c.in-Some.ensures.value
    ∙ sym (get-by_name (λ bytes. bytes.items) c.self.inside.files.entries c.args.name.now)
    ∙ ap (λ files. get files c.args.name.now) c.self.view_is

pub returns-in-None : goal.returns-in-None
returns-in-None c =
    ap (option_map (λ bytes. bytes.items)) c.in-None.ensures.value
    ∙ sym (get-by_name (λ bytes. bytes.items) c.self.inside.files.entries c.args.name.now)
    ∙ ap (λ files. get files c.args.name.now) c.self.view_is
