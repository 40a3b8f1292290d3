use Rattle.std.proofs.Common.{drop, ◌∙◌}
use Rattle.leb_bytes.specs.Unsigned.{u32_bytes}
use Rattle.hook_insert.proofs.Sections.{eq_none, eq_some}
use Rattle.hook_insert.proofs.forms.has_numbers.Goals as goal

pub returns-in-Some : goal.returns-in-Some
returns-in-Some c =
    c.ends_with_u32.ensures
    ∙ eq_some (u32_bytes c.args.imports) (u32_bytes c.args.defined) (drop 32 c.args.bytes.now) _ c.in-Some.ensures.1

pub returns-in-None : goal.returns-in-None
returns-in-None c =
    eq_none (u32_bytes c.args.imports) (u32_bytes c.args.defined) (drop 32 c.args.bytes.now) c.in-None.ensures
