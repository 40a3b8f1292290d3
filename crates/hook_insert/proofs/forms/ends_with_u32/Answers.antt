use Rattle.std.proofs.Common.{[], drop, ap, ◌∙◌, append-nil}
use Rattle.std.specs.Prelude.{bytes_eq}
use Rattle.leb_bytes.specs.Unsigned.{u32_bytes}
use Rattle.hook_insert.proofs.Sections.{eq_end, eq_none, eq_some}
use Rattle.hook_insert.proofs.forms.ends_with_u32.Goals as goal

pub returns-in-Some : goal.returns-in-Some
returns-in-Some c =
    eq_end c.args.bytes.now c.in-Some.«end» c.in-Some.ensures.0
    ∙ eq_some (u32_bytes c.args.number) [] (drop c.args.at c.args.bytes.now) _ c.in-Some.ensures.1
    ∙ ap (bytes_eq (drop c.args.at c.args.bytes.now)) (append-nil (u32_bytes c.args.number))

pub returns-in-None : goal.returns-in-None
returns-in-None c =
    eq_none (u32_bytes c.args.number) [] (drop c.args.at c.args.bytes.now) c.in-None.ensures
    ∙ ap (bytes_eq (drop c.args.at c.args.bytes.now)) (append-nil (u32_bytes c.args.number))
