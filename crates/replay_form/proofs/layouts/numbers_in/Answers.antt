use Rattle.std.proofs.Common.{◌≡◌, ◌++◌, sym, ◌∙◌, ap}
use Rattle.std.proofs.lemmas.Bool.Decides.{not_from_Decides}
use Rattle.std.proofs.lemmas.Slice.Eq.{bytes_eq-Decides}
use Rattle.std.specs.Prelude.{bytes_eq}
use Rattle.leb_bytes.specs.Unsigned.{u32_bytes}
use Rattle.replay_form.proofs.LayoutBytes.{no_second, written_as_read}
use Rattle.replay_form.proofs.layouts.numbers_in.Goals as goal

pub returns-in_default-read_u32-clause-absent : goal.returns-in_default-read_u32-clause-absent
returns-in_default-read_u32-clause-absent c = λ layout h.
    no_second c.u32_encoding.ensures.encoding c.args.bytes.now c.in-Ok.imports c.in-Ok.next c.in-Ok.ensures.front layout h c.in_default-read_u32.ensures.front

pub returns-clause-absent : goal.returns-clause-absent
returns-clause-absent c = λ layout h.
    let same =
    written_as_read c.u32_encoding.ensures.encoding c.args.bytes.now c.in-Ok.imports c.in-Ok.next c.in-Ok.ensures.front layout h c.in-Ok-read_u32.defined _
    c.in-Ok-read_u32.ensures.front
    in
    let written : c.as_slice.result.now ≡ u32_bytes c.in-Ok.imports ++ u32_bytes c.in-Ok-read_u32.defined =
    c.as_slice.ensures.value ∙ c.in_ok-push_u32-2.ensures.ok
    ∙ ap (λ items. items ++ u32_bytes c.in-Ok-read_u32.defined)
    (c.in_ok-push_u32.ensures.ok ∙ ap (λ items. items ++ u32_bytes c.in-Ok.imports) c.new-written.ensures.items)
    in
    not_from_Decides (bytes_eq c.as_slice.result.now c.args.bytes.now)
    (bytes_eq-Decides c.as_slice.result.now c.args.bytes.now) (sym c.eq.ensures ∙ c.if-eq.false) (written ∙ same)
