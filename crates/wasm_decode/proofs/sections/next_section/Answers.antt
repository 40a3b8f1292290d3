use Rattle.std.proofs.Common.{◌≡◌, ◌≤◌, ◌<◌, sym, ◌∙◌, subst}
use Rattle.std.specs.Prelude.{Some}
use Rattle.wasm_syntax.specs.Encoding.ReadModules.{next_section}
use Rattle.wasm_syntax.specs.Encoding.Sections.{id_of}
use Rattle.wasm_decode.specs.Drafts.{section_of}
use Rattle.wasm_decode.proofs.SectionLemmas.{none_is_next, custom_is_next, late_is_none, later_is_next}
use Rattle.wasm_decode.proofs.RestLengths.{section_shortens}
use Rattle.wasm_decode.proofs.sections.next_section.Goals as goal

pub returns-in-Err-NotThere-clause-read : goal.returns-in-Err-NotThere-clause-read
returns-in-Err-NotThere-clause-read c =
    none_is_next c.args.form c.args.last c.args.bytes.now
    (rw c.in-Err-NotThere.field-0-is at c.in-Err-NotThere.ensures)

pub returns-then-id-eq-SECTION_CUSTOM-clause-read : goal.returns-then-id-eq-SECTION_CUSTOM-clause-read
returns-then-id-eq-SECTION_CUSTOM-clause-read c =
    custom_is_next c.args.form c.args.last c.args.bytes.now c.in-Ok.read.1.now (section_of c.in-Ok.read.0)
    c.in-Ok.ensures (sym c.id-id.ensures ∙ c.if-id-eq-SECTION_CUSTOM.true)

pub returns-then-id-eq-SECTION_CUSTOM-clause-shorter : goal.returns-then-id-eq-SECTION_CUSTOM-clause-shorter
returns-then-id-eq-SECTION_CUSTOM-clause-shorter c =
    section_shortens c.u32_encoding.ensures.encoding.read c.args.form c.args.bytes.now c.in-Ok.read.1.now
    (section_of c.in-Ok.read.0) c.in-Ok.ensures

pub returns-then-id-last-clause-read : goal.returns-then-id-last-clause-read
returns-then-id-last-clause-read c =
    let late : id_of (section_of c.in-Ok.read.0) ≤ c.args.last = subst (λ id. id ≤ c.args.last) c.id-id.ensures
    c.if-id-last.true in
    late_is_none c.args.form c.args.last c.args.bytes.now c.in-Ok.read.1.now (section_of c.in-Ok.read.0) c.in-Ok.ensures
    (λ e. c.if-id-eq-SECTION_CUSTOM.false (c.id-id.ensures ∙ e)) late

pub returns-clause-read : goal.returns-clause-read
returns-clause-read c =
    let later : c.args.last < id_of (section_of c.in-Ok.read.0) = subst (λ id. c.args.last < id) c.id-id.ensures
    c.if-id-last.false in
    subst (λ id. Some (section_of c.in-Ok.read.0, id, c.in-Ok.read.1.now)
    ≡ next_section c.args.form c.args.last c.args.bytes.now) (sym c.id-id.ensures)
    (later_is_next c.args.form c.args.last c.args.bytes.now c.in-Ok.read.1.now (section_of c.in-Ok.read.0)
    c.in-Ok.ensures
    (λ e. c.if-id-eq-SECTION_CUSTOM.false (c.id-id.ensures ∙ e)) later)

pub returns-clause-shorter : goal.returns-clause-shorter
returns-clause-shorter c =
    section_shortens c.u32_encoding.ensures.encoding.read c.args.form c.args.bytes.now c.in-Ok.read.1.now
    (section_of c.in-Ok.read.0) c.in-Ok.ensures
