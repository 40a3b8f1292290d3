use Rattle.std.proofs.Common.{arith}
use Rattle.wasm_decode.specs.Drafts.{section_of}
use Rattle.wasm_decode.proofs.SectionRows.{gives_codes, gives_elements, no_section}
use Rattle.wasm_decode.proofs.sections.first_section.Goals as goal

pub returns-in-9 : goal.returns-in-9
returns-in-9 c =
    gives_elements (λ read. (section_of read.0, read.1.now)) c.first_element_section.result c.args.form c.in_ok-id.id
    c.in_ok-id.rest.now c.args.bytes.now c.in_ok-id.ensures c.in-9.is c.first_element_section.ensures

pub returns-in-10 : goal.returns-in-10
returns-in-10 c =
    gives_codes (λ read. (section_of read.0, read.1.now)) c.first_code_section.result c.args.form c.in_ok-id.id
    c.in_ok-id.rest.now c.args.bytes.now c.in_ok-id.ensures c.in-10.is c.first_code_section.ensures

pub returns-in_default : goal.returns-in_default
returns-in_default c =
    no_section c.args.form c.in_ok-id.id c.in_ok-id.rest.now c.args.bytes.now c.in_ok-id.ensures (omega arith)
