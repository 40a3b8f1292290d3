use Rattle.std.proofs.Common.{◌≡◌, ℕ, ◌<◌, List, length, Some, None, ap, sym, ◌∙◌, arith}
use Rattle.wasm_syntax.specs.Encoding.ReadModules.{lawful_sections, next_section}
use Rattle.wasm_syntax.specs.Encoding.Sections.{Section}
use Rattle.wasm_decode.specs.declared.draft.Draft.{Draft}
use Rattle.wasm_decode.specs.Drafts.{empty_draft, draft_with_read, section_of}
use Rattle.wasm_decode.proofs.SectionLemmas.{goes_on, is_all}
use Rattle.wasm_decode.proofs.modules.lawful_sections.Goals as goal

pub loop-draft-init : goal.loop-draft-init
loop-draft-init c = record {
  stands =
      λ most few. (
        most,
        (
          few,
          ap (λ d. draft_with_read d (lawful_sections c.args.form most 0 c.args.bytes.now))
              c.new-draft.ensures,
        ),
      );
  shorter = omega arith;
}

pub loop-draft-preserved : goal.loop-draft-preserved
loop-draft-preserved c =
    let next : Section × ℕ × List ℕ = (section_of c.in-Some.section, c.in-Some.id, c.in-Some.after.now) in
    let is-next : next_section c.args.form c.loop-draft.last c.loop-draft.rest.now
    ≡ Some next = sym (rw c.in-Some.is at c.in_ok-section.ensures.read) in
    let fewer : length c.in-Some.after.now < length c.loop-draft.rest.now =
    rw c.in-Some.is at c.in_ok-section.ensures.shorter in
    record {
      stands = λ most few.
          let all : Draft × List ℕ = draft_with_read empty_draft
          (lawful_sections c.args.form most 0 c.args.bytes.now) in
          let gone = goes_on c.args.form all c.loop-draft.last c.loop-draft.rest.now c.loop-draft.draft next is-next
          fewer (c.loop-draft.invariant.stands most few) in (
            gone.0,
            (
              gone.1.0,
              ap
                  (λ d. draft_with_read d (lawful_sections c.args.form gone.0 c.in-Some.id c.in-Some.after.now))
                  c.in_ok-draft.ensures ∙ gone.1.1,
            ),
          );
      shorter = omega (arith, fewer, c.loop-draft.invariant.shorter);
    }

pub returns-clause-read : goal.returns-clause-read
returns-clause-read c = λ most few.
    let none : next_section c.args.form c.loop-draft.last c.loop-draft.rest.now
    ≡ None = sym (rw c.in_default.is at c.in_ok-section.ensures.read) in
    is_all c.args.form (draft_with_read empty_draft (lawful_sections c.args.form most 0 c.args.bytes.now))
    c.loop-draft.last c.loop-draft.rest.now c.loop-draft.draft none (c.loop-draft.invariant.stands most few)
