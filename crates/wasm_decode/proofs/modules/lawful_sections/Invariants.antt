use Rattle.std.proofs.Common.{ℕ, ◌≤◌, length}
use Rattle.wasm_syntax.specs.Encoding.ReadModules.{lawful_sections}
use Rattle.wasm_decode.specs.Drafts.{empty_draft, draft_with_read}
use Rattle.wasm_decode.proofs.SectionLemmas.{Stands}
use Rattle.wasm_decode.proofs.modules.lawful_sections.Given as goal

abbrev pub invariant-loop-draft : goal.invariant-loop-draft
invariant-loop-draft l = record {
  stands : (most : ℕ) → length l.bytes ≤ most → (left : ℕ)
      × Stands l.form (draft_with_read empty_draft (lawful_sections l.form most 0 l.bytes)) left l.last l.rest l.draft;
  shorter : length l.rest ≤ length l.bytes;
}

abbrev pub decreases-loop-draft : goal.decreases-loop-draft
decreases-loop-draft l = length l.rest
