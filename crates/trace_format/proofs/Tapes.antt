-- What is read as a tape is a tape that the bytes encode.
use Rattle.std.proofs.Common.{◌≡◌, ℕ, List, [], ◌∷◌, ◌++◌, None, refl}
use Rattle.leb_bytes.specs.Encoding.{IsReadBy}
use Rattle.wasm_syntax.specs.Encoding.Grammar.{Exactly}
use Rattle.wasm_syntax.proofs.Encoding.Tools.{exactly_is}
use Rattle.trace_model.specs.declared.tapes.Segment.{Segment}
use Rattle.trace_model.specs.declared.tapes.Tape.{Tape}
use Rattle.trace_bytes.specs.declared.tags.TheConstants.{TAPE_MAGIC, TAG_CLOSE}
use Rattle.trace_bytes.specs.Spelling.{header_bytes, segment_bytes, tape_bytes}
use Rattle.trace_bytes.specs.Spelled.{FitsSegment, SpellsTape}
use Rattle.trace_format.specs.Answers.{IsTapeBad, IsTapeRead, tape_item}
use Rattle.trace_format.specs.Faults.{IsHeader, IsTapeFront, IsTapeOf}
use Rattle.trace_format.specs.Laws.{SegmentsAreRead, Spells}
use Rattle.trace_format.specs.Reading.{first_close, first_header, first_origin, first_segment}
use Rattle.trace_format.proofs.FileAnswers.{FileFacts}
use Rattle.trace_format.proofs.FileLaws.{IsAny, file_facts}
use Rattle.trace_format.proofs.PartReaders.{same_grammar}
use Rattle.trace_format.proofs.ValueReaders.{header_reads}
use Rattle.trace_format.proofs.Versions.{tape_version}

abbrev Header : Type 0
Header = ℕ × List ℕ

abbrev spell_header : Header → List ℕ
spell_header h = header_bytes TAPE_MAGIC h.0 h.1

abbrev Fits : Header → Segment → Type 0
Fits h = FitsSegment h.0

abbrev spell_close : Unit {0} → List ℕ
spell_close it = TAG_CLOSE ∷ []

close_reads : IsReadBy (Spells IsAny spell_close) first_close
close_reads =
    same_grammar (Exactly (TAG_CLOSE ∷ [])) (Spells IsAny spell_close) first_close
    (λ bytes it h. record { fits = tt; spelled = h })
    (λ bytes it h. h.spelled)
    (let is = exactly_is (TAG_CLOSE ∷ []) in record { found = is.found; only = is.only })

-- no segment begins with the byte that ends a tape
apart : (h : Header) (it : Unit {0}) (rest : List ℕ) → tape_item h (spell_close it ++ rest) ≡ None
unfolding first_segment first_origin
apart h it rest = refl

module _ (segments : SegmentsAreRead) where
  pub tape_facts : (bytes : List ℕ) → FileFacts TAPE_MAGIC bytes (λ (content : List ℕ × Tape). IsTapeOf bytes content.0 content.1)
      (IsTapeRead bytes) (IsTapeFront bytes) (IsTapeBad bytes)
  unfolding tape_bytes
  tape_facts bytes =
      file_facts IsHeader spell_header Fits segment_bytes spell_close (first_header TAPE_MAGIC) tape_item first_close
      (header_reads TAPE_MAGIC) (λ h. segments h.0) close_reads apart TAPE_MAGIC bytes
      (λ version (content : List ℕ × Tape). SpellsTape version bytes content.0 content.1)
      (λ version content. (version, content.0))
      (λ content. content.1.segments)
      (λ content. tt)
      (λ version content fits fit spelled. record {
        is_version = fits.0;
        is_digest = fits.1;
        segments = fit;
        spelled = spelled;
      })
      (λ version content is. ((is.is_version, is.is_digest), is.segments, is.spelled))
      (λ version other content second header items close. λ i. ((header i).1, record { segments = items i }))
      (tape_version bytes)
