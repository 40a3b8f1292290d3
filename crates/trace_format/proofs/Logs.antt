-- What is read as a log is a log that the bytes encode.
use Rattle.std.proofs.Common.{◌≡◌, ℕ, Bool, true, false, cond, List, [], ◌∷◌, ◌++◌, Some, None, refl, ap}
use Rattle.std.specs.Prelude.{nat_eq, option_and_then}
use Rattle.wasm_syntax.specs.Encoding.Combinators.{Reader, row_at, map_read}
use Rattle.base.specs.declared.outcomes.Outcome.{Outcome}
use Rattle.base.specs.declared.outcomes.Outcome.TheVariants.{Ended, Trapped, HostTrapped}
use Rattle.trace_model.specs.declared.events.Event.{Event}
use Rattle.trace_model.specs.declared.events.Event.TheVariants.{Table}
use Rattle.trace_model.specs.declared.events.Log.{Log}
use Rattle.trace_bytes.specs.declared.tags.TheConstants.{LOG_MAGIC, TAG_TABLE, TAG_ENDED, TAG_TRAPPED, TAG_HOST_TRAPPED, VERSION_2}
use Rattle.trace_bytes.specs.Spelling.{event_bytes, log_bytes, log_header_bytes}
use Rattle.trace_bytes.specs.Spelled.{FitsEvent, SpellsLog}
use Rattle.trace_format.specs.Answers.{IsLogBad, IsLogRead, log_item}
use Rattle.trace_format.specs.Faults.{IsLogFront, IsLogHeader, IsLogOf}
use Rattle.trace_format.specs.Laws.{EventsAreRead, NumberLaws}
use Rattle.trace_format.specs.Reading.{first_event, first_log_header, first_number, first_outcome, from_second}
use Rattle.trace_format.proofs.FileAnswers.{FileFacts}
use Rattle.trace_format.proofs.FileLaws.{file_facts}
use Rattle.trace_format.proofs.ItemReaders.{outcome_bytes, outcome_reads}
use Rattle.trace_format.proofs.ValueReaders.{log_header_reads}
use Rattle.trace_format.proofs.Versions.{log_version}

-- no event begins with the byte of an outcome
no_row : (mark : ℕ) (version : ℕ) → nat_eq TAG_TABLE mark ≡ false
    → row_at (from_second version (TAG_TABLE, map_read Table first_number)) mark ≡ None
no_row mark version apart = go (nat_eq version VERSION_2) where
  go : (b : Bool) → row_at (cond b ((TAG_TABLE, map_read Table first_number) ∷ []) []) mark ≡ None
  go true = ap (λ c. cond c (Some (map_read Table first_number)) None) apart
  go false = refl

abbrev Header : Type 0
Header = (ℕ × List ℕ) × ℕ

apart : (h : Header) (o : Outcome) (rest : List ℕ) → log_item h (outcome_bytes o ++ rest) ≡ None
unfolding first_event
apart h Ended rest = ap (option_and_then (λ (read : Reader Event). read rest)) (no_row TAG_ENDED h.0.0 refl)
apart h Trapped rest = ap (option_and_then (λ (read : Reader Event). read rest)) (no_row TAG_TRAPPED h.0.0 refl)
apart h HostTrapped rest = ap (option_and_then (λ (read : Reader Event). read rest)) (no_row TAG_HOST_TRAPPED h.0.0 refl)

abbrev spell_header : Header → List ℕ
spell_header h = log_header_bytes h.0.0 h.0.1 h.1

abbrev Fits : Header → Event → Type 0
Fits h = FitsEvent h.0.0

module _ (laws : NumberLaws) (events : EventsAreRead) where
  pub log_facts : (bytes : List ℕ) → FileFacts LOG_MAGIC bytes (λ (content : List ℕ × Log). IsLogOf bytes content.0 content.1)
      (IsLogRead bytes) (IsLogFront bytes) (IsLogBad bytes)
  unfolding log_bytes
  log_facts bytes =
      file_facts IsLogHeader spell_header Fits event_bytes outcome_bytes first_log_header log_item first_outcome
      (log_header_reads laws) (λ h. events h.0.0) outcome_reads apart LOG_MAGIC bytes
      (λ version (content : List ℕ × Log). SpellsLog version bytes content.0 content.1)
      (λ version content. ((version, content.0), content.1.imports))
      (λ content. content.1.events)
      (λ content. content.1.outcome)
      (λ version content fits fit spelled. record {
        is_version = fits.0.0;
        is_digest = fits.0.1;
        imports = fits.1;
        events = fit;
        spelled = spelled;
      })
      (λ version content is. (((is.is_version, is.is_digest), is.imports), is.events, is.spelled))
      (λ version other content second header items close.
      λ i. ((header i).0.1, record { imports = (header i).1; events = items i; outcome = close i }))
      (log_version bytes)
