-- Readers of items take at least one byte for each item.
use Rattle.std.proofs.Common.{◌≡◌, ℕ, ◌<◌, List, [], ◌∷◌, length, None, refl, ap, sym, ◌∙◌, arith}
use Rattle.std.proofs.lemmas.List.{length-append}
use Rattle.std.proofs.lemmas.Option.{none-some}
use Rattle.leb_bytes.specs.Encoding.{IsReadBy}
use Rattle.wasm_syntax.specs.Encoding.Combinators.{Reader}
use Rattle.wasm_syntax.specs.Encoding.Grammar.{Grammar}
use Rattle.trace_bytes.specs.Spelling.{event_bytes, segment_bytes}
use Rattle.trace_bytes.specs.Spelled.{FitsEvent, FitsSegment}
use Rattle.trace_format.specs.Files.{Shrinks}
use Rattle.trace_format.specs.Laws.{EventsAreRead, SegmentsAreRead, Spells}
use Rattle.trace_format.specs.Reading.{first_event, first_origin, first_segment}

module _ {A : Type 0} (E : Grammar A) (read : Reader A) (is : IsReadBy E read) (none : read [] ≡ None) where
  takes_some : (bytes : List ℕ) (x : A) → E bytes x → 0 < length bytes
  takes_some [] x h = absurd (none-some _ (sym none ∙ is.only [] [] x h))
  takes_some (b ∷ bytes) x h = omega arith

  pub takes_bytes : Shrinks read
  takes_bytes bytes rest x e =
      let f = is.found bytes rest x e in
      omega (arith, takes_some f.0 x f.1, ap length f.2, length-append f.0 rest)

pub events_shrink : EventsAreRead → (version : ℕ) → Shrinks (first_event version)
unfolding first_event
events_shrink events version = takes_bytes (Spells (FitsEvent version) event_bytes) (first_event version) (events version) refl

pub segments_shrink : SegmentsAreRead → (version : ℕ) → Shrinks (first_segment version)
unfolding first_segment first_origin
segments_shrink segments version =
    takes_bytes (Spells (FitsSegment version) segment_bytes) (first_segment version) (segments version) refl
