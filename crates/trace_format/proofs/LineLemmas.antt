-- The lines of items that are read one after another, and of whole files.
use Rattle.std.proofs.Common.{◌≡◌, ℕ, List, [], ◌∷◌, ◌++◌, drop, Some, refl, sym, ◌∙◌, ap, append_assoc}
use Rattle.std.specs.Prelude.{codes, flat_map}
use Rattle.std.proofs.lemmas.List.{append-nil}
use Rattle.wasm_syntax.specs.Encoding.Combinators.{Reader}
use Rattle.history_spec.specs.Line.{line, outcome_text, with_space}
use Rattle.trace_bytes.specs.declared.tags.TheConstants.{TAPE_MAGIC}
use Rattle.trace_model.specs.declared.events.Log.{Log}
use Rattle.trace_model.specs.declared.tapes.Tape.{Tape}
use Rattle.trace_format.specs.Answers.{IsHeaderThere, IsLogRead, IsLogStart, IsTapeRead, header_length}
use Rattle.trace_format.specs.Lines.{AreShown, IsEndShown, IsTextOf, log_content_text, tape_content_text}
use Rattle.trace_format.specs.Reading.{first_close, first_event, first_outcome, first_segment}
use Rattle.trace_format.specs.Text.{event_text, hex_text, log_text, segment_text, tape_text}
use Rattle.trace_format.proofs.FileLaws.{read_last}
use Rattle.trace_format.proofs.FileSteps.{log_is_read, tape_is_read}

-- ---- items

flat_last : {A : Type 0} (lines : A → List ℕ) (xs : List A) (x : A) → flat_map lines (xs ++ x ∷ []) ≡ flat_map lines xs ++ lines x
flat_last lines [] x = append-nil (lines x)
flat_last lines (y ∷ ys) x = ap (λ t. lines y ++ t) (flat_last lines ys x) ∙ sym (append_assoc (lines y) (flat_map lines ys) (lines x))

module _ {A : Type 0} (read : Reader A) (lines : A → List ℕ) where
  -- one more, after the others
  pub shown_more : (bytes mid left before now more : List ℕ) (x : A) → AreShown read lines bytes mid before now
      → read mid ≡ Some (x, left) → more ≡ now ++ lines x → AreShown read lines bytes left before more
  shown_more bytes mid left before now more x shown next grown = record {
    items = shown.items ++ x ∷ [];
    items_read = read_last read bytes mid left shown.items x shown.items_read next;
    grown = grown ∙ ap (λ t. t ++ lines x) shown.grown ∙ append_assoc before (flat_map lines shown.items) (lines x)
        ∙ ap (λ t. before ++ t) (sym (flat_last lines shown.items x));
  }

-- ---- logs and tapes

pub log_shown : (bytes digest : List ℕ) (version imports : ℕ) (start : List ℕ)
    → IsLogStart bytes version digest imports start
    → (before now : List ℕ) → before ≡ line (codes "log" ++ with_space (hex_text digest))
    → IsEndShown (first_event version) first_outcome (λ event. line (event_text event))
    (λ outcome. line (outcome_text outcome)) start before now → IsTextOf (IsLogRead bytes) log_content_text now
unfolding log_text
log_shown bytes digest version imports start begun before now first shown =
    let log : Log = record { imports = imports; events = shown.items; outcome = shown.close } in
    let ending = flat_map (λ event. line (event_text event)) shown.items ++ line (outcome_text shown.close) in (
      (digest, log),
      log_is_read bytes digest version imports start begun log refl shown.ended,
      shown.grown ∙ ap (λ t. t ++ ending) first,
    )

pub tape_shown : (bytes digest : List ℕ) (version : ℕ) → IsHeaderThere TAPE_MAGIC bytes (version, digest)
    → (before now : List ℕ) → before ≡ line (codes "tape" ++ with_space (hex_text digest))
    → IsEndShown (first_segment version) first_close segment_text (λ it. line (codes "close"))
    (drop header_length bytes) before now → IsTextOf (IsTapeRead bytes) tape_content_text now
unfolding tape_text
tape_shown bytes digest version there before now begun shown =
    let tape : Tape = record { segments = shown.items } in
    let ending = flat_map segment_text shown.items ++ line (codes "close") in (
      (digest, tape),
      tape_is_read bytes digest version there tape shown.ended,
      shown.grown ∙ ap (λ t. t ++ ending) begun,
    )
