-- The lines of the log or the tape that bytes encode.
use Rattle.std.specs.Prelude.{◌≡◌, ℕ, List, ◌++◌, None, Vec, Result, MatchResult, flat_map}
use Rattle.wasm_syntax.specs.Encoding.Combinators.{Reader}
use Rattle.trace_model.specs.declared.events.Log.{Log}
use Rattle.trace_model.specs.declared.tapes.Tape.{Tape}
use Rattle.trace_format.specs.Answers.{AreEnded}
use Rattle.trace_format.specs.Faults.{IsLogOf, IsTapeOf}
use Rattle.trace_format.specs.Files.{AreRead}
use Rattle.trace_format.specs.Text.{log_text, tape_text}
use Rattle.trace_format.specs.declared.files.FormatFault.{FormatFault}

-- the text of a log that the bytes encode
pub record IsLogShown (bytes text : List ℕ) : Type 0 where
  pub digest : List ℕ
  pub log : Log
  pub spelled : IsLogOf bytes digest log
  pub lines : text ≡ log_text digest log

-- the text of a tape that the bytes encode
pub record IsTapeShown (bytes text : List ℕ) : Type 0 where
  pub digest : List ℕ
  pub tape : Tape
  pub spelled : IsTapeOf bytes digest tape
  pub lines : text ≡ tape_text digest tape

-- ---- parts

-- a text grew by the lines of the items that a reader reads one after another
pub record AreShown {A : Type 0} (read : Reader A) (lines : A → List ℕ) (bytes left before now : List ℕ) : Type 0 where
  pub items : List A
  pub items_read : AreRead read bytes items left
  pub grown : now ≡ before ++ flat_map lines items

-- a text grew by the lines of the items that a reader reads one after another until it reads none
pub record AreAllShown {A : Type 0} (read : Reader A) (lines : A → List ℕ) (bytes left before now : List ℕ)
    : Type 0 where
  pub shown : AreShown read lines bytes left before now
  pub ended : read left ≡ None

-- a text grew by the lines of the items that begin at the start, and of the end after them
pub record IsEndShown {A O : Type 0} (read : Reader A) (last : Reader O) (lines : A → List ℕ) (end_text : O → List ℕ)
    (start before now : List ℕ) : Type 0 where
  pub items : List A
  pub close : O
  pub ended : AreEnded read last start items close
  pub grown : now ≡ before ++ (flat_map lines items ++ end_text close)

-- ---- whole files

-- the text of a file's content
abbrev pub IsTextOf : {C : Type 0} → (IsRead : C → Type 0) → (text_of : C → List ℕ) → List ℕ → Type 0
IsTextOf {C} IsRead text_of text = (content : C) × IsRead content × (text ≡ text_of content)

-- the text of a file's content, or the fault of the file
abbrev pub IsTextRead : {C Z : Type 0} → (IsRead : C → Type 0) → (IsFault : FormatFault → Type 0)
    → (text_of : C → List ℕ) → Result (Vec ℕ Z) FormatFault → Type 0
IsTextRead IsRead IsFault text_of result = MatchResult result (λ text. IsTextOf IsRead text_of text.items) IsFault

-- the text of a log with its digest; the text of a tape with its digest
abbrev pub log_content_text : List ℕ × Log → List ℕ
log_content_text content = log_text content.0 content.1

abbrev pub tape_content_text : List ℕ × Tape → List ℕ
tape_content_text content = tape_text content.0 content.1
