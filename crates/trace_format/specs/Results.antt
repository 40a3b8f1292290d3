-- What the calls that read a file return.
use Rattle.std.specs.Prelude.{◌≡◌, ◌⊎◌, ℕ, List, Vec, Result, Ok, Err, IfOk, IfErr}
use Rattle.trace_model.specs.declared.events.Log.{Log}
use Rattle.trace_model.specs.declared.tapes.Tape.{Tape}
use Rattle.trace_format.specs.Faults.{IsLogFault, IsLogOf, IsTapeFault, IsTapeOf}
use Rattle.trace_format.specs.Lines.{IsLogShown, IsTapeShown, log_content_text, tape_content_text}
use Rattle.trace_format.specs.declared.files.FormatFault.{FormatFault}
use Rattle.trace_format.specs.declared.files.FormatFault.TheVariants.{Memory}

-- a result is the content of the file; if there is content, only running out of memory keeps it from being
-- returned; every error has a cause
pub record IsContent {C : Type 0} (IsOf : C → Type 0) (IsFault : FormatFault → Type 0) (result : Result C FormatFault)
    : Type 0 where
  pub found : IfOk result IsOf
  pub only : (content : C) → IsOf content → (result ≡ Ok content) ⊎ (result ≡ Err Memory)
  pub fault : IfErr result IsFault

-- what reading a log file returns: the digest and the log that the bytes encode, unless memory runs out; or a fault
-- with its cause
abbrev pub IsLogContent : (bytes : List ℕ) → Result (List ℕ × Log) FormatFault → Type 0
IsLogContent bytes = IsContent (λ content. IsLogOf bytes content.0 content.1) (IsLogFault bytes)

-- what reading a tape file returns: the digest and the tape that the bytes encode, unless memory runs out; or a fault
-- with its cause
abbrev pub IsTapeContent : (bytes : List ℕ) → Result (List ℕ × Tape) FormatFault → Type 0
IsTapeContent bytes = IsContent (λ content. IsTapeOf bytes content.0 content.1) (IsTapeFault bytes)

-- a result is right for the content of the file; if there is content, only running out of memory keeps the
-- result from being returned; every error has a cause
pub record IsReported {C T : Type 0} (IsOf : C → Type 0) (IsFault : FormatFault → Type 0) (IsRight : T → Type 0)
    (Reports : C → T → Type 0) (result : Result T FormatFault) : Type 0 where
  pub found : IfOk result IsRight
  pub only : (content : C) → IsOf content
      → IfOk result (λ reported. Reports content reported) × IfErr result (λ fault. fault ≡ Memory)
  pub fault : IfErr result IsFault

-- the lines of the log that bytes encode; the lines of the tape
abbrev pub IsLogText : {Z : Type 0} → (bytes : List ℕ) → Result (Vec ℕ Z) FormatFault → Type 0
IsLogText bytes =
    IsReported (λ content. IsLogOf bytes content.0 content.1) (IsLogFault bytes) (λ text. IsLogShown bytes text.items)
    (λ content text. text.items ≡ log_content_text content)

-- what printing a tape file returns: the lines of the tape that the bytes encode, unless memory runs out; or a fault
-- with its cause
abbrev pub IsTapeText : {Z : Type 0} → (bytes : List ℕ) → Result (Vec ℕ Z) FormatFault → Type 0
IsTapeText bytes =
    IsReported (λ content. IsTapeOf bytes content.0 content.1) (IsTapeFault bytes)
    (λ text. IsTapeShown bytes text.items)
    (λ content text. text.items ≡ tape_content_text content)
