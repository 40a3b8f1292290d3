-- The lines that `show` prints for a file, and why it prints none.
use Rattle.std.specs.Prelude.{◌≡◌, ℕ, List, Bool, true, false, is_some}
use Rattle.wasm_syntax.specs.Encoding.Combinators.{first_exactly}
use Rattle.trace_bytes.specs.declared.tags.TheConstants.{TAPE_MAGIC}
use Rattle.trace_format.specs.Faults.{IsLogFault, IsTapeFault}
use Rattle.trace_format.specs.Lines.{IsLogShown, IsTapeShown}
use Rattle.trace_format.specs.declared.files.FormatFault.{FormatFault}
use Rattle.trace_format.specs.declared.files.FormatFault.TheVariants as causes
use Rattle.r3_faults.specs.declared.faults.Fault.{Fault}
use Rattle.r3_faults.specs.declared.faults.Fault.TheVariants.{BadTrace, TraceVersion, Memory}

-- a file with the first four bytes of a tape's file is read as a tape, any other as a log
abbrev pub begins_as_tape : List ℕ → Bool
begins_as_tape bytes = is_some (first_exactly TAPE_MAGIC bytes)

-- the lines of the tape that the bytes encode; of the log
abbrev pub IsShownAs : (is_tape : Bool) → (bytes text : List ℕ) → Type 0
IsShownAs true bytes text = IsTapeShown bytes text
IsShownAs false bytes text = IsLogShown bytes text

-- the lines of the tape or the log that the bytes encode
abbrev pub IsShown : (bytes text : List ℕ) → Type 0
IsShown bytes text = IsShownAs (begins_as_tape bytes) bytes text

-- ---- refusals

-- the fault for a cause
abbrev pub fault_of : FormatFault → Fault
fault_of (causes.Version found) = TraceVersion found
fault_of (causes.Bad at) = BadTrace at
fault_of causes.Memory = Memory

-- why the bytes do not encode a tape; why they do not encode a log
abbrev pub IsCauseAs : (is_tape : Bool) → List ℕ → FormatFault → Type 0
IsCauseAs true bytes found = IsTapeFault bytes found
IsCauseAs false bytes found = IsLogFault bytes found

-- the fault names the cause
pub record IsUnshownAs (is_tape : Bool) (bytes : List ℕ) (fault : Fault) : Type 0 where
  pub found : FormatFault
  pub cause : IsCauseAs is_tape bytes found
  pub differs : found ≡ causes.Memory → ⊥
  pub named : fault ≡ fault_of found

-- the bytes encode nothing that is shown
abbrev pub IsShowRefusal : List ℕ → Fault → Type 0
IsShowRefusal bytes fault = IsUnshownAs (begins_as_tape bytes) bytes fault
