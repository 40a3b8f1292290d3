-- The header of a log's file is read if the file begins with its encoding.
use Rattle.std.proofs.Common.{◌≡◌, ℕ, List, ◌++◌, Some, refl, ap, sym, ◌∙◌, append_assoc}
use Rattle.std.proofs.lemmas.Option.{none-some, some_pair_parts}
use Rattle.leb_bytes.specs.Unsigned.{u32_bytes}
use Rattle.trace_bytes.specs.declared.tags.TheConstants.{LOG_MAGIC}
use Rattle.trace_bytes.specs.Spelling.{header_bytes, log_header_bytes}
use Rattle.trace_format.specs.Answers.{IsLogStart, IsLogStartFault}
use Rattle.trace_format.specs.Faults.{IsLogFault}
use Rattle.trace_format.specs.Laws.{EventsAreRead, NumberLaws}
use Rattle.trace_format.specs.Reading.{first_log_header}
use Rattle.trace_format.specs.Taken.{BeginsLog}
use Rattle.trace_format.specs.declared.files.FormatFault.{FormatFault}
use Rattle.trace_format.specs.declared.files.FormatFault.TheVariants.{Version, Bad, Memory}
use Rattle.trace_format.proofs.FileAnswers.{fault_is}
use Rattle.trace_format.proofs.FileSteps.{log_header_read, log_start_fault}
use Rattle.trace_format.proofs.Logs.{log_facts}
use Rattle.trace_format.proofs.ValueReaders.{log_header_reads}
use Rattle.trace_format.proofs.Versions.{other_is, version_is}

module _ (numbers : NumberLaws) (bytes : List ℕ) where
  -- the start of the file is read
  header_read : (digest : List ℕ) (imports : ℕ) → (begins : BeginsLog bytes digest imports)
      → first_log_header bytes ≡ Some (((begins.version, digest), imports), begins.rest)
  header_read digest imports begins =
      ap first_log_header begins.begins
      ∙ (log_header_reads numbers).only (log_header_bytes begins.version digest imports) begins.rest
      ((begins.version, digest), imports)
      (record { fits = ((begins.is_version, begins.is_digest), begins.few); spelled = refl })

  module _ (version : ℕ) (digest : List ℕ) (imports : ℕ) (start : List ℕ)
      (is : IsLogStart bytes version digest imports start) where
    pub header_begins : BeginsLog bytes digest imports
    header_begins =
        let f = (log_header_reads numbers).found bytes start ((version, digest), imports)
        (log_header_read bytes digest version imports start is) in
        record {
          version = version;
          is_version = f.1.fits.0.0;
          is_digest = f.1.fits.0.1;
          few = f.1.fits.1;
          rest = start;
          begins = f.2 ∙ ap (λ front. front ++ start) f.1.spelled;
        }

    pub one_header : (other : List ℕ) (number : ℕ) → BeginsLog bytes other number
        → (digest ≡ other) × (imports ≡ number)
    one_header other number begins =
        let same = (some_pair_parts ((version, digest), imports) ((begins.version, other), number) start begins.rest
        (sym (log_header_read bytes digest version imports start is) ∙ header_read other number begins)).0 in
        (ap (λ (h : (ℕ × List ℕ) × ℕ). h.0.1) same, ap (λ (h : (ℕ × List ℕ) × ℕ). h.1) same)

  pub start_is_there : (digest : List ℕ) (imports : ℕ) → BeginsLog bytes digest imports → (fault : FormatFault)
      → IsLogStartFault bytes fault → ⊥
  start_is_there digest imports begins (Version found) is =
      version_is LOG_MAGIC bytes digest (u32_bytes imports ++ begins.rest) begins.version found begins.is_version
      (begins.begins ∙ append_assoc (header_bytes LOG_MAGIC begins.version digest) (u32_bytes imports) begins.rest)
      (other_is LOG_MAGIC bytes found is)
  start_is_there digest imports begins (Bad at) is = none-some _ (sym is.1 ∙ header_read digest imports begins)
  start_is_there digest imports begins Memory is = is

  pub start_fault_is : EventsAreRead → (fault : FormatFault) → IsLogStartFault bytes fault → IsLogFault bytes fault
  start_fault_is events fault is =
      fault_is LOG_MAGIC bytes _ _ _ _ (log_facts numbers events bytes) fault (log_start_fault bytes fault is)
