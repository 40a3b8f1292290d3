-- From the header and the items to the whole file.
use Rattle.std.proofs.Common.{◌≡◌, ℕ, ◌-◌, ◌≤◌, List, length, take, drop, Some, None, Err, refl, ap, sym, ◌∙◌, subst, inl, inr, arith, length-drop}
use Rattle.trace_model.specs.declared.events.Log.{Log}
use Rattle.trace_model.specs.declared.tapes.Tape.{Tape}
use Rattle.trace_bytes.specs.declared.tags.TheConstants.{LOG_MAGIC, TAPE_MAGIC}
use Rattle.leb_bytes.proofs.Placed.{behind}
use Rattle.trace_format.specs.Answers.{AreEnded, IsHeaderFault, IsHeaderThere, IsItemsFault, IsLogAnswer, IsLogRead, IsLogStart, IsLogStartFault, IsTapeAnswer, IsTapeRead, header_length}
use Rattle.trace_format.specs.Laws.{NumberLaws}
use Rattle.trace_format.specs.Reading.{first_close, first_event, first_header, first_log_header, first_number, first_outcome, first_segment}
use Rattle.trace_format.specs.declared.files.FormatFault.{FormatFault}
use Rattle.trace_format.specs.declared.files.FormatFault.TheVariants.{Version, Bad, Memory}
use Rattle.trace_format.proofs.EndLemmas.{number_shorter}

-- ---- logs

no_log_header : (bytes : List ℕ) → first_header LOG_MAGIC bytes ≡ None → first_log_header bytes ≡ None
unfolding first_log_header
no_log_header bytes none = rw none refl

-- why the bytes have no header
pub log_header_fault : (bytes : List ℕ) (fault : FormatFault) → IsHeaderFault LOG_MAGIC bytes fault
    → IsLogStartFault bytes fault
log_header_fault bytes (Version found) is = is
log_header_fault bytes (Bad at) is = (is.of_version, no_log_header bytes is.none, is.place)
log_header_fault bytes Memory is = absurd is

no_number : (bytes : List ℕ) (header : ℕ × List ℕ) → IsHeaderThere LOG_MAGIC bytes header
    → first_number (drop header_length bytes) ≡ None → first_log_header bytes ≡ None
unfolding first_log_header
no_number bytes header there none = rw (there.header_read, none) refl

-- the bytes after the number of imported functions are no more than the file's
pub number_left : NumberLaws → (bytes : List ℕ) (imports : ℕ) (start : List ℕ)
    → first_number (take (length bytes - header_length) (drop header_length bytes)) ≡ Some (imports, start)
    → length start ≤ length bytes
number_left laws bytes imports start is =
    omega (
      arith,
      number_shorter laws _ start imports (ap first_number (sym (behind bytes header_length)) ∙ is),
      length-drop header_length bytes,
    )

-- a log's header and number of imported functions, before its events
pub log_begun : NumberLaws → (bytes digest : List ℕ) (version imports : ℕ) (start : List ℕ)
    → IsHeaderThere LOG_MAGIC bytes (version, digest)
    → first_number (take (length bytes - header_length) (drop header_length bytes)) ≡ Some (imports, start)
    → IsLogStart bytes version digest imports start
log_begun laws bytes digest version imports start there is =
    record {
      header = there;
      number = ap first_number (sym (behind bytes header_length)) ∙ is;
      shorter = number_left laws bytes imports start is;
    }

pub log_not_begun : (bytes digest : List ℕ) (version : ℕ) → IsHeaderThere LOG_MAGIC bytes (version, digest)
    → first_number (take (length bytes - header_length) (drop header_length bytes)) ≡ None
    → IsLogStartFault bytes (Bad 0)
log_not_begun bytes digest version there none = (
  there.of_version,
  no_number bytes (version, digest) there (ap first_number (sym (behind bytes header_length)) ∙ none),
  refl,
)

pub log_start_fault : (bytes : List ℕ) (fault : FormatFault) → IsLogStartFault bytes fault → IsLogAnswer bytes (Err fault)
log_start_fault bytes (Version found) is = is
log_start_fault bytes (Bad at) is = (is.0, inl (is.1, is.2))
log_start_fault bytes Memory is = absurd is

module _ (bytes digest : List ℕ) (version imports : ℕ) (start : List ℕ)
    (begun : IsLogStart bytes version digest imports start) where
  pub log_header_read : first_log_header bytes ≡ Some (((version, digest), imports), start)
  unfolding first_log_header
  log_header_read = rw (begun.header.header_read, begun.number) refl

  pub log_is_read : (log : Log) → log.imports ≡ imports
      → AreEnded (first_event version) first_outcome start log.events log.outcome → IsLogRead bytes (digest, log)
  log_is_read log same ended = (
    version,
    record {
      left = ended.left;
      read_to = record {
        start = start;
        header_read = subst (λ n. first_log_header bytes ≡ Some (((version, digest), n), start)) (sym same) log_header_read;
        items_read = ended.items_read;
      };
      end_read = ended.end_read;
    },
  )

  pub items_fault_of_log : (fault : FormatFault) → IsItemsFault (first_event version) first_outcome bytes start fault
      → IsLogAnswer bytes (Err fault)
  items_fault_of_log (Version found) is = absurd is
  items_fault_of_log (Bad at) is = (
    begun.header.of_version,
    inr (record {
      header = ((version, digest), imports);
      items = is.items;
      left = is.left;
      read_to = record { start = start; header_read = log_header_read; items_read = is.items_read };
      fault = is.fault;
    }),
  )
  items_fault_of_log Memory is = tt

-- ---- tapes

module _ (bytes digest : List ℕ) (version : ℕ) (there : IsHeaderThere TAPE_MAGIC bytes (version, digest)) where
  pub tape_is_read : (tape : Tape) → AreEnded (first_segment version) first_close (drop header_length bytes) tape.segments tt
      → IsTapeRead bytes (digest, tape)
  tape_is_read tape ended = (
    version,
    record {
      left = ended.left;
      read_to = record { start = drop header_length bytes; header_read = there.header_read; items_read = ended.items_read };
      end_read = ended.end_read;
    },
  )

  fault_of_tape : (fault : FormatFault)
      → IsItemsFault (first_segment version) first_close bytes (drop header_length bytes) fault → IsTapeAnswer bytes (Err fault)
  fault_of_tape (Version found) is = absurd is
  fault_of_tape (Bad at) is = (
    there.of_version,
    inr (record {
      header = (version, digest);
      items = is.items;
      left = is.left;
      read_to = record { start = drop header_length bytes; header_read = there.header_read; items_read = is.items_read };
      fault = is.fault;
    }),
  )
  fault_of_tape Memory is = tt

  pub items_fault_of_tape : (fault : FormatFault)
      → IsItemsFault (first_segment version) first_close bytes
      (take (length bytes - header_length) (drop header_length bytes)) fault → IsTapeAnswer bytes (Err fault)
  items_fault_of_tape fault is =
      fault_of_tape fault
      (subst (λ r. IsItemsFault (first_segment version) first_close bytes r fault) (behind bytes header_length) is)
