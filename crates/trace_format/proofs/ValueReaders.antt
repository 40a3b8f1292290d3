-- Readers of values and of the starts of files read exactly their encodings.
use Rattle.std.proofs.Common.{◌≡◌, ℕ, List, [], ◌∷◌, ◌++◌, Some, refl, ap, ◌∙◌, inl, inr}
use Rattle.leb_bytes.specs.Encoding.{IsReadBy}
use Rattle.leb_bytes.specs.Unsigned.{u32_bytes}
use Rattle.base.specs.declared.marks.TheConstants.{TYPE_I32, TYPE_I64, TYPE_F32, TYPE_F64}
use Rattle.wasm_syntax.specs.Encoding.Combinators.{by_mark, row_at, first_then, first_exactly}
use Rattle.wasm_syntax.specs.Encoding.Encodable.{FitsU32}
use Rattle.wasm_syntax.specs.Encoding.Grammar.{Exactly, ◌then◌}
use Rattle.wasm_syntax.specs.Encoding.Readers.{first_f32, first_f64, first_raw}
use Rattle.wasm_syntax.specs.Encoding.Types.{EncodesF32, EncodesF64}
use Rattle.wasm_syntax.specs.declared.values.ValType.{ValType}
use Rattle.wasm_syntax.specs.declared.values.ValType.TheVariants.{I32, I64, F32, F64, FuncRef}
use Rattle.wasm_syntax.proofs.Encoding.Numbers.{f32_is, f64_is}
use Rattle.wasm_syntax.proofs.Encoding.Tools.{as_read_is, by_mark_found, done_finds, done_only, exactly_is, read_finds, read_only, rows_well, then_is}
use Rattle.trace_bytes.specs.declared.tags.TheConstants.{DIGEST_BYTES, LOG_MAGIC, VERSION_1, VERSION_2}
use Rattle.trace_bytes.specs.Spelling.{header_bytes, val_bytes}
use Rattle.trace_bytes.specs.Spelled.{FitsVal, IsDigest, IsVersion}
use Rattle.trace_format.specs.Faults.{IsHeader, IsLogHeader}
use Rattle.trace_format.specs.Laws.{NumberLaws, Spells}
use Rattle.trace_format.specs.Reading.{first_header, first_log_header, first_number, first_val, first_version, val_rows, value_of, version_rows}
use Rattle.trace_format.proofs.PartReaders.{number_reads, raw_reads, same_grammar, then_reads}

-- ---- values

val_only : (bytes rest : List ℕ) (ty : ValType) (bits : ℕ) → FitsVal (value_of ty bits)
    → bytes ≡ val_bytes (value_of ty bits) → by_mark (row_at val_rows) (bytes ++ rest) ≡ Some (value_of ty bits, rest)
val_only bytes rest I32 bits fits h =
    read_only (row_at val_rows) TYPE_I32 EncodesF32 first_f32 (value_of I32) refl f32_is bytes rest bits
    (_, h, record { in_range = fits; little_endian = refl })
val_only bytes rest I64 bits fits h =
    read_only (row_at val_rows) TYPE_I64 EncodesF64 first_f64 (value_of I64) refl f64_is bytes rest bits
    (_, h, record { in_range = fits; little_endian = refl })
val_only bytes rest F32 bits fits h =
    read_only (row_at val_rows) TYPE_F32 EncodesF32 first_f32 (value_of F32) refl f32_is bytes rest bits
    (_, h, record { in_range = fits; little_endian = refl })
val_only bytes rest F64 bits fits h =
    read_only (row_at val_rows) TYPE_F64 EncodesF64 first_f64 (value_of F64) refl f64_is bytes rest bits
    (_, h, record { in_range = fits; little_endian = refl })
val_only bytes rest FuncRef bits fits h = absurd fits

pub val_reads : IsReadBy (Spells FitsVal val_bytes) first_val
unfolding first_val
val_reads = record {
  found = by_mark_found (Spells FitsVal val_bytes) (row_at val_rows) (rows_well (Spells FitsVal val_bytes) val_rows (
    read_finds (Spells FitsVal val_bytes) EncodesF32 TYPE_I32 first_f32 (value_of I32) f32_is
        (λ bytes bits h. record { fits = h.in_range; spelled = ap (λ r. TYPE_I32 ∷ r) h.little_endian }),
    (
      read_finds (Spells FitsVal val_bytes) EncodesF64 TYPE_I64 first_f64 (value_of I64) f64_is
          (λ bytes bits h. record { fits = h.in_range; spelled = ap (λ r. TYPE_I64 ∷ r) h.little_endian }),
      (
        read_finds (Spells FitsVal val_bytes) EncodesF32 TYPE_F32 first_f32 (value_of F32) f32_is
            (λ bytes bits h. record { fits = h.in_range; spelled = ap (λ r. TYPE_F32 ∷ r) h.little_endian }),
        (
          read_finds (Spells FitsVal val_bytes) EncodesF64 TYPE_F64 first_f64 (value_of F64) f64_is
              (λ bytes bits h. record { fits = h.in_range; spelled = ap (λ r. TYPE_F64 ∷ r) h.little_endian }),
          tt,
        ),
      ),
    ),
  ));
  only = λ bytes rest value h. val_only bytes rest value.ty value.bits h.fits h.spelled;
}

-- ---- headers

abbrev one_byte : ℕ → List ℕ
one_byte b = b ∷ []

version_only : (bytes rest : List ℕ) (version : ℕ) → Spells IsVersion one_byte bytes version
    → first_version (bytes ++ rest) ≡ Some (version, rest)
version_only bytes rest version h = elim h.fits [
  | inl first ↦ rw first (done_only (row_at version_rows) VERSION_1 VERSION_1 refl bytes rest (h.spelled ∙ ap one_byte first))
  | inr second ↦ rw second (done_only (row_at version_rows) VERSION_2 VERSION_2 refl bytes rest (h.spelled ∙ ap one_byte second))
]

version_reads : IsReadBy (Spells IsVersion one_byte) first_version
version_reads = record {
  found = by_mark_found (Spells IsVersion one_byte) (row_at version_rows) (rows_well (Spells IsVersion one_byte) version_rows (
    done_finds (Spells IsVersion one_byte) VERSION_1 VERSION_1 (record { fits = inl refl; spelled = refl }),
    (done_finds (Spells IsVersion one_byte) VERSION_2 VERSION_2 (record { fits = inr refl; spelled = refl }), tt),
  ));
  only = version_only;
}

pub header_reads : (magic : List ℕ)
    → IsReadBy (Spells IsHeader (λ (h : ℕ × List ℕ). header_bytes magic h.0 h.1)) (first_header magic)
unfolding first_header
header_reads magic =
    let after = then_reads IsVersion one_byte IsDigest (λ (digest : List ℕ). digest) first_version
    (first_raw DIGEST_BYTES) version_reads (raw_reads DIGEST_BYTES) in
    let E = Spells IsHeader (λ (h : ℕ × List ℕ). one_byte h.0 ++ h.1) in
    let is = as_read_is (Exactly magic then E) (first_then (first_exactly magic) (first_then first_version (first_raw DIGEST_BYTES))) (λ parts. parts.1)
    (λ (h : ℕ × List ℕ). (tt, h)) (λ parts. refl) (λ h. refl)
    (then_is (Exactly magic) E (first_exactly magic) (first_then first_version (first_raw DIGEST_BYTES)) (exactly_is magic) after) in
    same_grammar (λ bytes (h : ℕ × List ℕ). (Exactly magic then E) bytes (tt, h))
    (Spells IsHeader (λ (h : ℕ × List ℕ). header_bytes magic h.0 h.1)) (first_header magic)
    (λ bytes h e. record { fits = e.4.fits; spelled = e.2 ∙ ap (λ r. r ++ e.1) e.3 ∙ ap (λ r. magic ++ r) e.4.spelled })
    (λ bytes h e. (magic, one_byte h.0 ++ h.1, e.spelled, refl, record { fits = e.fits; spelled = refl }))
    (record { found = is.found; only = is.only })

pub log_header_reads : NumberLaws
    → IsReadBy (Spells IsLogHeader (λ (h : (ℕ × List ℕ) × ℕ). header_bytes LOG_MAGIC h.0.0 h.0.1 ++ u32_bytes h.1)) first_log_header
unfolding first_log_header
log_header_reads laws =
    let is = then_reads IsHeader (λ (h : ℕ × List ℕ). header_bytes LOG_MAGIC h.0 h.1) FitsU32 u32_bytes
    (first_header LOG_MAGIC) first_number (header_reads LOG_MAGIC) (number_reads laws) in
    record { found = is.found; only = is.only }
