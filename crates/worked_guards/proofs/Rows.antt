-- Worked rows, computed.
use Rattle.std.proofs.Common.{◌≡◌, refl}
use Rattle.std.specs.Fmt.{digits}
use Rattle.leb_bytes.specs.Unsigned.{unsigned_bytes, u32_bytes}
use Rattle.leb_bytes.specs.Signed.{signed_bytes, s64_bytes, i32_bytes, i64_bytes}
use Rattle.wasm_syntax.specs.Encoding.Shortest.{func_type_bytes, limits_bytes, global_type_bytes, const_bytes, instr_bytes, custom_bytes, import_bytes, global_bytes, export_bytes, elem_bytes, data_bytes, code_bytes, content_bytes, section_bytes, sections_of, encoding_of}
use Rattle.worked_guards.specs.Rows.{AllTypes, FillPast, NestedCall, SixteenBytes, TwoAnswers, Uncalled, WorkedRows}
use Rattle.worked_guards.specs.Others.{DifferencesAreSeen, MissingCallIsFound, MissingTrapIsFound, SubtractionIsFound}

two_answers : TwoAnswers
unfolding unsigned_bytes u32_bytes signed_bytes s64_bytes i32_bytes i64_bytes func_type_bytes limits_bytes
    global_type_bytes const_bytes instr_bytes custom_bytes import_bytes global_bytes export_bytes elem_bytes data_bytes
    code_bytes content_bytes section_bytes sections_of encoding_of
two_answers = record { words = refl; length = refl; first = refl; own = refl; counts = refl }

nested_call : NestedCall
nested_call = record { words = refl }

all_types : AllTypes
unfolding unsigned_bytes u32_bytes signed_bytes s64_bytes i32_bytes i64_bytes const_bytes instr_bytes
all_types = record { words = refl; front = refl; counts = refl }

fill_past : FillPast
fill_past = record { words = refl; counts = refl }

uncalled : Uncalled
unfolding instr_bytes
uncalled = record { words = refl; front = refl }

sixteen_bytes : SixteenBytes
sixteen_bytes = refl

pub worked_rows : WorkedRows
worked_rows =
    record {
      two_answers = two_answers;
      nested_call = nested_call;
      all_types = all_types;
      fill_past = fill_past;
      uncalled = uncalled;
      sixteen_bytes = sixteen_bytes;
    }

-- ---- other functions in the originals' places

subtraction : SubtractionIsFound
unfolding digits
subtraction = record { shows = refl; counts = refl }

missing_call : MissingCallIsFound
unfolding digits
missing_call = record { shows = refl; counts = refl }

missing_trap : MissingTrapIsFound
missing_trap = record { early = refl; late = refl }

pub differences_are_seen : DifferencesAreSeen
differences_are_seen =
    record { subtraction = subtraction; missing_call = missing_call; missing_trap = missing_trap }
