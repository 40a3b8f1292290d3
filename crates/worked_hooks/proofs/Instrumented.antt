-- Instrumented examples, computed.
use Rattle.std.proofs.Common.{refl}
use Rattle.leb_bytes.specs.Unsigned.{u32_bytes, unsigned_bytes}
use Rattle.leb_bytes.specs.Signed.{s64_bytes, signed_bytes, i32_bytes, i64_bytes}
use Rattle.wasm_syntax.specs.Encoding.Shortest.{func_type_bytes, limits_bytes, global_type_bytes, const_bytes, instr_bytes, custom_bytes, import_bytes, global_bytes, export_bytes, elem_bytes, data_bytes, code_bytes, content_bytes, section_bytes, sections_of, encoding_of}
use Rattle.worked_hooks.specs.Instrumented.{InstrumentedExamples, TwoAnswersFunction, TwoAnswersTypes, TwoAnswersWeights, TwoAnswersBytes, EveryKindFunctions, EveryKindStart, EveryKindSegment, TwoAnswersForm, EveryKindForm, DamagedForm, NoForm, AnotherImportForm, NoSectionForm}

two_answers_function : TwoAnswersFunction
two_answers_function = refl

two_answers_types : TwoAnswersTypes
two_answers_types = refl

two_answers_weights : TwoAnswersWeights
two_answers_weights = refl

two_answers_bytes : TwoAnswersBytes
unfolding u32_bytes unsigned_bytes s64_bytes signed_bytes i32_bytes i64_bytes func_type_bytes limits_bytes
    global_type_bytes const_bytes instr_bytes custom_bytes import_bytes global_bytes export_bytes elem_bytes data_bytes
    code_bytes content_bytes section_bytes sections_of encoding_of
two_answers_bytes = refl

every_kind_functions : EveryKindFunctions
every_kind_functions = refl

every_kind_start : EveryKindStart
every_kind_start = refl

every_kind_segment : EveryKindSegment
every_kind_segment = refl

two_answers_form : TwoAnswersForm
unfolding u32_bytes unsigned_bytes
two_answers_form = refl

every_kind_form : EveryKindForm
unfolding u32_bytes unsigned_bytes
every_kind_form = refl

damaged_form : DamagedForm
unfolding u32_bytes unsigned_bytes
damaged_form = refl

no_form : NoForm
no_form = refl

another_import_form : AnotherImportForm
another_import_form = refl

no_section_form : NoSectionForm
no_section_form = refl

pub instrumented_examples : InstrumentedExamples
instrumented_examples =
    record {
      two_answers_function = two_answers_function;
      two_answers_types = two_answers_types;
      two_answers_weights = two_answers_weights;
      two_answers_bytes = two_answers_bytes;
      every_kind_functions = every_kind_functions;
      every_kind_start = every_kind_start;
      every_kind_segment = every_kind_segment;
      two_answers_form = two_answers_form;
      every_kind_form = every_kind_form;
      damaged_form = damaged_form;
      no_form = no_form;
      another_import_form = another_import_form;
      no_section_form = no_section_form;
    }
