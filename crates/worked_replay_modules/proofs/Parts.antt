-- Plans, code and sizes of the examples, computed.
use Rattle.std.proofs.Common.{◌≡◌, None, refl}
use Rattle.std.specs.Fmt.{digits}
use Rattle.leb_bytes.specs.Unsigned.{unsigned_bytes, u32_bytes}
use Rattle.leb_bytes.specs.Signed.{signed_bytes, s64_bytes, i32_bytes, i64_bytes}
use Rattle.wasm_syntax.specs.Encoding.Shortest.{func_type_bytes, limits_bytes, global_type_bytes, const_bytes, instr_bytes, custom_bytes, import_bytes, global_bytes, export_bytes, elem_bytes, data_bytes, code_bytes, content_bytes, section_bytes, sections_of, encoding_of}
use Rattle.wasm_syntax.specs.ValidityTests.{invalid_at}
use Rattle.wasm_syntax.specs.Laws.{ValidityIsDecided}
use Rattle.worked_histories.specs.Modules.{nested_call}
use Rattle.worked_histories.specs.Scripts.{idle}
use Rattle.worked_replay_modules.specs.Tapes.{counted_tape}
use Rattle.worked_replay_modules.specs.Tests.{replay_of}
use Rattle.worked_replay_modules.specs.Parts.{PartsOfReplays, DeclaredSegment, SuppliedGlobal, GreatMaximum, NestedPlan, TwoAnswersFragment, FifteenBytesCode, OtherEffectsCode, DeclaredFuncs, CallsOfGroups, ObservedChanges, TwoAnswersSize}

pub nested_plan : NestedPlan
unfolding digits
nested_plan = refl

pub two_answers_fragment : TwoAnswersFragment
unfolding digits
two_answers_fragment = refl

pub fifteen_bytes_code : FifteenBytesCode
unfolding digits
fifteen_bytes_code = refl

pub other_effects_code : OtherEffectsCode
unfolding digits
other_effects_code = refl

pub declared_funcs : DeclaredFuncs
unfolding digits
declared_funcs = refl

pub calls_of_groups : CallsOfGroups
unfolding digits
calls_of_groups =
    record {
      first = refl;
      last_of_first = refl;
      first_of_second = refl;
      last = refl;
      past_calls = refl;
      past_groups = refl;
    }

pub observed_changes : ObservedChanges
observed_changes = refl

pub two_answers_size : TwoAnswersSize
unfolding unsigned_bytes u32_bytes signed_bytes s64_bytes i32_bytes i64_bytes func_type_bytes limits_bytes
    global_type_bytes const_bytes instr_bytes custom_bytes import_bytes global_bytes export_bytes elem_bytes data_bytes
    code_bytes content_bytes section_bytes sections_of encoding_of
two_answers_size = record { size = refl; within = refl }

pub declared_segment : DeclaredSegment
declared_segment = refl

pub supplied_global : SuppliedGlobal
supplied_global = record { globals = refl; datas = refl }

pub great_maximum : GreatMaximum
great_maximum = refl

many_calls_valid : invalid_at (replay_of nested_call idle (counted_tape 300)) ≡ None
many_calls_valid = refl

pub parts_of_replays : ValidityIsDecided → PartsOfReplays
parts_of_replays decided =
    record {
      nested_plan = nested_plan;
      two_answers_fragment = two_answers_fragment;
      fifteen_bytes_code = fifteen_bytes_code;
      other_effects_code = other_effects_code;
      declared_funcs = declared_funcs;
      declared_segment = declared_segment;
      supplied_global = supplied_global;
      great_maximum = great_maximum;
      many_calls_valid = (decided (replay_of nested_call idle (counted_tape 300))).1 many_calls_valid;
      calls_of_groups = calls_of_groups;
      observed_changes = observed_changes;
      two_answers_size = two_answers_size;
    }
