-- The part that was written by hand fits its module and is of no plan, and the replay module has an encoding.
use Rattle.std.proofs.Common.{◌≡◌, ◌≢◌, [], ◌∷◌, length, Some, refl, ap, arith}
use Rattle.std.specs.Str.{is_utf8, chars}
use Rattle.leb_bytes.specs.Unsigned.{first_u32, u32_bytes, unsigned_bytes}
use Rattle.leb_bytes.specs.Signed.{first_s32, first_s64, first_i32, first_i64, s64_bytes, i32_bytes, i64_bytes, signed_bytes}
use Rattle.wasm_syntax.specs.declared.values.ValType.TheVariants.{I32}
use Rattle.wasm_syntax.specs.declared.forms.Form.TheVariants.{Replay}
use Rattle.wasm_syntax.specs.Validity.{IsValid}
use Rattle.wasm_syntax.specs.Laws.{ValidityIsDecided}
use Rattle.wasm_syntax.specs.Encoding.Encodable.{IsEncodable}
use Rattle.wasm_syntax.specs.Encoding.Laws.{EncodedIsEncodable, ReadIsEncoded}
use Rattle.wasm_syntax.specs.Encoding.Readers.{first_f32, first_f64, first_bytes, first_name, first_indices, first_val_type, first_block_type, first_func_type, first_limits, first_table_type, first_mutability, first_global_type, first_instr, first_instrs, first_expr, first_import_kind, first_import, first_global, first_export_kind, first_export, first_elem, first_data, first_run, first_locals, first_code}
use Rattle.wasm_syntax.specs.Encoding.ReadModules.{first_section, next_section, lawful_sections, read_sections, read_module}
use Rattle.wasm_syntax.specs.Encoding.Shortest.{func_type_bytes, limits_bytes, global_type_bytes, const_bytes, instr_bytes, custom_bytes, import_bytes, global_bytes, export_bytes, elem_bytes, data_bytes, code_bytes, content_bytes, section_bytes, sections_of, encoding_of}
use Rattle.type_safety.specs.Supplies.{IsSupply}
use Rattle.replay_module_spec.specs.declared.fragments.Fragment.{Fragment}
use Rattle.replay_module_spec.specs.declared.plans.Plan.{Plan}
use Rattle.replay_module_spec.specs.Fragments.{fragment_of}
use Rattle.replay_module_spec.specs.Fits.{FitsModule, HasStart, unsupplied_module}
use Rattle.worked_histories.specs.Build.{func_type}
use Rattle.worked_replay_modules.specs.HandmadePart.{doubling, handmade_part, handmade_replay, supplied_eight}
use Rattle.worked_replay_modules.proofs.Fitting.{fits}

pub original_is_valid : ValidityIsDecided → IsValid doubling
original_is_valid decided = (decided doubling).1 refl

pub eight_is_supply : IsSupply doubling supplied_eight
eight_is_supply = record { memory = tt; table = tt; globals = (record { typed = refl; in_range = omega arith }, tt) }

-- the exported function is the second helper
starts : HasStart doubling handmade_part
starts = record { place = 1; func = _; found = refl; index = refl; has_type = refl }

pub part_fits : ValidityIsDecided → FitsModule doubling handmade_part
part_fits decided =
    fits doubling handmade_part ((decided (unsupplied_module doubling handmade_part)).1 refl) starts
    (record {
      params = refl;
      locals = refl;
      bodies = (record { ty = func_type [] (I32 ∷ []); of_import = refl; of_body = refl }, _);
      declared = refl;
    })

-- the generated part of a plan has six types
pub of_no_plan : (plan : Plan) → fragment_of doubling plan ≢ handmade_part
of_no_plan plan same =
    let lengths : 6 ≡ 1 = ap (λ (fragment : Fragment). length fragment.types) same in
    absurd (omega (arith, lengths))

-- the plain program reads what the other one writes
is_read : read_module Replay (encoding_of handmade_replay) ≡ Some handmade_replay
unfolding is_utf8 chars lib.Utf8.encode first_u32 first_s32 first_s64 first_i32 first_i64 first_f32 first_f64
    first_bytes first_name first_indices first_val_type first_block_type first_func_type first_limits first_table_type
    first_mutability first_global_type first_instr first_instrs first_expr first_import_kind first_import first_global
    first_export_kind first_export first_elem first_data first_run first_locals first_code first_section next_section
    lawful_sections read_sections read_module u32_bytes unsigned_bytes s64_bytes signed_bytes i32_bytes i64_bytes
    func_type_bytes limits_bytes global_type_bytes const_bytes instr_bytes custom_bytes import_bytes global_bytes
    export_bytes elem_bytes data_bytes code_bytes content_bytes section_bytes sections_of encoding_of
is_read = refl

pub replay_is_encodable : ReadIsEncoded → EncodedIsEncodable → IsEncodable Replay handmade_replay
replay_is_encodable encoded encodable = encodable Replay _ handmade_replay (encoded Replay _ handmade_replay is_read)
