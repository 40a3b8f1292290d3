-- What holds of the encodings of types, and of their readers.
use Rattle.std.proofs.Common.{◌≡◌, ℕ, List, [], ◌∷◌, ◌++◌, Bool, true, false, Option, Some, None, refl}
use Rattle.leb_bytes.specs.Encoding.{IsReadBy}
use Rattle.leb_bytes.specs.Unsigned.{EncodesU32, first_u32}
use Rattle.wasm_syntax.specs.declared.values.ValType.{ValType}
use Rattle.wasm_syntax.specs.declared.values.ValType.TheVariants.{I32, I64, F32, F64, FuncRef}
use Rattle.wasm_syntax.specs.declared.signatures.FuncType.{FuncType}
use Rattle.wasm_syntax.specs.declared.signatures.GlobalType.{GlobalType}
use Rattle.wasm_syntax.specs.Encoding.Grammar.{Grammar, ◌then◌, VectorOf}
use Rattle.wasm_syntax.specs.Encoding.Types.{EncodesValType, EncodesBlockType, EncodesFuncType, EncodesBounds, EncodesLimits, EncodesTableType, EncodesMutability, EncodesGlobalType}
use Rattle.wasm_syntax.specs.Encoding.Combinators.{Reader, always, map_read, first_then, by_mark, row_at, first_vector}
use Rattle.wasm_syntax.specs.Encoding.Readers.{val_type_rows, first_val_type, block_type_rows, first_block_type, func_type, first_func_type, at_least, between, limits_rows, first_limits, first_table_type, first_mutability, global_type, first_global_type}
use Rattle.wasm_syntax.proofs.Encoding.Tools.{as_read_is, then_is, by_mark_found, rows_well, done_finds, read_finds, plain_finds, done_only, read_only, plain_only}
use Rattle.wasm_syntax.proofs.Encoding.Lists.{vector_is}
use Rattle.wasm_syntax.proofs.Encoding.Numbers.{NumberLaws}

-- ---- value types and block types

val_type_only : (bytes rest : List ℕ) (ty : ValType) → EncodesValType bytes ty
    → by_mark (row_at val_type_rows) (bytes ++ rest) ≡ Some (ty, rest)
val_type_only bytes rest I32 h = done_only (row_at val_type_rows) 0x7F I32 refl bytes rest h
val_type_only bytes rest I64 h = done_only (row_at val_type_rows) 0x7E I64 refl bytes rest h
val_type_only bytes rest F32 h = done_only (row_at val_type_rows) 0x7D F32 refl bytes rest h
val_type_only bytes rest F64 h = done_only (row_at val_type_rows) 0x7C F64 refl bytes rest h
val_type_only bytes rest FuncRef h = absurd h

pub val_type_is : IsReadBy EncodesValType first_val_type
unfolding first_val_type
val_type_is = record {
  found = by_mark_found EncodesValType (row_at val_type_rows) (rows_well EncodesValType val_type_rows (
    done_finds EncodesValType 0x7F I32 refl,
    (
      done_finds EncodesValType 0x7E I64 refl,
      (
        done_finds EncodesValType 0x7D F32 refl,
        (done_finds EncodesValType 0x7C F64 refl, tt),
      ),
    ),
  ));
  only = val_type_only;
}

block_type_only : (bytes rest : List ℕ) (ty : Option ValType) → EncodesBlockType bytes ty
    → by_mark (row_at block_type_rows) (bytes ++ rest) ≡ Some (ty, rest)
block_type_only bytes rest None h = done_only (row_at block_type_rows) 0x40 None refl bytes rest h
block_type_only bytes rest (Some I32) h = done_only (row_at block_type_rows) 0x7F (Some I32) refl bytes rest h
block_type_only bytes rest (Some I64) h = done_only (row_at block_type_rows) 0x7E (Some I64) refl bytes rest h
block_type_only bytes rest (Some F32) h = done_only (row_at block_type_rows) 0x7D (Some F32) refl bytes rest h
block_type_only bytes rest (Some F64) h = done_only (row_at block_type_rows) 0x7C (Some F64) refl bytes rest h
block_type_only bytes rest (Some FuncRef) h = absurd h

pub block_type_is : IsReadBy EncodesBlockType first_block_type
unfolding first_block_type
block_type_is = record {
  found = by_mark_found EncodesBlockType (row_at block_type_rows) (rows_well EncodesBlockType block_type_rows (
    done_finds EncodesBlockType 0x40 None refl,
    (
      done_finds EncodesBlockType 0x7F (Some I32) refl,
      (
        done_finds EncodesBlockType 0x7E (Some I64) refl,
        (
          done_finds EncodesBlockType 0x7D (Some F32) refl,
          (done_finds EncodesBlockType 0x7C (Some F64) refl, tt),
        ),
      ),
    ),
  ));
  only = block_type_only;
}

-- ---- function types, limits, table types, global types

module _ (laws : NumberLaws) where
  two_vectors : IsReadBy (VectorOf EncodesValType then VectorOf EncodesValType) (first_then (first_vector first_val_type) (first_vector first_val_type))
  two_vectors = then_is (VectorOf EncodesValType) (VectorOf EncodesValType) (first_vector first_val_type) (first_vector first_val_type)
      (vector_is laws.u32 EncodesValType first_val_type val_type_is) (vector_is laws.u32 EncodesValType first_val_type val_type_is)

  pub func_type_is : IsReadBy EncodesFuncType first_func_type
  unfolding first_func_type
  func_type_is =
      let E : Grammar (List ValType × List ValType) = VectorOf EncodesValType then VectorOf EncodesValType in
      let read : Reader (List ValType × List ValType) = first_then (first_vector first_val_type) (first_vector first_val_type) in
      let choose : ℕ → Option (Reader FuncType) = row_at ((0x60, map_read func_type read) ∷ []) in
      record {
        found = by_mark_found EncodesFuncType choose (rows_well EncodesFuncType ((0x60, map_read func_type read) ∷ [])
            (read_finds EncodesFuncType E 0x60 read func_type two_vectors (λ bytes a h. (bytes, refl, h)), tt));
        only = λ bytes rest ty h. read_only choose 0x60 E read func_type refl two_vectors bytes rest (ty.params, ty.results) h;
      }

  two_numbers : IsReadBy (EncodesU32 then EncodesU32) (first_then first_u32 first_u32)
  two_numbers = then_is EncodesU32 EncodesU32 first_u32 first_u32 laws.u32 laws.u32

  limits_only : (bytes rest : List ℕ) (least : ℕ) (most : Option ℕ) → EncodesBounds bytes least most
      → by_mark (row_at limits_rows) (bytes ++ rest) ≡ Some (record { min = least; max = most }, rest)
  limits_only bytes rest least None h = read_only (row_at limits_rows) 0x00 EncodesU32 first_u32 at_least refl laws.u32 bytes rest least h
  limits_only bytes rest least (Some most) h =
      read_only (row_at limits_rows) 0x01 (EncodesU32 then EncodesU32) (first_then first_u32 first_u32) between refl two_numbers bytes rest (least, most) h

  pub limits_is : IsReadBy EncodesLimits first_limits
  unfolding first_limits
  limits_is = record {
    found = by_mark_found EncodesLimits (row_at limits_rows) (rows_well EncodesLimits limits_rows (
      read_finds EncodesLimits EncodesU32 0x00 first_u32 at_least laws.u32 (λ bytes a h. (bytes, refl, h)),
      (read_finds EncodesLimits (EncodesU32 then EncodesU32) 0x01 (first_then first_u32 first_u32) between two_numbers (λ bytes a h. (bytes, refl, h)), tt),
    ));
    only = λ bytes rest limits h. limits_only bytes rest limits.min limits.max h;
  }

  pub table_type_is : IsReadBy EncodesTableType first_table_type
  unfolding first_table_type
  table_type_is = record {
    found = by_mark_found EncodesTableType (row_at ((0x70, first_limits) ∷ [])) (rows_well EncodesTableType ((0x70, first_limits) ∷ [])
        (plain_finds EncodesTableType EncodesLimits 0x70 first_limits limits_is (λ bytes a h. (bytes, refl, h)), tt));
    only = λ bytes rest limits h. plain_only (row_at ((0x70, first_limits) ∷ [])) 0x70 EncodesLimits first_limits refl limits_is bytes rest limits h;
  }

mutability_only : (bytes rest : List ℕ) (mutable : Bool) → EncodesMutability bytes mutable
    → by_mark (row_at ((0x00, always false) ∷ (0x01, always true) ∷ [])) (bytes ++ rest) ≡ Some (mutable, rest)
mutability_only bytes rest false h =
    done_only (row_at ((0x00, always false) ∷ (0x01, always true) ∷ [])) 0x00 false refl bytes rest h
mutability_only bytes rest true h =
    done_only (row_at ((0x00, always false) ∷ (0x01, always true) ∷ [])) 0x01 true refl bytes rest h

pub mutability_is : IsReadBy EncodesMutability first_mutability
unfolding first_mutability
mutability_is = record {
  found = by_mark_found EncodesMutability (row_at ((0x00, always false) ∷ (0x01, always true) ∷ []))
      (rows_well EncodesMutability ((0x00, always false) ∷ (0x01, always true) ∷ [])
      (done_finds EncodesMutability 0x00 false refl, (done_finds EncodesMutability 0x01 true refl, tt)));
  only = mutability_only;
}

pub global_type_is : IsReadBy EncodesGlobalType first_global_type
unfolding first_global_type
global_type_is =
    let is = as_read_is (EncodesValType then EncodesMutability) (first_then first_val_type first_mutability) global_type
    (λ (ty : GlobalType). (ty.ty, ty.mutable))
    (λ parts. refl) (λ ty. refl) (then_is EncodesValType EncodesMutability first_val_type first_mutability val_type_is mutability_is) in
    record { found = is.found; only = is.only }
