-- The values of scripts: numbers, values of WebAssembly, texts, bytes.
use Rattle.std.specs.Prelude.{ℕ, suc, ◌-◌, ◌^◌, ◌==◌, ℤ, pos, negsuc, int_le, List, [], ◌∷◌, length, codes, Bool, false, nat_lt, Option, Some, None, option_and_then, Result, Ok, Err, if◌then◌else◌}
use Rattle.wasm_syntax.specs.declared.values.ValType.{ValType}
use Rattle.wasm_syntax.specs.declared.values.ValType.TheVariants.{I32, I64, F32, F64}
use Rattle.wasm_syntax.specs.declared.values.Val.{Val}
use Rattle.wasm_syntax.specs.declared.signatures.Limits.{Limits}
use Rattle.hex.specs.Hex.{decode_of}
use Rattle.std.specs.Result.{result_ok}
use Rattle.serde_json.specs.Data.{Data, null, string, Members}
use Rattle.serde_json.specs.Find.{get, as_object, as_number, as_str, as_integer}
use Rattle.script_text.specs.declared.faults.ScriptFault.{ScriptFault}
use Rattle.script_text.specs.declared.faults.ScriptFault.TheVariants.{Shape}
use Rattle.script_text.specs.Walk.{◌>>=◌, below, or_shape, only, under, under_or, under_if_there, list_of, keys_of}

-- ---- numbers

-- the integer that a JSON value is, if `as_i64` or `as_u64` gives one
abbrev pub integer_of : Data → Option ℤ
integer_of d = option_and_then as_integer (as_number d)

-- the bits of an integer that is at least `least` and below 2 ^ width; a negative integer is in two's complement
abbrev pub bits_from : (least : ℤ) (width : ℕ) → ℤ → Option ℕ
bits_from least width (pos n) = if nat_lt n (2 ^ width) then Some n else None
bits_from least width (negsuc n) = if int_le least (negsuc n) then Some (2 ^ width - suc n) else None

abbrev pub bits_of : (least : ℤ) (width : ℕ) → Data → Result ℕ ScriptFault
bits_of least width d = or_shape (option_and_then (bits_from least width) (integer_of d))

-- a number below 2 ^ 32
abbrev pub u32_of : Data → Result ℕ ScriptFault
u32_of d = bits_of (pos 0) 32 d

-- ---- values

-- a value of a type, of the number under the type's name
abbrev pub val_of_type : List ℕ → ValType → (least : ℤ) (width : ℕ) → Data → Result Val ScriptFault
val_of_type key ty least width d = do
  bits ← below key (bits_of least width d)
  Ok (record { ty = ty; bits = bits })

-- a value, by the text under the name of each type: an i32 is at least -2 ^ 31, an i64 at least -2 ^ 63, and an
-- f32 or an f64 is given by its bits
abbrev pub value_by : (i32 i64 f32 f64 : Option Data) → Result Val ScriptFault
value_by (Some d) i64 f32 f64 = val_of_type (codes "i32") I32 (negsuc (2 ^ 31 - 1)) 32 d
value_by None (Some d) f32 f64 = val_of_type (codes "i64") I64 (negsuc (2 ^ 63 - 1)) 64 d
value_by None None (Some d) f64 = val_of_type (codes "f32") F32 (pos 0) 32 d
value_by None None None (Some d) = val_of_type (codes "f64") F64 (pos 0) 64 d
value_by None None None None = Err (Shape [])

-- an object with exactly one key
abbrev pub has_one_key : Option Members → Bool
has_one_key None = false
has_one_key (Some ms) = length (keys_of ms) == 1

-- a value: an object whose one key is the name of the value's type
unfoldable pub value_of : Data → Result Val ScriptFault
value_of d =
    if has_one_key (as_object d)
    then value_by (get (codes "i32") d) (get (codes "i64") d) (get (codes "f32") d) (get (codes "f64") d)
    else Err (Shape [])

-- the values under a key; an empty list if the key is missing
abbrev pub values_under : List ℕ → Data → Result (List Val) ScriptFault
values_under key d = under_or key [] (list_of value_of) d

-- ---- texts

abbrev pub text_of : Data → Result (List ℕ) ScriptFault
text_of d = or_shape (as_str d)

-- a text, or null
abbrev pub text_or_null : Data → Result (Option (List ℕ)) ScriptFault
text_or_null null = Ok None
text_or_null (string text) = Ok (Some text)
text_or_null d = Err (Shape [])

-- the bytes of a hexadecimal text, with digits of either case
abbrev pub bytes_of : Data → Result (List ℕ) ScriptFault
bytes_of d = or_shape (option_and_then (λ text. result_ok (decode_of text)) (as_str d))

-- ---- limits

-- the limits of a memory or a table, with the key of the minimum
abbrev pub limits_of : List ℕ → Data → Result Limits ScriptFault
limits_of least d = do
  _ ← only (least ∷ codes "max" ∷ []) d
  min ← under least u32_of d
  max ← under_if_there (codes "max") u32_of d
  Ok (record { min = min; max = max })
