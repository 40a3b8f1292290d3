-- Values and bytes that were read are within their ranges.
use Rattle.std.proofs.Common.{◌≡◌, ℕ, ◌-◌, ◌^◌, ◌<◌, ◌%◌, ◌==◌, ℤ, pos, negsuc, int_le, suc, List, [], length, codes, nat_lt, Option, Some, None, option_and_then, Result, Ok, Err, IsTrue, All, Bool, true, false, cond, ap, subst, arith}
use Rattle.std.specs.Result.{result_ok}
use Rattle.std.proofs.lemmas.Bool.{ltb-true, lt-ltb}
use Rattle.std.proofs.lemmas.List.Elements.{All-from_get_or}
use Rattle.std.proofs.lemmas.Option.{cond_some}
use Rattle.wasm_syntax.specs.declared.values.ValType.{ValType}
use Rattle.wasm_syntax.specs.declared.values.ValType.TheVariants.{I32, I64, F32, F64}
use Rattle.wasm_syntax.specs.declared.values.Val.{Val}
use Rattle.wasm_syntax.specs.Typing.{is_constant}
use Rattle.hex.specs.Hex.{decode_of, decode_pairs}
use Rattle.hex.specs.declared.error.FromHexError.{FromHexError}
use Rattle.hex.specs.declared.error.FromHexError.TheVariants.{OddLength}
use Rattle.hex.proofs.HexLemmas.{decode_pairs-ok}
use Rattle.serde_json.specs.Data.{Data}
use Rattle.serde_json.specs.Find.{get, as_object, as_str}
use Rattle.script_text.specs.declared.faults.ScriptFault.TheVariants.{Shape}
use Rattle.script_text.specs.Walk.{below}
use Rattle.script_text.specs.Values.{integer_of, bits_from, bits_of, val_of_type, value_by, value_of, has_one_key, bytes_of}
use Rattle.script_text.proofs.Steps.{ok_one, some_one, both_ok, passed, below_ok, or_shape_ok}

-- the bits of an integer are below the power of its width
bits_below : (least : ℤ) (width : ℕ) (z : ℤ) (bits : ℕ) → 0 < 2 ^ width → bits_from least width z ≡ Some bits
    → bits < 2 ^ width
bits_below least width (pos n) bits room h =
    let p = cond_some (nat_lt n (2 ^ width)) n bits h in
    subst (λ n. n < 2 ^ width) p.1 (ltb-true n (2 ^ width) p.0)
bits_below least width (negsuc n) bits room h =
    let p = cond_some (int_le least (negsuc n)) (2 ^ width - suc n) bits h in
    subst (λ n. n < 2 ^ width) p.1 (omega (arith, room))

integer_below : (least : ℤ) (width : ℕ) (z : Option ℤ) (bits : ℕ) → 0 < 2 ^ width
    → option_and_then (bits_from least width) z ≡ Some bits → bits < 2 ^ width
integer_below least width None bits room h = cc h
integer_below least width (Some z) bits room h = bits_below least width z bits room h

-- a value that was read under the name of its type
val_of_type_is : (key : List ℕ) (ty : ValType) (least : ℤ) (width : ℕ) (d : Data) (v : Val) → 0 < 2 ^ width
    → val_of_type key ty least width d ≡ Ok v
    → (bits : ℕ) × (record { ty = ty; bits = bits } ≡ v) × (bits < 2 ^ width)
val_of_type_is key ty least width d v room h =
    let p = both_ok (below key (bits_of least width d)) _ v h in
    let read = below_ok key (bits_of least width d) p.0 p.1 in (
      p.0,
      ok_one (record { ty = ty; bits = p.0 }) v p.2,
      integer_below least width (integer_of d) p.0 room (or_shape_ok (option_and_then (bits_from least width) (integer_of d)) p.0 read),
    )

constant : (v w : Val) → v ≡ w → is_constant v ≡ true → IsTrue (is_constant w)
constant v w is h = subst (λ v. IsTrue (is_constant v)) is h

by_type : (i32 i64 f32 f64 : Option Data) (v : Val) → value_by i32 i64 f32 f64 ≡ Ok v → IsTrue (is_constant v)
by_type (Some d) i64 f32 f64 v h =
    let p = val_of_type_is (codes "i32") I32 (negsuc (2 ^ 31 - 1)) 32 d v (omega arith) h in
    constant (record { ty = I32; bits = p.0 }) v p.1 (lt-ltb p.0 (2 ^ 32) p.2)
by_type None (Some d) f32 f64 v h =
    let p = val_of_type_is (codes "i64") I64 (negsuc (2 ^ 63 - 1)) 64 d v (omega arith) h in
    constant (record { ty = I64; bits = p.0 }) v p.1 (lt-ltb p.0 (2 ^ 64) p.2)
by_type None None (Some d) f64 v h =
    let p = val_of_type_is (codes "f32") F32 (pos 0) 32 d v (omega arith) h in
    constant (record { ty = F32; bits = p.0 }) v p.1 (lt-ltb p.0 (2 ^ 32) p.2)
by_type None None None (Some d) v h =
    let p = val_of_type_is (codes "f64") F64 (pos 0) 64 d v (omega arith) h in
    constant (record { ty = F64; bits = p.0 }) v p.1 (lt-ltb p.0 (2 ^ 64) p.2)
by_type None None None None v h = cc h

pub value_in_range : (d : Data) (v : Val) → value_of d ≡ Ok v → IsTrue (is_constant v)
unfolding value_of
value_in_range d v h =
    by_type (get (codes "i32") d) (get (codes "i64") d) (get (codes "f32") d) (get (codes "f64") d) v
    (passed (has_one_key (as_object d)) (value_by (get (codes "i32") d) (get (codes "i64") d) (get (codes "f32") d) (get (codes "f64") d)) (Shape []) v h).1

-- the bytes of a hexadecimal text are bytes
decoded : (r : Result (List ℕ) FromHexError) (bytes : List ℕ) → result_ok r ≡ Some bytes → r ≡ Ok bytes
decoded (Ok bs) bytes h = ap Ok (some_one bs bytes h)
decoded (Err e) bytes h = cc h

even_text : (odd : Bool) (r : Result (List ℕ) FromHexError) (bytes : List ℕ) → cond odd (Err OddLength) r ≡ Ok bytes
    → r ≡ Ok bytes
even_text true r bytes h = cc h
even_text false r bytes h = h

pub bytes_below : (d : Data) (bytes : List ℕ) → bytes_of d ≡ Ok bytes → All (λ byte. byte < 256) bytes
bytes_below d bytes h = by (as_str d) (or_shape_ok (option_and_then (λ text. result_ok (decode_of text)) (as_str d)) bytes h)
  where
    by : (o : Option (List ℕ)) → option_and_then (λ text. result_ok (decode_of text)) o ≡ Some bytes
        → All (λ byte. byte < 256) bytes
    by None h = cc h
    by (Some text) h =
        let pairs : decode_pairs 0 text ≡ Ok bytes = even_text (length text % 2 == 1) (decode_pairs 0 text) bytes (decoded (decode_of text) bytes h) in
        All-from_get_or (λ byte. byte < 256) bytes 0 (λ i within. (decode_pairs-ok 0 text bytes pairs).2 i)
