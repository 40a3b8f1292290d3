-- The script of a load is within the limit of files.
use Rattle.std.proofs.Common.{◌≡◌, ℕ, zero, suc, ◌*◌, ◌≤◌, ◌%◌, ◌==◌, ◌++◌, ◌∷◌, [], length, codes, decimal, arith, Bool, true, false, if◌then◌else◌}
use Rattle.std.proofs.lemmas.List.{length-append}
use Rattle.std.proofs.lemmas.Fmt.{length-decimal-le}
use Rattle.wasm_syntax.specs.declared.limits.TheConstants.{MAX_LOAD_CALLS, MAX_FILE_BYTES}
use Rattle.load_maker.specs.Loads.{comma_before, load_byte, load_script, response_text, responses_text, tick_text}
use Rattle.hex.specs.Hex.{encode_lower, lower_digits}
use Rattle.hex.proofs.HexLemmas.{length-encode_with}

short_tick : (call : ℕ) → length (tick_text call) ≤ 16
short_tick call = by (call % 16 == 15)
  where
    by : (test : Bool) → length (if test then codes ",{\"call\":\"tick\"}" else []) ≤ 16
    by true = omega (arith)
    by false = omega (arith)

short_comma : (call : ℕ) → length (comma_before call) ≤ 1
short_comma zero = omega (arith)
short_comma (suc call) = omega (arith)

short_number : (number : ℕ) → number ≤ MAX_LOAD_CALLS → length (decimal number) ≤ 5
short_number number few = length-decimal-le 5 number (omega (arith)) (omega (arith, few)) (omega (arith, few))

byte_digits : (call : ℕ) → length (encode_lower (load_byte call ∷ []) ++ codes "\"}") ≡ 4
byte_digits call =
    let digits = length-encode_with lower_digits (load_byte call ∷ []) in
    let whole = length-append (encode_lower (load_byte call ∷ [])) (codes "\"}") in
    omega (arith, digits, whole)

short_response : (call : ℕ) → call ≤ MAX_LOAD_CALLS → length (response_text call) ≤ 90
short_response call few =
    let byte = encode_lower (load_byte call ∷ []) ++ codes "\"}" in
    let answer = codes "],\"return\":{\"i32\":" ++ (decimal call ++ codes "}}") in
    let tick = short_tick call in
    let number = short_number call few in
    let whole = length-append byte (tick_text call ++ answer) in
    let rest = length-append (tick_text call) answer in
    let last = length-append (decimal call) (codes "}}") in
    let digits = byte_digits call in
    omega (arith, tick, number, digits, whole, rest, last)

short_responses : (count : ℕ) → count ≤ MAX_LOAD_CALLS → length (responses_text count) ≤ 91 * count
short_responses zero few = omega (arith)
short_responses (suc call) few =
    let earlier = short_responses call (omega (arith, few)) in
    let comma = short_comma call in
    let response = short_response call (omega (arith, few)) in
    let whole = length-append (responses_text call) (comma_before call ++ response_text call) in
    let last = length-append (comma_before call) (response_text call) in
    omega (arith, earlier, comma, response, whole, last)

pub short_script : (number : ℕ) → number ≤ MAX_LOAD_CALLS → length (load_script number) ≤ MAX_FILE_BYTES
short_script number few =
    let before = codes "{\"imports\":{\"h\":{\"f\":{\"calls\":[" in
    let main = codes "]}}},\"main\":[{\"call\":\"run\",\"args\":[{\"i32\":" ++ (decimal number ++ codes "}]}]}") in
    let responses = short_responses number few in
    let digits = short_number number few in
    let middle = length-append (responses_text number) main in
    let last = length-append (decimal number) (codes "}]}]}") in
    omega (arith, few, responses, digits, middle, last)
