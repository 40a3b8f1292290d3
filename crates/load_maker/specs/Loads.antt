-- The script of a load: the host answers each call of the import with its number, after it has written a byte at
-- the address that the call passes; in every sixteenth call it also calls back.
use Rattle.std.specs.Prelude.{ℕ, zero, suc, ◌+◌, ◌*◌, ◌%◌, ◌==◌, List, [], ◌∷◌, ◌++◌, codes, decimal, if◌then◌else◌}
use Rattle.hex.specs.Hex.{encode_lower}

-- the byte that is written at a call
abbrev pub load_byte : (call : ℕ) → ℕ
load_byte call = (7 * call + 3) % 256

-- the host calls back in the last of every sixteen calls
abbrev pub tick_text : (call : ℕ) → List ℕ
tick_text call = if call % 16 == 15 then codes ",{\"call\":\"tick\"}" else []

-- what the host does in a call, and what it answers
abbrev pub response_text : (call : ℕ) → List ℕ
response_text call =
    codes "{\"do\":[{\"write\":{\"arg\":0},\"bytes\":\"" ++ (encode_lower (load_byte call ∷ []) ++ codes "\"}")
    ++ (tick_text call ++ (codes "],\"return\":{\"i32\":" ++ (decimal call ++ codes "}}")))

-- a comma before each response except the first
abbrev pub comma_before : (call : ℕ) → List ℕ
comma_before zero = []
comma_before (suc call) = codes ","

-- the responses to the first calls, in this number
abbrev pub responses_text : (count : ℕ) → List ℕ
responses_text zero = []
responses_text (suc call) = responses_text call ++ (comma_before call ++ response_text call)

-- the script for a number of calls
abbrev pub load_script : (number : ℕ) → List ℕ
load_script number =
    codes "{\"imports\":{\"h\":{\"f\":{\"calls\":[" ++ responses_text number
    ++ (codes "]}}},\"main\":[{\"call\":\"run\",\"args\":[{\"i32\":" ++ (decimal number ++ codes "}]}]}"))
