-- The lines of a history: one for each entry and one for the outcome, each with its line feed.
use Rattle.std.specs.Prelude.{ℕ, zero, suc, ◌/◌, ◌%◌, List, [], ◌∷◌, ◌++◌, Option, Some, None, codes, decimal, slice_index}
use Rattle.std.specs.List.{flat_map}
use Rattle.wasm_syntax.specs.declared.values.ValType.{ValType}
use Rattle.wasm_syntax.specs.declared.values.ValType.TheVariants.{I32, I64, F32, F64, FuncRef}
use Rattle.wasm_syntax.specs.declared.values.Val.{Val}
use Rattle.base.specs.declared.outcomes.Outcome.{Outcome}
use Rattle.base.specs.declared.outcomes.Outcome.TheVariants.{Ended, Trapped, HostTrapped}
use Rattle.history_spec.specs.declared.entries.TrapKind.{TrapKind}
use Rattle.history_spec.specs.declared.entries.TrapKind.TheVariants.{Unreachable, DivideByZero, Overflow, Memory, Table, Empty, Signature}
use Rattle.history_spec.specs.declared.entries.Entry.{Entry}
use Rattle.history_spec.specs.declared.entries.Entry.TheVariants.{HostCall, HostReturn, ImportCall, ImportReturn, Enter, Exit, Step, Trap, HostTrap}

-- the lowest digits of a number in hexadecimal, as many as `count`, the highest first
abbrev pub hex_digits : (count number : ℕ) → List ℕ
hex_digits zero number = []
hex_digits (suc count) number =
    hex_digits count (number / 16) ++ slice_index (codes "0123456789abcdef") (number % 16) ∷ []

-- a value: its type, and its bits in 8 or 16 digits
abbrev pub typed_text : ValType → ℕ → List ℕ
typed_text I32 bits = codes "i32:" ++ hex_digits 8 bits
typed_text I64 bits = codes "i64:" ++ hex_digits 16 bits
typed_text F32 bits = codes "f32:" ++ hex_digits 8 bits
typed_text F64 bits = codes "f64:" ++ hex_digits 16 bits
typed_text FuncRef bits = codes "funcref:" ++ hex_digits 16 bits

-- a value as a word
abbrev pub value_text : Val → List ℕ
value_text value = typed_text value.ty value.bits

-- a word with a space in front
abbrev pub with_space : List ℕ → List ℕ
with_space word = codes " " ++ word

-- a number in decimal, after a space
abbrev pub number_text : ℕ → List ℕ
number_text number = with_space (decimal number)

-- values, each after a space
abbrev pub values_text : List Val → List ℕ
values_text values = flat_map (λ value. with_space (value_text value)) values

-- what an instruction found, if it found something
abbrev pub found_text : Option ℕ → List ℕ
found_text None = []
found_text (Some found) = codes " found" ++ number_text found

-- the name of a trap
abbrev pub kind_text : TrapKind → List ℕ
kind_text Unreachable = codes "unreachable"
kind_text DivideByZero = codes "divide"
kind_text Overflow = codes "overflow"
kind_text Memory = codes "memory"
kind_text Table = codes "table"
kind_text Empty = codes "empty"
kind_text Signature = codes "signature"

-- the text of an entry
abbrev pub entry_text : Entry → List ℕ
entry_text (HostCall func args) = codes "host-call" ++ number_text func ++ values_text args
entry_text (HostReturn func results) = codes "host-return" ++ number_text func ++ values_text results
entry_text (ImportCall import args) = codes "import-call" ++ number_text import ++ values_text args
entry_text (ImportReturn import results) = codes "import-return" ++ number_text import ++ values_text results
entry_text (Enter func) = codes "enter" ++ number_text func
entry_text (Exit func results) = codes "exit" ++ number_text func ++ values_text results
entry_text (Step func number operands results found) =
    codes "step" ++ number_text func ++ number_text number
    ++ values_text operands ++ codes " ->" ++ values_text results ++ found_text found
entry_text (Trap func number kind operands found) =
    codes "trap" ++ number_text func ++ number_text number ++ with_space (kind_text kind)
    ++ values_text operands ++ found_text found
entry_text HostTrap = codes "host-trap"

-- the text of an outcome
abbrev pub outcome_text : Outcome → List ℕ
outcome_text Ended = codes "ended"
outcome_text Trapped = codes "trapped"
outcome_text HostTrapped = codes "host-trapped"

-- a text with its line feed
abbrev pub line : List ℕ → List ℕ
line text = text ++ 10 ∷ []

-- the lines of a history and its outcome
abbrev pub history_text : List Entry → Outcome → List ℕ
history_text history outcome = flat_map (λ entry. line (entry_text entry)) history ++ line (outcome_text outcome)
