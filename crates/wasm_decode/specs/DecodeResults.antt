-- The result of decoding.
use Rattle.std.specs.Prelude.{◌≡◌, ℕ, List, Some, None, Result, Ok, Err}
use Rattle.wasm_syntax.specs.declared.forms.Form.{Form}
use Rattle.wasm_syntax.specs.declared.modules.Module.{Module}
use Rattle.wasm_syntax.specs.Encoding.Modules.{Encodes, IsFaultPlace}
use Rattle.wasm_syntax.specs.Encoding.ReadModules.{fault_place, read_module}
use Rattle.wasm_decode.specs.declared.modules.DecodeFault.{DecodeFault}
use Rattle.wasm_decode.specs.declared.modules.DecodeFault.TheVariants.{Malformed, Memory}

-- The cause of a fault: the bytes encode no module of the form, and the place is that of the fault. Exhausted memory
-- has no cause in the bytes.
abbrev pub IsFaultOf : Form → List ℕ → DecodeFault → Type 0
IsFaultOf form bytes (Malformed at) = ((m : Module) → Encodes form bytes m → ⊥) × IsFaultPlace form bytes at
IsFaultOf form bytes Memory = Unit {0}

-- the cause of a fault by the plain program
abbrev pub IsUnread : Form → List ℕ → DecodeFault → Type 0
IsUnread form bytes (Malformed at) = (read_module form bytes ≡ None) × (at ≡ fault_place form bytes)
IsUnread form bytes Memory = Unit {0}

abbrev pub IsRead : Form → List ℕ → Result Module DecodeFault → Type 0
IsRead form bytes (Ok m) = read_module form bytes ≡ Some m
IsRead form bytes (Err fault) = IsUnread form bytes fault
