-- What an action of the host needs.
use Rattle.std.specs.Prelude.{◌≡◌, ℕ, ◌^◌, ◌<◌, ◌≤◌, List, length, Option, Some, None, IsSome, slice_get, option_and_then}
use Rattle.wasm_syntax.specs.declared.signatures.FuncType.{FuncType}
use Rattle.wasm_syntax.specs.declared.values.Val.{Val}
use Rattle.wasm_syntax.specs.declared.modules.Module.{Module}
use Rattle.wasm_syntax.specs.declared.values.ValType.{ValType}
use Rattle.host_script.specs.Fits.{FitsAction, FitsAddress}
use Rattle.host_script.specs.declared.scripts.Address.{Address}
use Rattle.host_script.specs.declared.scripts.Address.TheVariants.{Fixed, Arg}
use Rattle.host_script.specs.declared.scripts.Action.{Action}
use Rattle.host_script.specs.declared.scripts.Action.TheVariants.{Write, Copy, SetTable, SetGlobal, Grow, GrowTable, Call, CallTable}
use Rattle.history_spec.specs.Store.{Store}
use Rattle.history_spec.specs.Code.{Code, code_of}
use Rattle.history_spec.specs.Action.{address_of}
use Rattle.wasm_store.specs.Calls.{entry_at}
use Rattle.type_safety.specs.Configurations.{IsTypedCode}
use Rattle.type_safety.specs.Heights.{Heights}
use Rattle.type_safety.specs.Stores.{IsStore, func_count}
use Rattle.type_safety.specs.Values.{AreValues}
use Rattle.host_actions.specs.declared.addresses.Addresses.{Addresses}
use Rattle.host_actions.specs.declared.calls.Functions.{Functions}

-- the functions of a module's code
pub record AreOf (code : Code) (functions : Functions) : Type 0 where
  pub types : code.types ≡ functions.types
  pub indices : code.indices ≡ functions.indices
  pub imported : code.imported ≡ functions.imported

-- the type of a function
abbrev pub type_of : Functions → ℕ → Option FuncType
type_of functions func =
    option_and_then (λ ty. slice_get functions.types ty) (slice_get functions.indices func)

-- an argument that an address names exists and has 32 bits
abbrev pub IsThere : List Val → Address → Type 0
IsThere args (Fixed address) = Unit {0}
IsThere args (Arg number plus) = (value : Val) × (slice_get args number ≡ Some value) × (value.bits < 2 ^ 32)

-- each argument that an action names exists and has 32 bits
abbrev pub AreThere : List Val → Action → Type 0
AreThere args (Write to bytes) = IsThere args to
AreThere args (Copy to source count) = IsThere args to × IsThere args source
AreThere args (SetTable index func) = Unit {0}
AreThere args (SetGlobal global value) = Unit {0}
AreThere args (Grow by) = Unit {0}
AreThere args (GrowTable by) = Unit {0}
AreThere args (Call func given) = Unit {0}
AreThere args (CallTable index given) = Unit {0}

-- where the ranges of an action begin, given the arguments of the call that is answered
abbrev pub AreAddresses : List Val → Action → Addresses → Type 0
AreAddresses args (Write to bytes) at = address_of args to ≡ Some at.to
AreAddresses args (Copy to source count) at =
    (address_of args to ≡ Some at.to) × (address_of args source ≡ Some at.source)
AreAddresses args (SetTable index func) at = Unit {0}
AreAddresses args (SetGlobal global value) at = Unit {0}
AreAddresses args (Grow by) at = Unit {0}
AreAddresses args (GrowTable by) at = Unit {0}
AreAddresses args (Call func given) at = Unit {0}
AreAddresses args (CallTable index given) at = Unit {0}

-- the range that an action does not have begins at 0
abbrev pub OthersAreZero : Action → Addresses → Type 0
OthersAreZero (Write to bytes) at = at.source ≡ 0
OthersAreZero (Copy to source count) at = Unit {0}
OthersAreZero other at = (at.to ≡ 0) × (at.source ≡ 0)

-- a defined function in an entry of the table has a type
abbrev pub IsTyped : Functions → Option (Option ℕ) → Type 0
IsTyped functions None = Unit {0}
IsTyped functions (Some None) = Unit {0}
IsTyped functions (Some (Some func)) = functions.imported ≤ func → IsSome (type_of functions func)

-- a store has the memory, the table or the global that an action needs
abbrev pub IsReady : Functions → Store → Action → Type 0
IsReady functions store (Write to bytes) = IsSome store.memory
IsReady functions store (Copy to source count) = IsSome store.memory
IsReady functions store (SetTable index func) = IsSome store.table
IsReady functions store (SetGlobal global value) = global < length store.globals
IsReady functions store (Grow by) = IsSome store.memory
IsReady functions store (GrowTable by) = IsSome store.table
IsReady functions store (Call func given) = Unit {0}
IsReady functions store (CallTable index given) = IsSome store.table × IsTyped functions (entry_at store index)

-- ---- laws

-- a well-typed store of a module has what an action needs that fits the module
abbrev pub FittingActionsAreReady : Type 0
FittingActionsAreReady =
    (m : Module) (heights : Heights) (functions : Functions) (store : Store)
    (params : List ValType) (args : List Val) (action : Action)
    → IsTypedCode m heights → IsStore m store → AreValues (func_count m) params args → FitsAction m params action
    → AreOf (code_of m) functions → IsReady functions store action

-- the arguments that an action that fits a module names exist and have 32 bits
abbrev pub FittingArgumentsAreThere : Type 0
FittingArgumentsAreThere =
    (m : Module) (params : List ValType) (args : List Val) (action : Action)
    → AreValues (func_count m) params args → FitsAction m params action → AreThere args action

-- the argument that one address of an action that fits a module names exists and has 32 bits
abbrev pub FittingArgumentIsThere : Type 0
FittingArgumentIsThere =
    (funcs : ℕ) (params : List ValType) (args : List Val) (address : Address)
    → AreValues funcs params args → FitsAddress params address → IsThere args address
