-- What one action of the host does to a store, or why it cannot be done. The host changes memories, tables
-- and globals as an embedder may (Core 1.0, appendix 7.1).
use Rattle.std.specs.Prelude.{ℕ, ◌+◌, List, Option, Some, None, Bool, true, false, nat_lt, slice_get, option_map}
use Rattle.wasm_syntax.specs.declared.values.Val.{Val}
use Rattle.host_script.specs.declared.scripts.Address.{Address}
use Rattle.host_script.specs.declared.scripts.Address.TheVariants.{Fixed, Arg}
use Rattle.host_script.specs.declared.scripts.Action.{Action}
use Rattle.host_script.specs.declared.scripts.Action.TheVariants.{Write, Copy, SetTable, SetGlobal, Grow, GrowTable, Call, CallTable}
use Rattle.history_spec.specs.declared.entries.FaultKind.{FaultKind}
use Rattle.history_spec.specs.declared.entries.FaultKind.TheVariants.{Outside, TableOutside, GrowRefused, EmptyEntry, CallsOwn, EntryType}
use Rattle.history_spec.specs.Store.{Store, Memory, grown_memory, grown_table, bytes_at, with_bytes_at, with_entry, with_memory, with_table, with_global}
use Rattle.wasm_syntax.specs.Alike.{same_types}
use Rattle.history_spec.specs.Code.{Code, signature, types_of}

-- the action changed the store; or it calls a function; or it cannot be done; or it does not fit the module,
-- which the reader of scripts excludes
pub data ActionResult : Type 0 where
  Changes : (store : Store) → ActionResult
  Enters : (func : ℕ) (args : List Val) → ActionResult
  Fails : (kind : FaultKind) → ActionResult
  Unfit : ActionResult

-- goes on with a value if there is one; else the action does not fit
abbrev pub on : {X : Type 0} → Option X → (X → ActionResult) → ActionResult
on None go = Unfit
on (Some x) go = go x

-- goes on with a value if there is one; else there is this fault
abbrev pub or_fault : {X : Type 0} → FaultKind → Option X → (X → ActionResult) → ActionResult
or_fault kind None go = Fails kind
or_fault kind (Some x) go = go x

-- a call, if its arguments have the types of the parameters
abbrev pub if_fits : Bool → ActionResult → ActionResult
if_fits true acted = acted
if_fits false acted = Fails EntryType

-- an address as a number, given the arguments of the call that is answered; None if there is no such argument
abbrev pub address_of : List Val → Address → Option ℕ
address_of args (Fixed address) = Some address
address_of args (Arg number plus) = option_map (λ value. value.bits + plus) (slice_get args number)

-- the store with other bytes in its memory
abbrev pub with_new_bytes : Store → Memory → List ℕ → ActionResult
with_new_bytes store memory bytes = Changes (with_memory store (record memory { bytes = bytes }))

-- a call of the function that a table entry holds, if it is a defined one and takes these arguments
abbrev pub calls_defined : Code → ℕ → List Val → Bool → ActionResult
calls_defined code func args true = Fails CallsOwn
calls_defined code func args false =
    on (signature code func) (λ ty. if_fits (same_types ty.params (types_of args)) (Enters func args))

-- a call through a table entry, if the entry holds a function
abbrev pub calls_entry : Code → List Val → Option ℕ → ActionResult
calls_entry code args None = Fails EmptyEntry
calls_entry code args (Some func) = calls_defined code func args (nat_lt func code.imported)

-- one action of the host, in the call of an import with these arguments; the host's own work has no arguments
abbrev pub perform : Code → Store → List Val → Action → ActionResult
perform code store args (Write to bytes) =
    on store.memory (λ memory.
    on (address_of args to) (λ address.
    or_fault Outside (with_bytes_at memory.bytes address bytes) (with_new_bytes store memory)))
perform code store args (Copy to source count) =
    on store.memory (λ memory.
    on (address_of args to) (λ address.
    on (address_of args source) (λ from.
    or_fault Outside (bytes_at memory.bytes from count) (λ bytes.
    or_fault Outside (with_bytes_at memory.bytes address bytes) (with_new_bytes store memory)))))
perform code store args (SetTable index func) =
    on store.table (λ table.
    or_fault TableOutside (with_entry table.entries index func) (λ entries.
    Changes (with_table store (record table { entries = entries }))))
perform code store args (SetGlobal global value) =
    on (slice_get store.globals global) (λ old. Changes (with_global store global value))
perform code store args (Grow by) =
    on store.memory (λ memory.
    or_fault GrowRefused (grown_memory memory by) (λ larger. Changes (with_memory store larger)))
perform code store args (GrowTable by) =
    on store.table (λ table.
    or_fault GrowRefused (grown_table table by None) (λ larger. Changes (with_table store larger)))
perform code store args (Call func given) = Enters func given
perform code store args (CallTable index given) =
    on store.table (λ table. or_fault TableOutside (slice_get table.entries index) (calls_entry code given))
