-- The state of the order of hook calls, and which call may come next.
use Rattle.std.specs.Prelude.{◌≡◌, ℕ, List, [], ◌∷◌, ◌++◌, drop, Bool, true, false, Option, Some, None, cond, nat_le, option_map, option_and_then, slice_get}
use Rattle.wasm_syntax.specs.declared.values.Val.{Val}
use Rattle.history_spec.specs.Store.{Store}
use Rattle.history_spec.specs.Instruction.{bits_at}
use Rattle.history_spec.specs.Instantiation.{table_length}
use Rattle.record_replay_spec.specs.Observations.{ReachesEntry}
use Rattle.record_replay_spec.specs.Known.{entry_of, entries_after}
use Rattle.record_replay_spec.specs.declared.hooks.Hook.{Hook}
use Rattle.record_replay_spec.specs.declared.hooks.Hook.TheVariants.{Ipre}
use Rattle.record_replay_spec.specs.Hooks.{HookCall, original}
use Rattle.record_replay_spec.specs.Order.{HookedShape, OrderFrame, OrderState, InFunction, InCall, with_entered, is_function, is_width, ordered_step}
use Rattle.record_replay_spec.specs.Logs.{value_of_global}
use Rattle.hook_order.specs.declared.access.Access.{Access}
use Rattle.hook_order.specs.declared.access.EntryCall.{EntryCall}
use Rattle.hook_order.specs.Shapes.{ShapeParts, shape_from}

-- the shape of the module, the frames from the innermost on, and the pending values
pub record OrderParts : Type 0 where
  pub shape : ShapeParts
  pub frames : List OrderFrame
  pub pending : List Val

-- the state before any call
abbrev pub parts_at_start : ShapeParts → OrderParts
parts_at_start shape = record { shape = shape; frames = []; pending = [] }

-- the state of the order, with the number of entries that the table is known to have
abbrev pub state_of : (entries : ℕ) → OrderParts → OrderState
state_of entries parts = record { frames = parts.frames; pending = parts.pending; entries = entries }

-- the state after a call, or `None` if the call is out of order
abbrev pub step_from : (entries : ℕ) → OrderParts → HookCall → Option OrderState
step_from entries parts call = ordered_step (shape_from parts.shape) (state_of entries parts) call

-- a call of this hook with these arguments leads to the state `after`, whatever the store; it leads to `None` if
-- the call is out of order
abbrev pub LeadsTo : OrderParts → Hook → List Val → Option OrderParts → Type 0
LeadsTo parts kind args after =
    (entries : ℕ) (view : Store)
    → step_from entries parts (record { kind = kind; args = args; view = view }) ≡ option_map (state_of entries) after

-- the state with these frames and no pending values
abbrev pub parts_with : OrderParts → List OrderFrame → OrderParts
parts_with parts frames = record parts { frames = frames; pending = [] }

-- the state after a function is entered
abbrev pub parts_entered : OrderParts → (func : ℕ) → OrderParts
parts_entered parts func = parts_with parts (InFunction func ∷ with_entered parts.frames)

-- the state after a call begins
abbrev pub parts_called : OrderParts → Bool → (callee : Option ℕ) → OrderParts
parts_called parts direct callee = parts_with parts (InCall direct callee false ∷ parts.frames)

-- the state after the innermost frame is closed
abbrev pub parts_closed : OrderParts → OrderParts
parts_closed parts = parts_with parts (drop 1 parts.frames)

-- the state with one more pending value
abbrev pub parts_pending : OrderParts → Val → OrderParts
parts_pending parts value = record parts { pending = parts.pending ++ value ∷ [] }

-- ---- calls that leave the frames unchanged

-- the address of a load or a store, as a base and an offset, and the number of its bytes
pub record IsAccess (args : List Val) (access : Access) : Type 0 where
  pub base : bits_at args 0 ≡ access.base
  pub offset : bits_at args 1 ≡ access.offset
  pub width : bits_at args 2 ≡ access.width
  pub is_width : is_width access.width ≡ true

-- a global that exists, and the value of its type
pub record IsGlobal (parts : OrderParts) (args : List Val) (global : ℕ) (value : Val) : Type 0 where
  pub index : bits_at args 0 ≡ global
  pub reported : option_map (λ ty. value_of_global ty (bits_at args 1)) (slice_get parts.shape.globals global)
      ≡ Some value

-- ---- calls by the table

-- the function of the original that an entry holds, or `None` in an empty entry; nothing for any other function
abbrev pub callee_of : HookedShape → Option ℕ → Option (Option ℕ)
callee_of shape None = Some None
callee_of shape (Some func) =
    option_and_then (λ origin. cond (is_function shape origin) (Some (Some origin)) None) (original shape.imports func)

-- the index and the function of the entry that a call by the table reports
pub record IsEntryCall (parts : OrderParts) (args : List Val) (known : ℕ) (view : Store) (call : EntryCall)
    : Type 0 where
  pub index : bits_at args 0 ≡ call.index
  pub table : nat_le known (table_length view.table) ≡ true
  pub callee : option_and_then (original parts.shape.imports) (entry_of view.table call.index) ≡ call.callee
  pub step : step_from known parts (record { kind = Ipre; args = args; view = view })
      ≡ Some (state_of (entries_after known (ReachesEntry call.index (table_length view.table)))
      (parts_called parts false call.callee))
