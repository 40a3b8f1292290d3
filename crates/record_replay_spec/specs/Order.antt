-- The order of hook calls: which calls a module in the hooked form may make, one after another.
use Rattle.std.specs.Prelude.{ℕ, ◌+◌, ◌^◌, List, [], ◌∷◌, ◌++◌, length, Option, Some, None, Bool, true, false, cond, not, ◌&&◌, ◌||◌, nat_eq, nat_le, nat_lt, slice_get, option_map, option_and_then}
use Rattle.base.specs.declared.marks.TheConstants.{TYPE_I32, TYPE_I64, TYPE_F32, TYPE_F64}
use Rattle.wasm_syntax.specs.declared.values.ValType.{ValType}
use Rattle.wasm_syntax.specs.declared.values.ValType.TheVariants.{I32, I64, F32, F64}
use Rattle.wasm_syntax.specs.declared.values.Val.{Val}
use Rattle.wasm_syntax.specs.declared.signatures.FuncType.{FuncType}
use Rattle.wasm_syntax.specs.declared.signatures.GlobalType.{GlobalType}
use Rattle.wasm_syntax.specs.declared.modules.Module.{Module}
use Rattle.wasm_syntax.specs.Alike.{same_types}
use Rattle.wasm_syntax.specs.Typing.{bits_of}
use Rattle.wasm_syntax.specs.Index.{func_type, all_memories, all_globals}
use Rattle.history_spec.specs.Code.{types_of}
use Rattle.history_spec.specs.Instruction.{bits_at}
use Rattle.history_spec.specs.Instantiation.{table_length}
use Rattle.history_spec.specs.Store.{Store}
use Rattle.record_replay_spec.specs.Observations.{ReachesEntry}
use Rattle.record_replay_spec.specs.Known.{entry_of, entries_after}
use Rattle.record_replay_spec.specs.declared.hooks.Hook.{Hook}
use Rattle.record_replay_spec.specs.declared.hooks.Hook.TheVariants.{Arg, Enter, Leave, Pre, Post, Ipre, Ipost, Load, Store as ToStore, Size, Grow, Gget, Gset, Copy, Fill}
use Rattle.record_replay_spec.specs.Hooks.{HookCall, hook_params, renumber, original}

-- ---- what the order depends on of a module in the hooked form; functions have their indices in the original

-- the numbers of functions that the original imports and defines; the types of its functions, whether it has a memory,
-- and the types of its globals
pub record HookedShape : Type 0 where
  pub imports : ℕ
  pub defined : ℕ
  pub type_of : ℕ → Option FuncType
  pub memory : Bool
  pub globals : List GlobalType

-- a list is not empty
abbrev pub is_some_there : {X : Type 0} → List X → Bool
is_some_there [] = false
is_some_there (x ∷ xs) = true

-- the shape of a module in the hooked form, whose original imports `n` functions
abbrev pub shape_of : (n : ℕ) → Module → HookedShape
shape_of n hooked =
    record {
      imports = n;
      defined = length hooked.funcs;
      type_of = λ func. func_type hooked (renumber n func);
      memory = is_some_there (all_memories hooked);
      globals = all_globals hooked;
    }

-- the index is that of a function of the original
abbrev pub is_function : HookedShape → ℕ → Bool
is_function shape func = nat_lt func (shape.imports + shape.defined)

-- the index is that of a function that the original defines
abbrev pub is_defined : HookedShape → ℕ → Bool
is_defined shape func = nat_le shape.imports func && is_function shape func

-- ---- the open functions and calls

-- an entered function; or a call that began, by the function's index or by the table, of a function or of an empty
-- entry, and whether the function was entered by this call
pub data OrderFrame : Type 0 where
  InFunction : (func : ℕ) → OrderFrame
  InCall : (direct : Bool) (callee : Option ℕ) (entered : Bool) → OrderFrame

-- the frames, the innermost first; the values that are reported for the next enter or post; the known size of the
-- table
pub record OrderState : Type 0 where
  pub frames : List OrderFrame
  pub pending : List Val
  pub entries : ℕ

-- the state before any call, if the table has this number of entries
abbrev pub order_start : (entries : ℕ) → OrderState
order_start entries = record { frames = []; pending = []; entries = entries }

-- a state, if a test passes
abbrev pub when : Bool → OrderState → Option OrderState
when true state = Some state
when false state = None

-- the state with these frames and without pending values
abbrev pub with_frames : OrderState → List OrderFrame → OrderState
with_frames state frames = record state { frames = frames; pending = [] }

-- the innermost frame is a function
abbrev pub in_function : List OrderFrame → Bool
in_function (InFunction func ∷ frames) = true
in_function frames = false

-- no value is pending
abbrev pub none_pending : OrderState → Bool
none_pending state = not (is_some_there state.pending)

-- the innermost frame is a function, and no value is pending
abbrev pub may_report : OrderState → Bool
may_report state = in_function state.frames && none_pending state

-- ---- reported values

-- the number type that a byte encodes (Core 1.0, 5.3.1)
abbrev pub type_of_byte : ℕ → Option ValType
type_of_byte byte =
    cond (nat_eq byte TYPE_I32) (Some I32)
    (cond (nat_eq byte TYPE_I64) (Some I64)
    (cond (nat_eq byte TYPE_F32) (Some F32)
    (cond (nat_eq byte TYPE_F64) (Some F64) None)))

-- bits fit a type
abbrev pub bits_fit : ValType → ℕ → Bool
bits_fit ty bits = nat_lt bits (2 ^ bits_of ty)

-- a value of a type, if its bits fit
abbrev pub value_if_fits : ℕ → ValType → Option Val
value_if_fits bits ty = cond (bits_fit ty bits) (Some (record { ty = ty; bits = bits })) None

-- the value of a type's byte and bits
abbrev pub value_reported : (byte bits : ℕ) → Option Val
value_reported byte bits = option_and_then (value_if_fits bits) (type_of_byte byte)

-- one more value is pending
abbrev pub with_pending : OrderState → Val → OrderState
with_pending state value = record state { pending = state.pending ++ value ∷ [] }

-- the pending values have these types of a function, if the function has a type
abbrev pub pending_are : OrderState → (FuncType → List ValType) → Option FuncType → Bool
pending_are state types None = false
pending_are state types (Some ty) = same_types (types ty) (types_of state.pending)

-- ---- enter and leave

-- a function may be entered in a call of this callee: by the host if the callee is an import, or by the module if it
-- is the function and was not entered yet
abbrev pub may_enter_call : HookedShape → (func : ℕ) → (callee : Option ℕ) → (entered : Bool) → Bool
may_enter_call shape func None entered = false
may_enter_call shape func (Some callee) entered = nat_lt callee shape.imports || (nat_eq callee func && not entered)

-- a function may be entered above these frames; the host may enter it if there are none
abbrev pub may_enter : HookedShape → (func : ℕ) → List OrderFrame → Bool
may_enter shape func [] = true
may_enter shape func (InFunction outer ∷ frames) = false
may_enter shape func (InCall direct callee entered ∷ frames) = may_enter_call shape func callee entered

-- the frames, with the topmost call entered
abbrev pub with_entered : List OrderFrame → List OrderFrame
with_entered (InCall direct callee entered ∷ frames) = InCall direct callee true ∷ frames
with_entered frames = frames

-- the state after a function is entered with the pending values
abbrev pub enters : HookedShape → OrderState → (func : ℕ) → Option OrderState
enters shape state func =
    when
    (is_defined shape func && pending_are state (λ ty. ty.params) (shape.type_of func)
    && may_enter shape func state.frames)
    (with_frames state (InFunction func ∷ with_entered state.frames))

-- the state after the topmost function ends
abbrev pub leaves : OrderState → (func : ℕ) → List OrderFrame → Option OrderState
leaves state func (InFunction top ∷ frames) =
    when (nat_eq top func && none_pending state) (with_frames state frames)
leaves state func frames = None

-- ---- calls

-- the state after a call begins
abbrev pub begins_call : OrderState → (direct : Bool) → (callee : Option ℕ) → OrderState
begins_call state direct callee = with_frames state (InCall direct callee false ∷ state.frames)

-- the state after the call of an entry's function, which must be one of the original's
abbrev pub begins_original : HookedShape → OrderState → Option ℕ → Option OrderState
begins_original shape state None = None
begins_original shape state (Some func) = when (is_function shape func) (begins_call state false (Some func))

-- the state after the call of an entry, by its function in the instrumented module
abbrev pub begins_entry : HookedShape → OrderState → Option ℕ → Option OrderState
begins_entry shape state None = Some (begins_call state false None)
begins_entry shape state (Some func) = begins_original shape state (original shape.imports func)

-- the state after a call by an index of the table, which sees the table's size if the index is not below the known
-- size
abbrev pub with_size_seen : OrderState → Store → (index : ℕ) → OrderState
with_size_seen state view index =
    record state { entries = entries_after state.entries (ReachesEntry index (table_length view.table)) }

-- the state after a call by an index of the table, whose size is at least the known one
abbrev pub begins_indirect : HookedShape → OrderState → Store → (index : ℕ) → Option OrderState
begins_indirect shape state view index =
    option_and_then
    (λ ready. begins_entry shape (with_size_seen ready view index) (entry_of view.table index))
    (when (may_report state && nat_le state.entries (table_length view.table)) state)

-- a callee may end: it is an import, or a function that was entered
abbrev pub may_be_over : HookedShape → (callee : ℕ) → (entered : Bool) → Bool
may_be_over shape callee entered = nat_lt callee shape.imports || entered

-- the state after a call of a function ends with the pending values as its results
abbrev pub ends_call : HookedShape → OrderState → (callee : ℕ) → (entered : Bool) → List OrderFrame → Option OrderState
ends_call shape state callee entered frames =
    when (pending_are state (λ ty. ty.results) (shape.type_of callee) && may_be_over shape callee entered)
    (with_frames state frames)

-- the state after a call by this function's index ends
abbrev pub ends_direct : HookedShape → OrderState → (func : ℕ) → List OrderFrame → Option OrderState
ends_direct shape state func (InCall true (Some callee) entered ∷ frames) =
    cond (nat_eq callee func) (ends_call shape state callee entered frames) None
ends_direct shape state func frames = None

-- the state after a call by the table ends
abbrev pub ends_indirect : HookedShape → OrderState → List OrderFrame → Option OrderState
ends_indirect shape state (InCall false (Some callee) entered ∷ frames) = ends_call shape state callee entered frames
ends_indirect shape state frames = None

-- ---- the other hooks

-- a width is 1, 2, 4 or 8
abbrev pub is_width : ℕ → Bool
is_width width = nat_eq width 1 || nat_eq width 2 || nat_eq width 4 || nat_eq width 8

-- a global exists, is mutable, and the bits fit it
abbrev pub fits_global : Option GlobalType → (bits : ℕ) → Bool
fits_global None bits = false
fits_global (Some ty) bits = ty.mutable && bits_fit ty.ty bits

-- the state after a hook that changes no frames, if a test passes
abbrev pub stays : OrderState → Bool → Option OrderState
stays state test = when (may_report state && test) state

-- the state after an access, by its width
abbrev pub stays_by_access : HookedShape → OrderState → List Val → Option OrderState
stays_by_access shape state args = stays state (shape.memory && is_width (bits_at args 2))

-- the state after a global is reported with its bits
abbrev pub stays_by_global : HookedShape → OrderState → List Val → Option OrderState
stays_by_global shape state args =
    stays state (fits_global (slice_get shape.globals (bits_at args 0)) (bits_at args 1))

-- ---- one call, and all calls

-- the state after one call, whose arguments have the types of its hook's parameters
abbrev pub ordered_kind : HookedShape → OrderState → Hook → List Val → Store → Option OrderState
ordered_kind shape state Arg args view =
    option_map (with_pending state) (value_reported (bits_at args 0) (bits_at args 1))
ordered_kind shape state Enter args view = enters shape state (bits_at args 0)
ordered_kind shape state Leave args view = leaves state (bits_at args 0) state.frames
ordered_kind shape state Pre args view =
    when (may_report state && is_function shape (bits_at args 0)) (begins_call state true (Some (bits_at args 0)))
ordered_kind shape state Post args view = ends_direct shape state (bits_at args 0) state.frames
ordered_kind shape state Ipre args view = begins_indirect shape state view (bits_at args 0)
ordered_kind shape state Ipost args view = ends_indirect shape state state.frames
ordered_kind shape state Load args view = stays_by_access shape state args
ordered_kind shape state ToStore args view = stays_by_access shape state args
ordered_kind shape state Size args view = stays state shape.memory
ordered_kind shape state Grow args view = stays state shape.memory
ordered_kind shape state Gget args view = stays_by_global shape state args
ordered_kind shape state Gset args view = stays_by_global shape state args
ordered_kind shape state Copy args view = stays state shape.memory
ordered_kind shape state Fill args view = stays state shape.memory

-- the state after one call, if it is in order
abbrev pub ordered_step : HookedShape → OrderState → HookCall → Option OrderState
ordered_step shape state call =
    cond (same_types (hook_params call.kind) (types_of call.args))
    (ordered_kind shape state call.kind call.args call.view) None

-- the result of the calls after one, by the state after it; if that call is out of order, its number
abbrev pub number_or : (number : ℕ) → Option OrderState → (OrderState → Option ℕ) → Option ℕ
number_or number None go = Some number
number_or number (Some state) go = go state

-- the number of the first call out of order, counted from `at` on
abbrev pub first_disorder : HookedShape → OrderState → (at : ℕ) → List HookCall → Option ℕ
first_disorder shape state at [] = None
first_disorder shape state at (call ∷ calls) =
    number_or at (ordered_step shape state call) (λ next. first_disorder shape next (at + 1) calls)
