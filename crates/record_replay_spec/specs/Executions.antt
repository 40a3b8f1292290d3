-- One instruction in two stores, and by two codes that share functions.
use Rattle.std.specs.Prelude.{◌≡◌, ℕ, List, length, Option, Some, slice_get}
use Rattle.wasm_syntax.specs.declared.values.Val.{Val}
use Rattle.wasm_syntax.specs.declared.signatures.FuncType.{FuncType}
use Rattle.history_spec.specs.Store.{Store}
use Rattle.history_spec.specs.Code.{Code, signature, types_of}
use Rattle.history_spec.specs.Configuration.{Frame}
use Rattle.history_spec.specs.Instruction.{Control, Goes, Calls, Returns, Execution, Did, Traps, NoRule}
use Rattle.history_spec.specs.Projection.{call_args}
use Rattle.record_replay_spec.specs.Observations.{Observation}
use Rattle.record_replay_spec.specs.Changes.{IsChangedAs, with_changes}

-- another code has the types of the first and its functions' types, and may have more
pub record Shares (code other : Code) : Type 0 where
  pub types : (t : ℕ) (ty : FuncType) → slice_get code.types t ≡ Some ty → slice_get other.types t ≡ Some ty
  pub signatures : (func : ℕ) (ty : FuncType) → signature code func ≡ Some ty → signature other func ≡ Some ty

-- the store that control leaves; if control leaves the activation, the store that it found
abbrev pub left_store : (found : Store) → Control → Store
left_store found (Goes store frame) = store
left_store found control = found

-- control in another store
abbrev pub in_store : Store → Control → Control
in_store store (Goes after frame) = Goes store frame
in_store store control = control

-- values are arguments for a function
pub record AreArguments (code : Code) (func : ℕ) (args : List Val) : Type 0 where
  pub ty : FuncType
  pub has_type : signature code func ≡ Some ty
  pub types : types_of args ≡ ty.params

-- an activation remains one of its function, with the same number of results
pub record IsSameActivation (frame next : Frame) : Type 0 where
  pub func : next.func ≡ frame.func
  pub arity : next.arity ≡ frame.arity

-- the arguments of a call are the operands without the index of a call by the table, and have the function's types
pub record IsCallOf (code : Code) (operands : List Val) (found : Option ℕ) (func : ℕ) (args : List Val) : Type 0 where
  pub given : args ≡ call_args operands found
  pub arguments : AreArguments code func args

-- the properties of control after an instruction: the activation goes on, or waits for the function that it calls with
-- its operands, or it returns as many results as the activation has
abbrev pub Keeps : Code → Frame → (operands : List Val) → (found : Option ℕ) → Control → Type 0
Keeps code frame operands found (Goes store next) = IsSameActivation frame next
Keeps code frame operands found (Calls waiting func args) =
    IsSameActivation frame waiting × IsCallOf code operands found func args
Keeps code frame operands found (Returns results) = length results ≡ frame.arity

-- an instruction that completes with this control in a first store changes that store as was observed; a second
-- execution completes alike in the other store, and changes it alike; and control has its properties
pub record IsDoneAlike (code : Code) (store other : Store) (seen : List Observation) (frame : Frame)
    (operands results : List Val) (found : Option ℕ) (control : Control) (second : Execution) : Type 0 where
  pub first_store : IsChangedAs store seen (left_store store control)
  pub second_store : IsChangedAs other seen (left_store other (in_store (with_changes other seen) control))
  pub same : second ≡ Did operands results found (in_store (with_changes other seen) control)
  pub kept : Keeps code frame operands found control

-- if a rule applies to the first of two executions, the second is the same: it traps with the same values, or
-- completes alike
abbrev pub IsExecutedAlike : Code → (store other : Store) → List Observation → Frame → Execution → Execution → Type 0
IsExecutedAlike code store other seen frame NoRule second = Unit {0}
IsExecutedAlike code store other seen frame (Traps kind operands found) second = second ≡ Traps kind operands found
IsExecutedAlike code store other seen frame (Did operands results found control) second =
    IsDoneAlike code store other seen frame operands results found control second
