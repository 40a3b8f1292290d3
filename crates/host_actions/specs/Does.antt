-- What an action of the host did, by the result of `perform`.
use Rattle.std.specs.Prelude.{◌≡◌, ℕ, List, [], Option, Some, None, Bool, true, false, IsTrue, Result, Ok, Err}
use Rattle.base.specs.declared.no_memory.NoMemory.{NoMemory}
use Rattle.history_spec.specs.declared.entries.FaultKind.TheVariants.{GrowRefused}
use Rattle.wasm_syntax.specs.declared.values.Val.{Val}
use Rattle.host_script.specs.declared.scripts.Action.{Action}
use Rattle.host_script.specs.declared.scripts.Action.TheVariants.{Write, Copy, SetTable, SetGlobal, Grow, GrowTable, Call, CallTable}
use Rattle.history_spec.specs.Store.{Store}
use Rattle.history_spec.specs.Code.{Code}
use Rattle.history_spec.specs.Action as history
use Rattle.history_spec.specs.Action.{Changes, Fails, perform}
use Rattle.host_actions.specs.declared.actions.ActionEnd.{ActionEnd}
use Rattle.host_actions.specs.declared.actions.ActionEnd.TheVariants.{Changed, Enters}
use Rattle.host_actions.specs.declared.actions.ActionFault.{ActionFault}
use Rattle.host_actions.specs.declared.actions.ActionFault.TheVariants.{Fault, Memory}

-- the arguments of a call, empty for other actions
abbrev pub args_in : Action → List Val
args_in (Write to bytes) = []
args_in (Copy to source count) = []
args_in (SetTable index func) = []
args_in (SetGlobal global value) = []
args_in (Grow by) = []
args_in (GrowTable by) = []
args_in (Call func given) = given
args_in (CallTable index given) = given

-- a growth alone takes memory
abbrev pub takes_memory : Action → Bool
takes_memory (Write to bytes) = false
takes_memory (Copy to source count) = false
takes_memory (SetTable index func) = false
takes_memory (SetGlobal global value) = false
takes_memory (Grow by) = true
takes_memory (GrowTable by) = true
takes_memory (Call func given) = false
takes_memory (CallTable index given) = false

-- the result of an action that grows a memory or a table
abbrev pub growth_result : Result (Option ℕ) NoMemory → Result ActionEnd ActionFault
growth_result (Ok (Some size)) = Ok Changed
growth_result (Ok None) = Err (Fault GrowRefused)
growth_result (Err fault) = Err Memory

-- the store is changed by the action; or it is as it was, and the host calls this function with the action's
-- arguments, or there is this fault, or an allocation failed
abbrev pub Does : Code → List Val → Action → Result ActionEnd ActionFault → (old new : Store) → Type 0
Does code args action (Ok Changed) old new = perform code old args action ≡ Changes new
Does code args action (Ok (Enters func)) old new =
    (perform code old args action ≡ history.Enters func (args_in action)) × (new ≡ old)
Does code args action (Err (Fault kind)) old new = (perform code old args action ≡ Fails kind) × (new ≡ old)
Does code args action (Err Memory) old new = IsTrue (takes_memory action) × (new ≡ old)
