-- What a result means, for an action in another spelling.
use Rattle.std.proofs.Common.{◌≡◌, ℕ, List, Result, sym, subst}
use Rattle.wasm_syntax.specs.declared.values.Val.{Val}
use Rattle.host_script.specs.declared.scripts.Action.{Action}
use Rattle.host_script.specs.declared.scripts.Action.TheVariants.{CallTable}
use Rattle.history_spec.specs.Store.{Store}
use Rattle.history_spec.specs.Code.{Code}
use Rattle.host_actions.specs.declared.actions.ActionEnd.{ActionEnd}
use Rattle.host_actions.specs.declared.actions.ActionFault.{ActionFault}
use Rattle.host_actions.specs.declared.addresses.Addresses.{Addresses}
use Rattle.host_actions.specs.Does.{Does}
use Rattle.host_actions.specs.Ready.{AreAddresses}

pub does_so : (code : Code) (old new : Store) (args : List Val) (result : Result ActionEnd ActionFault)
    (action same : Action) → action ≡ same
    → Does code args same result old new → Does code args action result old new
does_so code old new args result action same is does = subst (λ a. Does code args a result old new) (sym is) does

pub addresses_so : (args : List Val) (at : Addresses) (action same : Action) → action ≡ same
    → AreAddresses args action at → AreAddresses args same at
addresses_so args at action same is are = subst (λ a. AreAddresses args a at) is are

-- a call through the table, with its arguments in another spelling; it leaves the store as it was
pub calls_so : (code : Code) (store : Store) (args : List Val) (result : Result ActionEnd ActionFault) (action : Action)
    (index : ℕ) (given same : List Val) → action ≡ CallTable index given → same ≡ given
    → Does code args (CallTable index same) result store store → Does code args action result store store
calls_so code store args result action index given same is are does =
    does_so code store store args result action (CallTable index given) is
    (subst (λ g. Does code args (CallTable index g) result store store) are does)
