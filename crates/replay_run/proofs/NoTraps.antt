-- A trap is the last entry of a run: no other step has a trap's entry.
use Rattle.std.proofs.Common.{◌≡◌, ℕ, List, [], ◌∷◌, refl, ◌⊎◌, inl, inr}
use Rattle.std.specs.Prelude.{Bool, Option, Some, None, nat_lt, true, false}
use Rattle.std.specs.Option.{option_to_list}
use Rattle.std.proofs.lemmas.List.Elements.{All-cons, All-nil}
use Rattle.wasm_syntax.specs.declared.values.Val.{Val}
use Rattle.wasm_syntax.specs.declared.signatures.FuncType.{FuncType}
use Rattle.host_script.specs.declared.scripts.Response.{Response}
use Rattle.host_script.specs.declared.scripts.ResponseEnd.TheVariants as by
use Rattle.base.specs.declared.outcomes.Outcome.TheVariants.{Trapped as ByTrap}
use Rattle.history_spec.specs.declared.entries.Entry.TheVariants.{Enter, HostTrap, ImportCall, ImportReturn, Step}
use Rattle.history_spec.specs.Store.{Store}
use Rattle.history_spec.specs.Code.{Code, Definition, definition, signature}
use Rattle.history_spec.specs.Configuration.{Activation, Config, Frame, InImport, InMain, InModule, with_results}
use Rattle.history_spec.specs.Instruction.{Calls, Control, Did, Execution, Goes, NoRule, Returns, Traps}
use Rattle.history_spec.specs.Settle.{AtEnd, Gives, SettleResult, TooFew, Within, at_end, deliver, return_entry, return_from, settle}
use Rattle.history_spec.specs.Step.{Finished, Program, after_control, after_instruction, answer_call, call_function, enter_defined, enter_function, frame_of, response_to}
use Rattle.std.specs.Prelude.{slice_index}
use Rattle.shown_lines.specs.ShownLines.{AreNoTraps, IsNoTrap, IsReturn, SetArguments}

none : AreNoTraps []
none = All-nil IsNoTrap

-- ---- returns

return_entry_none : (func : ℕ) (results : List Val) (below : List Activation) → IsNoTrap (return_entry func results below)
return_entry_none func results [] = tt
return_entry_none func results (InModule frame ∷ below) = tt
return_entry_none func results (InMain actions ∷ below) = tt
return_entry_none func results (InImport import args actions «end» ∷ below) = tt

return_none : (at : AtEnd) (frame : Frame) (below : List Activation) (go : List Val → SettleResult)
    → ((results : List Val) → AreNoTraps (go results).entries) → AreNoTraps (return_from at frame below go).entries
return_none Within frame below go are = none
return_none (Gives results) frame below go are =
    All-cons IsNoTrap (return_entry frame.func results below) (go results).entries
    (return_entry_none frame.func results below) (are results)
return_none TooFew frame below go are = none

deliver_none : (stack : List Activation) (results : List Val) → AreNoTraps (deliver stack results).entries
deliver_none [] results = none
deliver_none (InModule frame ∷ below) results =
    return_none (at_end (with_results frame results)) (with_results frame results) below (deliver below)
    (deliver_none below)
deliver_none (InMain [] ∷ below) results = none
deliver_none (InMain (action ∷ actions) ∷ below) results = none
deliver_none (InImport import args [] (by.Return value) ∷ below) results =
    All-cons IsNoTrap (ImportReturn import (option_to_list value)) (deliver below (option_to_list value)).entries tt (deliver_none below (option_to_list value))
deliver_none (InImport import args [] by.Trap ∷ below) results = All-cons IsNoTrap HostTrap [] tt none
deliver_none (InImport import args (action ∷ actions) «end» ∷ below) results = none

-- ---- calls

entered_none : (ty : Option FuncType) (defined : Option Definition) (store : Store) (counts : List ℕ) (func : ℕ)
    (args : List Val) (stack : List Activation)
    → AreNoTraps (enter_defined ty defined store counts func args stack).entries
entered_none None defined store counts func args stack = none
entered_none (Some ty) None store counts func args stack = none
entered_none (Some ty) (Some defined) store counts func args stack = deliver_none (InModule (frame_of func ty defined args) ∷ stack) []

pub enter_none : (code : Code) (store : Store) (counts : List ℕ) (func : ℕ) (args : List Val) (stack : List Activation)
    → AreNoTraps (enter_function code store counts func args stack).entries
enter_none code store counts func args stack = entered_none (signature code func) (definition code func) store counts func args stack

answer_none : (response : Option Response) (store : Store) (counts : List ℕ) (import : ℕ) (args : List Val)
    (stack : List Activation) → AreNoTraps (answer_call response store counts import args stack).entries
answer_none None store counts import args stack = none
answer_none (Some response) store counts import args stack =
    let after : List Activation = InImport import args response.actions response.«end» ∷ stack in
    All-cons IsNoTrap (ImportCall import args) (settle after).entries tt (deliver_none after [])

call_none : (program : Program) (import : Bool) (store : Store) (counts : List ℕ) (func : ℕ) (args : List Val)
    (stack : List Activation) → AreNoTraps (call_function program import store counts func args stack).entries
call_none program true store counts func args stack = answer_none (response_to program.answers func (slice_index counts func)) store counts func args stack
call_none program false store counts func args stack =
    All-cons IsNoTrap (Enter func) (enter_function program.code store counts func args stack).entries tt (enter_none program.code store counts func args stack)

-- ---- steps of the module

control_none : (program : Program) (config : Config) (frame : Frame) (below : List Activation) (does : Control)
    → AreNoTraps (after_control program config frame below does).entries
control_none program config frame below (Goes store next) = deliver_none (InModule next ∷ below) []
control_none program config frame below (Calls waiting func args) =
    call_none program (nat_lt func program.code.imported) config.store config.counts func args
    (InModule waiting ∷ below)
control_none program config frame below (Returns results) =
    All-cons IsNoTrap (return_entry frame.func results below) (deliver below results).entries
    (return_entry_none frame.func results below) (deliver_none below results)

-- an instruction has no trap, or ends the run by it
pub step_none : (program : Program) (config : Config) (frame : Frame) (below : List Activation) (exec : Execution)
    → AreNoTraps (after_instruction program config frame below exec).entries
    ⊎ ((after_instruction program config frame below exec).next ≡ Finished ByTrap)
step_none program config frame below (Did operands results found effect) =
    inl (All-cons IsNoTrap (Step frame.func frame.at.number operands results found)
    (after_control program config frame below effect).entries tt (control_none program config frame below effect))
step_none program config frame below (Traps kind operands found) = inr refl
step_none program config frame below NoRule = inl none

-- the entries of an instruction set the latest call's arguments
pub step_sets : (program : Program) (config : Config) (frame : Frame) (below : List Activation) (exec : Execution)
    → SetArguments (after_instruction program config frame below exec).entries
step_sets program config frame below (Did operands results found effect) = tt
step_sets program config frame below (Traps kind operands found) = refl
step_sets program config frame below NoRule = All-nil IsReturn
