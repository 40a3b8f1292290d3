-- A run that goes on has made no entry of a trap.
use Rattle.std.proofs.Common.{◌≡◌, ℕ, zero, suc, List, [], ◌∷◌, ◌++◌, Option, Some, None, Bool, true, false, nat_lt, slice_index, refl, sym, ap, ◌∙◌}
use Rattle.wasm_syntax.specs.declared.values.Val.{Val}
use Rattle.wasm_syntax.specs.declared.signatures.FuncType.{FuncType}
use Rattle.host_script.specs.declared.scripts.Response.{Response}
use Rattle.host_script.specs.declared.scripts.ResponseEnd.TheVariants.{Return, Trap as Refuses}
use Rattle.base.specs.declared.outcomes.Outcome.{Outcome}
use Rattle.base.specs.declared.outcomes.Outcome.TheVariants.{Ended, Trapped, HostTrapped}
use Rattle.history_spec.specs.declared.entries.Entry.{Entry}
use Rattle.history_spec.specs.declared.entries.Entry.TheVariants.{Trap}
use Rattle.history_spec.specs.Store.{Store}
use Rattle.history_spec.specs.Code.{Definition, signature, definition}
use Rattle.history_spec.specs.Configuration.{Frame, Activation, InModule, InMain, InImport, Config, with_results}
use Rattle.history_spec.specs.Instruction.{Control, Goes, Calls, Returns, Execution, Did, Traps, NoRule, execute}
use Rattle.history_spec.specs.Action.{ActionResult, Changes, Enters, Fails, Unfit, perform}
use Rattle.history_spec.specs.Settle.{AtEnd, Within, Gives, TooFew, at_end, return_entry, return_from, deliver}
use Rattle.history_spec.specs.Step.{Program, Progress, Running, Finished, Faulted, Stuck, after_control, after_instruction, after_action, call_function, answer_call, enter_defined, frame_of, response_to, step, step_of}
use Rattle.history_spec.specs.Run.{Meter, steps}
use Rattle.history_spec.specs.Projection.{Layout, shown_outcome, trap_outcome}

-- no entry is an entry of a trap
abbrev pub NoTraps : List Entry → Type 0
NoTraps [] = Unit {0}
NoTraps (Trap func number kind operands found ∷ later) = ⊥
NoTraps (entry ∷ later) = NoTraps later

-- ---- one step

return_quiet : (func : ℕ) (results : List Val) (below : List Activation) (later : List Entry) → NoTraps later
    → NoTraps (return_entry func results below ∷ later)
return_quiet func results [] later h = h
return_quiet func results (InModule frame ∷ below) later h = h
return_quiet func results (InMain actions ∷ below) later h = h
return_quiet func results (InImport import args actions end ∷ below) later h = h

settled_quiet : (stack : List Activation) (results : List Val) → NoTraps (deliver stack results).entries
settled_quiet [] results = tt
settled_quiet (InModule frame ∷ below) results =
    go (at_end (with_results frame results)) (λ given. settled_quiet below given)
  where
    go : (e : AtEnd) → ((given : List Val) → NoTraps (deliver below given).entries)
        → NoTraps (return_from e (with_results frame results) below (deliver below)).entries
    go Within later = tt
    go (Gives given) later =
        return_quiet (with_results frame results).func given below (deliver below given).entries (later given)
    go TooFew later = tt
settled_quiet (InMain [] ∷ below) results = tt
settled_quiet (InMain (action ∷ actions) ∷ below) results = tt
settled_quiet (InImport import args [] (Return None) ∷ below) results = settled_quiet below []
settled_quiet (InImport import args [] (Return (Some value)) ∷ below) results = settled_quiet below (value ∷ [])
settled_quiet (InImport import args [] Refuses ∷ below) results = tt
settled_quiet (InImport import args (action ∷ actions) end ∷ below) results = tt

entered_quiet : (ty : Option FuncType) (defined : Option Definition) (store : Store) (counts : List ℕ) (func : ℕ)
    (args : List Val) (stack : List Activation)
    → NoTraps (enter_defined ty defined store counts func args stack).entries
entered_quiet None defined store counts func args stack = tt
entered_quiet (Some ty) None store counts func args stack = tt
entered_quiet (Some ty) (Some defined) store counts func args stack =
    settled_quiet (InModule (frame_of func ty defined args) ∷ stack) []

answered_quiet : (response : Option Response) (store : Store) (counts : List ℕ) (import : ℕ) (args : List Val)
    (stack : List Activation) → NoTraps (answer_call response store counts import args stack).entries
answered_quiet None store counts import args stack = tt
answered_quiet (Some response) store counts import args stack =
    settled_quiet (InImport import args response.actions response.end ∷ stack) []

called_quiet : (program : Program) (imported : Bool) (store : Store) (counts : List ℕ) (func : ℕ) (args : List Val)
    (stack : List Activation) → NoTraps (call_function program imported store counts func args stack).entries
called_quiet program true store counts func args stack =
    answered_quiet (response_to program.answers func (slice_index counts func)) store counts func
    args stack
called_quiet program false store counts func args stack =
    entered_quiet (signature program.code func) (definition program.code func) store counts func args stack

controlled_quiet : (program : Program) (config : Config) (frame : Frame) (below : List Activation) (control : Control)
    → NoTraps (after_control program config frame below control).entries
controlled_quiet program config frame below (Goes store next) = settled_quiet (InModule next ∷ below) []
controlled_quiet program config frame below (Calls waiting func args) =
    called_quiet program (nat_lt func program.code.imported) config.store config.counts func args
    (InModule waiting ∷ below)
controlled_quiet program config frame below (Returns results) =
    return_quiet frame.func results below (deliver below results).entries (settled_quiet below results)

performed_quiet : (program : Program) (config : Config) (stack : List Activation) (result : ActionResult)
    → NoTraps (after_action program config stack result).entries
performed_quiet program config stack (Changes store) = settled_quiet stack []
performed_quiet program config stack (Enters func args) =
    entered_quiet (signature program.code func)
    (definition program.code func) config.store config.counts func args stack
performed_quiet program config stack (Fails kind) = tt
performed_quiet program config stack Unfit = tt

stepped_quiet : (program : Program) (config next : Config) (stack : List Activation)
    → (step_of program config stack).next ≡ Running next → NoTraps (step_of program config stack).entries
stepped_quiet program config next [] h = tt
stepped_quiet program config next (InModule frame ∷ below) h = go (execute program.code config.store frame) h
  where
    go : (e : Execution) → (after_instruction program config frame below e).next ≡ Running next
        → NoTraps (after_instruction program config frame below e).entries
    go (Did operands results found control) h = controlled_quiet program config frame below control
    go (Traps kind operands found) h = absurd (cc h)
    go NoRule h = tt
stepped_quiet program config next (InMain [] ∷ below) h = tt
stepped_quiet program config next (InMain (action ∷ actions) ∷ below) h =
    performed_quiet program config (InMain actions ∷ below) (perform program.code config.store [] action)
stepped_quiet program config next (InImport import args [] end ∷ below) h = tt
stepped_quiet program config next (InImport import args (action ∷ actions) end ∷ below) h =
    performed_quiet program config (InImport import args actions end ∷ below)
    (perform program.code config.store args action)

-- ---- more steps

both_quiet : (first second : List Entry) → NoTraps first → NoTraps second → NoTraps (first ++ second)
both_quiet [] second f s = s
both_quiet (entry ∷ first) second f s = go entry (λ f. both_quiet first second f s) f
  where
    go : (entry : Entry) → (NoTraps first → NoTraps (first ++ second)) → NoTraps (entry ∷ first)
        → NoTraps (entry ∷ (first ++ second))
    go (Trap func number kind operands found) later f = absurd f
    go entry later f = later f

abbrev IsOver : Progress → Type 0
IsOver (Running config) = ⊥
IsOver at = Unit {0}

-- a run that is over does not go on
still : (program : Program) (meter : Meter) (config : Config) (at : Progress) (k : ℕ)
    → (steps program meter k at).at ≡ Running config → IsOver at → ⊥
still program meter config (Running here) k h over = over
still program meter config (Finished outcome) zero h over = cc
still program meter config (Finished outcome) (suc k) h over = cc
still program meter config (Faulted kind) zero h over = cc
still program meter config (Faulted kind) (suc k) h over = cc
still program meter config Stuck zero h over = cc
still program meter config Stuck (suc k) h over = cc

pub run_quiet : (program : Program) (meter : Meter) (k : ℕ) (at : Progress) (config : Config)
    → (steps program meter k at).at ≡ Running config → NoTraps (steps program meter k at).history
run_quiet program meter zero at config h = tt
run_quiet program meter (suc k) (Running here) config h =
    go (step program here).next refl (run_quiet program meter k (step program here).next config h)
  where
    over : (next : Progress) → (step program here).next ≡ next → (steps program meter k next).at ≡ Running config
    over next e = ap (λ p. (steps program meter k p).at) (sym e) ∙ h

    go : (next : Progress) → (step program here).next ≡ next
        → NoTraps (steps program meter k (step program here).next).history
        → NoTraps ((step program here).entries ++ (steps program meter k (step program here).next).history)
    go (Running there) e later =
        both_quiet (step program here).entries (steps program meter k (step program here).next).history
        (stepped_quiet program here there here.stack e) later
    go (Finished outcome) e later =
        absurd (still program meter config (Finished outcome) k (over (Finished outcome) e) tt)
    go (Faulted kind) e later = absurd (still program meter config (Faulted kind) k (over (Faulted kind) e) tt)
    go Stuck e later = absurd (still program meter config Stuck k (over Stuck e) tt)
run_quiet program meter (suc k) (Finished outcome) config h = tt
run_quiet program meter (suc k) (Faulted kind) config h = tt
run_quiet program meter (suc k) Stuck config h = tt

-- entries without a trap do not change the outcome of those after them
trap_after : (layout : Layout) (first second : List Entry) → NoTraps first
    → trap_outcome layout (first ++ second) ≡ trap_outcome layout second
trap_after layout [] second quiet = refl
trap_after layout (entry ∷ first) second quiet = go entry (trap_after layout first second) quiet
  where
    go : (entry : Entry) → (NoTraps first → trap_outcome layout (first ++ second) ≡ trap_outcome layout second)
        → NoTraps (entry ∷ first) → trap_outcome layout (entry ∷ (first ++ second)) ≡ trap_outcome layout second
    go (Trap func number kind operands found) later quiet = absurd quiet
    go entry later quiet = later quiet

pub outcome_after : (layout : Layout) (first second : List Entry) (own : Outcome) → NoTraps first
    → shown_outcome layout (first ++ second) own ≡ shown_outcome layout second own
outcome_after layout first second Ended quiet = refl
outcome_after layout first second HostTrapped quiet = refl
outcome_after layout first second Trapped quiet = trap_after layout first second quiet
