-- The run of a replay module: how it begins, how its entry is called, and how it ends.
use Rattle.std.proofs.Common.{◌≡◌, ℕ, ◌+◌, List, [], ◌∷◌, refl, sym, ap, ◌∙◌, subst, arith}
use Rattle.std.specs.Prelude.{Ok, Option, Some}
use Rattle.std.proofs.lemmas.Bool.{le-ltb}
use Rattle.std.proofs.lemmas.List.{append-nil}
use Rattle.wasm_syntax.specs.declared.modules.Module.{Module}
use Rattle.wasm_syntax.specs.Index.{imported_funcs}
use Rattle.host_script.specs.declared.scripts.Action.{Action}
use Rattle.host_script.specs.declared.scripts.Action.TheVariants.{Call}
use Rattle.base.specs.declared.outcomes.Outcome.{Outcome}
use Rattle.base.specs.declared.outcomes.Outcome.TheVariants.{Ended, Trapped as ByTrap}
use Rattle.history_spec.specs.Configuration.{InMain}
use Rattle.history_spec.specs.Replay.{instructions, program_alone}
use Rattle.history_spec.specs.Run.{steps}
use Rattle.history_spec.specs.Step.{Finished, StepResult, start, start_with_call}
use Rattle.type_safety.specs.Heights.{Heights}
use Rattle.replay_run_spec.specs.Laws.{ProjectionsRunAlong}
use Rattle.host_play.proofs.Joins.{run_of}
use Rattle.shown_lines.specs.ShownLines.{HasShown, ShownLines}
use Rattle.wasm_interp.specs.Laws.{HostsGoOn}
use Rattle.wasm_interp.specs.State.{State}
use Rattle.replay_run.specs.declared.calls.CallStand.{CallStand}
use Rattle.replay_run.specs.declared.calls.CallStand.TheVariants as at
use Rattle.replay_run.specs.RunsSoFar.{BeginsCall, BeginsRun, EndsBy, EntersEntry, GoesFrom, IsOver, IsReady, Leads, ShowsSoFar, call_by_host, main_of}
use Rattle.replay_run.proofs.Extends.{extended}
use Rattle.replay_run.proofs.ShownParts.{has_shown}

-- the start function is called
pub run_begun : ProjectionsRunAlong → (entry func : ℕ) (old new : ShownLines) (machine after : State)
    (stand : CallStand) → BeginsCall old machine func stand new after
    → (m : Module) (heights : Heights) (turns : ℕ) → IsReady m heights (Some func) entry machine → HasShown old []
    → ShowsSoFar m (main_of entry) (start (program_alone m) (Some func) machine.store [] (main_of entry)) turns stand new after turns
run_begun law entry func old new machine after stand begins m heights turns ready has =
    let main : List Action = main_of entry in
    let s : StepResult = call_by_host m machine.store func main in
    let same : start (program_alone m) (Some func) machine.store [] main ≡ s =
    ap (λ b. start_with_call (program_alone m) b machine.store [] func (InMain main ∷ []))
    (le-ltb func (imported_funcs m) ready.start_function.defined) in
    let leads : Leads m heights main stand old new after s.entries s.next =
    begins m heights main (record { is_run = ready.is_run; stands = ready.stands; takes = ready.start_function }) in
    subst (λ initial. ShowsSoFar m main initial turns stand new after turns) (sym same)
    (record {
      heights = heights;
      is_run = ready.is_run;
      steps = 0;
      history = s.entries;
      used = 0;
      next = s.next;
      run = ap (λ es. run_of es 0 s.next) (append-nil s.entries);
      all = omega arith;
      prints = has_shown law old new [] s.entries has leads.shows leads.sets;
      goes_on = leads.goes_on;
    })

-- the entry is called, by a step that takes no turn
pub entry_entered : ProjectionsRunAlong → HostsGoOn → (entry : ℕ) (old new : ShownLines) (machine after : State)
    (stand : CallStand) → BeginsCall old machine entry stand new after → EntersEntry entry old machine stand new after
entry_entered law hosts entry old new machine after stand begins m initial turns left takes so =
    let s : StepResult = call_by_host m machine.store entry [] in
    let leads : Leads m so.heights [] stand old new after s.entries s.next =
    begins m so.heights [] (record { is_run = so.is_run; stands = hosts m so.heights (Call entry []) [] [] machine so.goes_on.0.stands; takes = takes }) in
    let run : steps (program_alone m) instructions 1 so.next ≡ run_of s.entries 0 s.next =
    ap (steps (program_alone m) instructions 1) so.goes_on.0.same
    ∙ ap (λ es. run_of es 0 s.next) (append-nil s.entries) in
    extended law m (main_of entry) [] initial turns at.Returned old machine left so so.goes_on.1 1 0 s.entries s.next
    run stand new after left (omega arith) leads

-- ---- ends

pub is_returned : (stand : CallStand) → IsOver stand → ((outcome : Outcome) → stand ≡ at.Trapped outcome → ⊥) → stand ≡ at.Returned
is_returned at.Instruction over not = absurd over
is_returned at.Returned over not = refl
is_returned (at.Trapped outcome) over not = absurd (not outcome refl)

-- after the start function the entry is called
module _ (first : Option ℕ) (entry given : ℕ) (old : ShownLines) (machine : State) (stand : CallStand)
    (begun : ShownLines) (begun_machine : State) (begins : BeginsRun first entry old machine stand begun begun_machine)
    (called : CallStand) (shown : ShownLines) (after : State) (left : ℕ)
    (goes : GoesFrom stand begun begun_machine given (Ok called) shown after left) (over : IsOver called)
    (not : (outcome : Outcome) → called ≡ at.Trapped outcome → ⊥)
    (m : Module) (heights : Heights) (ready : IsReady m heights first entry machine) (has : HasShown old []) where
  abbrev pub initial : StepResult
  initial = start (program_alone m) first machine.store [] (main_of entry)

  pub start_returned : ShowsSoFar m (main_of entry) initial given at.Returned shown after left
  start_returned =
      subst (λ st. ShowsSoFar m (main_of entry) initial given st shown after left) (is_returned called over not)
      (goes m (main_of entry) initial given (begins m heights given ready has))

  pub entered : (second : CallStand) (entered_shown : ShownLines) (entered_machine : State)
      → EntersEntry entry shown after second entered_shown entered_machine
      → ShowsSoFar m [] initial given second entered_shown entered_machine left
  entered second entered_shown entered_machine enters = enters m initial given left ready.entry_function start_returned

pub ended_trapped : (m : Module) (actions : List Action) (initial : StepResult) (turns : ℕ) (outcome : Outcome)
    (shown : ShownLines) (machine : State) (left : ℕ)
    → ShowsSoFar m actions initial turns (at.Trapped outcome) shown machine left
    → EndsBy m initial turns outcome shown left
ended_trapped m actions initial turns outcome shown machine left so =
    let all : so.used + left ≡ turns = so.all in
    record {
      run = run_of so.history so.used (Finished ByTrap);
      within = record { count = so.steps; is_run = so.run ∙ ap (run_of so.history so.used) so.goes_on.0; over = tt; in_budget = omega (arith, all) };
      own = ByTrap;
      ended = refl;
      outcome_is = so.goes_on.1;
      prints = so.prints;
      all = all;
    }

pub ended_returned : (m : Module) (initial : StepResult) (turns : ℕ) (shown : ShownLines) (machine : State) (left : ℕ)
    → ShowsSoFar m [] initial turns at.Returned shown machine left → EndsBy m initial turns Ended shown left
ended_returned m initial turns shown machine left so =
    let all : so.used + left ≡ turns = so.all in
    record {
      run = run_of so.history so.used (Finished Ended);
      within = record { count = so.steps; is_run = so.run ∙ ap (run_of so.history so.used) so.goes_on.0.same; over = tt; in_budget = omega (arith, all) };
      own = Ended;
      ended = refl;
      outcome_is = refl;
      prints = so.prints;
      all = all;
    }
