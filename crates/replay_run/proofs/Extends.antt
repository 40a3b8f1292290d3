-- A run whose lines are written so far, and a part after it.
use Rattle.std.proofs.Common.{◌≡◌, ℕ, ◌+◌, ◌-◌, ◌<◌, List, [], ◌∷◌, ◌++◌, refl, sym, ap, ◌∙◌, arith}
use Rattle.std.proofs.lemmas.List.{append-nil}
use Rattle.std.proofs.lemmas.List.Elements.{All-append}
use Rattle.wasm_syntax.specs.declared.modules.Module.{Module}
use Rattle.host_script.specs.declared.scripts.Action.{Action}
use Rattle.history_spec.specs.declared.entries.Entry.{Entry}
use Rattle.history_spec.specs.Budget.{IsSpent}
use Rattle.history_spec.specs.Configuration.{Activation, Config, Frame, InModule}
use Rattle.history_spec.specs.Replay.{instructions, program_alone}
use Rattle.history_spec.specs.Run.{Run, run_from, steps}
use Rattle.history_spec.specs.Step.{Progress, Running, StepResult, step}
use Rattle.type_safety.specs.Heights.{Heights}
use Rattle.replay_run_spec.specs.Laws.{ProjectionsRunAlong}
use Rattle.shown_lines.specs.ShownLines.{AreNoTraps, IsNoTrap, ShownLines}
use Rattle.wasm_interp.specs.Calls.{config_of}
use Rattle.wasm_interp.specs.State.{State}
use Rattle.replay_run.specs.declared.calls.CallStand.{CallStand}
use Rattle.replay_run.specs.declared.calls.CallStand.TheVariants as at
use Rattle.replay_run.specs.RunsSoFar.{GoesOn, Leads, LeadsOn, MakesStep, ShowsSoFar, StandsAt, WalksOutside}
use Rattle.host_play.proofs.Joins.{run_continued, run_of}
use Rattle.replay_run.proofs.ShownParts.{has_shown, trap_after}

-- where a call is, after a history without a trap
pub after_history : (m : Module) (heights : Heights) (actions : List Action) (stand : CallStand) (shown : ShownLines)
    (history entries : List Entry) (machine : State) (next : Progress)
    → AreNoTraps history → GoesOn m heights actions stand shown entries machine next → GoesOn m heights actions stand shown (history ++ entries) machine next
after_history m heights actions at.Instruction shown history entries machine next none goes = (goes.0, All-append IsNoTrap history entries none goes.1)
after_history m heights actions at.Returned shown history entries machine next none goes = (goes.0, All-append IsNoTrap history entries none goes.1)
after_history m heights actions (at.Trapped outcome) shown history entries machine next none goes =
    (goes.0, goes.1 ∙ sym (trap_after shown.layout history entries none))

module _ (law : ProjectionsRunAlong) (m : Module) (before actions : List Action) (initial : StepResult) (turns : ℕ)
    (stand : CallStand) (shown : ShownLines) (machine : State) (left : ℕ)
    (so : ShowsSoFar m before initial turns stand shown machine left) (none : AreNoTraps so.history) where
  -- more steps after a run so far
  pub extended : (count used : ℕ) (entries : List Entry) (next : Progress)
      → steps (program_alone m) instructions count so.next ≡ run_of entries used next
      → (after : CallStand) (after_shown : ShownLines) (after_machine : State) (after_left : ℕ)
      → used + after_left ≡ left → Leads m so.heights actions after shown after_shown after_machine entries next
      → ShowsSoFar m actions initial turns after after_shown after_machine after_left
  extended count used entries next run after after_shown after_machine after_left all leads =
      let spent : so.used + left ≡ turns = so.all in
      record {
        heights = so.heights;
        is_run = so.is_run;
        steps = so.steps + count;
        history = so.history ++ entries;
        used = so.used + used;
        next = next;
        run = run_continued (program_alone m) instructions initial so.steps count so.history entries so.used used so.next next so.run run;
        all = omega (arith, spent, all);
        prints = has_shown law shown after_shown so.history entries so.prints leads.shows leads.sets;
        goes_on = after_history m so.heights actions after after_shown so.history entries after_machine next none leads.goes_on;
      }

-- a run so far, within a number of turns that leaves another number
pub rebudgeted : (m : Module) (actions : List Action) (initial : StepResult) (turns : ℕ) (stand : CallStand)
    (shown : ShownLines) (machine : State) (left other : ℕ)
    → (so : ShowsSoFar m actions initial turns stand shown machine left)
    → ShowsSoFar m actions initial (so.used + other) stand shown machine other
rebudgeted m actions initial turns stand shown machine left other so =
    record {
      heights = so.heights;
      is_run = so.is_run;
      steps = so.steps;
      history = so.history;
      used = so.used;
      next = so.next;
      run = so.run;
      all = refl;
      prints = so.prints;
      goes_on = so.goes_on;
    }

-- ---- control is at an instruction

module _ (law : ProjectionsRunAlong) (m : Module) (actions : List Action) (initial : StepResult) (turns : ℕ)
    (shown : ShownLines) (machine : State) (left : ℕ)
    (so : ShowsSoFar m actions initial turns at.Instruction shown machine left) where
  abbrev frame : Frame
  frame = so.goes_on.0.frame

  abbrev below : List Activation
  below = so.goes_on.0.below

  abbrev config : Config
  config = config_of machine (InModule frame ∷ below) []

  pub stands_at : StandsAt m so.heights actions machine frame below
  stands_at = record { is_run = so.is_run; stands = so.goes_on.0.stands; going = so.goes_on.0.going; called = so.goes_on.0.called }

  -- the instruction at which the run is takes a turn
  pub stepped : (stand : CallStand) (after : ShownLines) (new : State) → 0 < left
      → MakesStep shown machine stand after new → ShowsSoFar m actions initial turns stand after new (left - 1)
  stepped stand after new some makes =
      let s : StepResult = step (program_alone m) config in
      let run : steps (program_alone m) instructions 1 so.next ≡ run_of s.entries 1 s.next =
      ap (steps (program_alone m) instructions 1) so.goes_on.0.same
      ∙ ap (λ es. run_of es 1 s.next) (append-nil s.entries) in
      extended law m actions actions initial turns at.Instruction shown machine left so so.goes_on.1 1 1 s.entries
      s.next run stand after new (left - 1) (omega (arith, some)) (makes m so.heights actions frame below stands_at)

  -- instructions outside the original
  pub walked : (stand : CallStand) (after : ShownLines) (new : State) (after_left : ℕ)
      → WalksOutside shown machine left stand after new after_left
      → ShowsSoFar m actions initial turns stand after new after_left
  walked stand after new after_left walks =
      let on : LeadsOn m so.heights actions (Running config) left stand shown after new after_left = walks m so.heights actions frame below stands_at in
      let run : steps (program_alone m) instructions on.count so.next ≡ run_of on.entries on.used on.next =
      ap (steps (program_alone m) instructions on.count) so.goes_on.0.same ∙ on.run in
      extended law m actions actions initial turns at.Instruction shown machine left so so.goes_on.1 on.count on.used
      on.entries on.next run stand after new after_left on.all on.leads

  -- if no turn is left for the instruction, the run is spent
  pub spent : left ≡ 0 → IsSpent (run_from (program_alone m) instructions initial) instructions turns
  spent none =
      let all : so.used + left ≡ turns = so.all in
      let used : so.used ≡ turns = omega (arith, all, none) in
      record {
        count = so.steps;
        config = config;
        standing = ap (λ (r : Run). r.at) so.run ∙ so.goes_on.0.same;
        used = ap (λ (r : Run). r.turns) so.run ∙ used;
        wants = omega arith;
      }
