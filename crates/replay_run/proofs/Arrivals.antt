-- Where the machine arrives, and where a call by the host is then.
use Rattle.std.proofs.Common.{◌≡◌, ◌≢◌, ◌<◌, List, [], ◌∷◌, ◌++◌, refl, sym, ap, ◌∙◌, subst, arith, ◌⊎◌, inl, inr}
use Rattle.std.specs.Prelude.{Option, Some, None}
use Rattle.std.proofs.lemmas.List.{append-nil}
use Rattle.wasm_syntax.specs.declared.modules.Module.{Module}
use Rattle.wasm_syntax.specs.Index.{imported_funcs}
use Rattle.host_script.specs.declared.scripts.Action.{Action}
use Rattle.host_script.specs.declared.scripts.ResponseEnd.TheVariants.{Trap}
use Rattle.base.specs.declared.outcomes.Outcome.TheVariants.{Trapped as ByTrap}
use Rattle.history_spec.specs.declared.entries.Entry.{Entry}
use Rattle.history_spec.specs.Store.{Store}
use Rattle.history_spec.specs.Configuration.{Activation, Frame, InModule, with_results}
use Rattle.history_spec.specs.Projection.{trap_outcome}
use Rattle.history_spec.specs.Replay.{program_alone}
use Rattle.history_spec.specs.Settle.{Continues, at_end, deliver, return_from, settle, settle_result}
use Rattle.history_spec.specs.Step.{Finished, Running, StepResult, after_entries, after_settling, progress_of}
use Rattle.type_safety.specs.Configurations.{IsGoing}
use Rattle.type_safety.specs.Heights.{Heights}
use Rattle.type_safety.proofs.SettleEnds.{going_within, leaves_none}
use Rattle.wasm_interp.specs.Calls.{Comes, IsRun, config_of}
use Rattle.wasm_interp.specs.OwnSteps.{IsReturnPause}
use Rattle.wasm_interp.specs.State.{StandsFor, State}
use Rattle.wasm_interp.specs.declared.machine.Pause.{Pause}
use Rattle.wasm_interp.specs.declared.machine.Pause.TheVariants as pause
use Rattle.replay_run.specs.RunsSoFar.{GoesOn, IsOwnPause, host, stand_of}
use Rattle.shown_lines.specs.ShownLines.{AreNoTraps, ShownLines}

-- ---- the host's own part

host_prints_none : (actions : List Action) → (settle (host actions)).entries ≡ []
host_prints_none [] = refl
host_prints_none (action ∷ actions) = refl

host_ends : (store : Store) (actions : List Action) → progress_of store [] (settle (host actions)).next ≢ Finished ByTrap
host_ends store [] is = cc
host_ends store (action ∷ actions) is = cc

-- ---- an activation that is not at the end of its body goes on as it is

unchanged : (frame : Frame) → IsGoing frame.at.rest → with_results frame [] ≡ frame
unchanged frame going =
    let left = leaves_none frame.labels frame.values frame.at.rest frame.at.number going in
    ap (λ p. record frame { values = p.values; labels = p.labels; at = p.at }) left

pub going_settles : (frame : Frame) (below : List Activation) → IsGoing frame.at.rest
    → settle (InModule frame ∷ below) ≡ settle_result [] (Continues (InModule frame ∷ below))
going_settles frame below going =
    ap (λ f. return_from (at_end f) f below (deliver below)) (unchanged frame going)
    ∙ ap (λ e. return_from e frame below (deliver below)) (going_within frame.at.rest frame going)

-- ---- where the machine arrives

module _ (m : Module) (heights : Heights) (actions : List Action) (outside : List Activation)
    (is_run : IsRun m heights (program_alone m) []) (called : outside ≡ host actions) (entries : List Entry)
    (machine : State) (s : StepResult) where
  -- a module without imports calls no import
  pub own_pause : (where_to : Option Pause) → Comes m heights (program_alone m) outside [] where_to entries machine s → IsOwnPause where_to
  own_pause None comes = tt
  own_pause (Some (pause.Import index)) comes =
      let stands = comes.stands [] Trap (λ k d below. absurd (omega arith)) tt in
      let there : index < imported_funcs m = stands.holds.laid.2 in
      let none : 0 ≡ imported_funcs m = is_run.counted in
      absurd (omega (arith, there, none))
  own_pause (Some pause.Returned) comes = tt
  own_pause (Some pause.Trapped) comes = tt
  own_pause (Some pause.Spent) comes = absurd comes

  -- without a trap: the entries are the step's, and the call is at its place after every history without a trap
  pub arrives_on : (shown : ShownLines) (where_to : Option Pause) → IsReturnPause where_to
      → Comes m heights (program_alone m) outside [] where_to entries machine s
      → (s.entries ≡ entries) × ((history printed : List Entry) → AreNoTraps history
      → GoesOn m heights actions (stand_of shown.layout where_to printed) shown history machine s.next)
  arrives_on shown None own comes = (
    ap (λ (r : StepResult). r.entries) comes.same,
    λ history printed none. (
      record {
        frame = comes.frame;
        below = comes.below;
        stands = comes.stands;
        going = comes.going;
        called = comes.same_outside ∙ called;
        same = ap (λ (r : StepResult). r.next) comes.same;
      },
      none,
    ),
  )
  arrives_on shown (Some pause.Returned) own comes =
      let same : s ≡ after_entries entries (after_settling machine.store [] (settle (host actions))) =
      subst (λ o. s ≡ after_entries entries (after_settling machine.store [] (settle o))) called comes.same in (
        ap (λ (r : StepResult). r.entries) same ∙ ap (λ es. entries ++ es) (host_prints_none actions) ∙ append-nil entries,
        λ history printed none. (
          record {
            stands = subst (λ o. StandsFor m heights o machine) called comes.stands;
            same = ap (λ (r : StepResult). r.next) same;
          },
          none,
        ),
      )
  arrives_on shown (Some pause.Trapped) own comes = absurd own
  arrives_on shown (Some (pause.Import index)) own comes = absurd own
  arrives_on shown (Some pause.Spent) own comes = absurd own

  -- a step that does not end by a trap has no trap
  untrapped : (where_to : Option Pause) → IsReturnPause where_to
      → Comes m heights (program_alone m) outside [] where_to entries machine s → s.next ≢ Finished ByTrap
  untrapped None own comes trapped =
      let bad : Running (config_of machine (InModule comes.frame ∷ comes.below) []) ≡ Finished ByTrap =
      sym (ap (λ (r : StepResult). r.next) comes.same) ∙ trapped in
      cc
  untrapped (Some pause.Returned) own comes trapped =
      let same : s ≡ after_entries entries (after_settling machine.store [] (settle (host actions))) =
      subst (λ o. s ≡ after_entries entries (after_settling machine.store [] (settle o))) called comes.same in
      host_ends machine.store actions (sym (ap (λ (r : StepResult). r.next) same) ∙ trapped)
  untrapped (Some pause.Trapped) own comes trapped = absurd own
  untrapped (Some (pause.Import index)) own comes trapped = absurd own
  untrapped (Some pause.Spent) own comes trapped = absurd own

  no_traps : (where_to : Option Pause) → IsReturnPause where_to
      → Comes m heights (program_alone m) outside [] where_to entries machine s
      → AreNoTraps s.entries ⊎ (s.next ≡ Finished ByTrap) → AreNoTraps s.entries
  no_traps where_to own comes (inl none) = none
  no_traps where_to own comes (inr trapped) = absurd (untrapped where_to own comes trapped)

  -- for a step: the entries are the step's, and the call is at its place
  pub arrives : (shown : ShownLines) (where_to : Option Pause)
      → Comes m heights (program_alone m) outside [] where_to entries machine s
      → AreNoTraps s.entries ⊎ (s.next ≡ Finished ByTrap)
      → (s.entries ≡ entries) × GoesOn m heights actions (stand_of shown.layout where_to entries) shown s.entries machine s.next
  arrives shown None comes traps = let a = arrives_on shown None tt comes in (a.0, a.1 s.entries entries (no_traps None tt comes traps))
  arrives shown (Some (pause.Import index)) comes traps = absurd (own_pause (Some (pause.Import index)) comes)
  arrives shown (Some pause.Returned) comes traps =
      let a = arrives_on shown (Some pause.Returned) tt comes in (a.0, a.1 s.entries entries (no_traps (Some pause.Returned) tt comes traps))
  arrives shown (Some pause.Trapped) comes traps =
      let printed : s.entries ≡ entries = ap (λ (r : StepResult). r.entries) comes in (
        printed,
        (ap (λ (r : StepResult). r.next) comes, ap (trap_outcome shown.layout) (sym printed)),
      )
  arrives shown (Some pause.Spent) comes traps = absurd comes
