-- The parts of a call by the host: its beginning, an instruction, and instructions outside the original.
use Rattle.std.proofs.Common.{◌≡◌, ◌≢◌, ℕ, List, [], ◌∷◌, ◌++◌, refl, sym, ap, ◌∙◌, subst, inl, zero-add}
use Rattle.std.specs.Prelude.{All}
use Rattle.std.proofs.lemmas.List.Elements.{All-append, All-cons, All-head, All-nil, All-tail}
use Rattle.wasm_syntax.specs.declared.modules.Module.{Module}
use Rattle.host_script.specs.declared.scripts.Action.{Action}
use Rattle.history_spec.specs.declared.entries.Entry.{Entry}
use Rattle.history_spec.specs.declared.entries.Entry.TheVariants.{Exit, HostCall, HostReturn, Step}
use Rattle.history_spec.specs.Code.{code_of}
use Rattle.history_spec.specs.Configuration.{Config, InModule}
use Rattle.history_spec.specs.Instruction.{execute}
use Rattle.history_spec.specs.Projection.{Original, side}
use Rattle.history_spec.specs.Replay.{instructions, program_alone}
use Rattle.history_spec.specs.Run.{Run, run_after, steps}
use Rattle.history_spec.specs.Settle.{settle}
use Rattle.history_spec.specs.Step.{Progress, Running, StepResult, after_settling, enter_function, step, step_result}
use Rattle.type_safety.specs.Heights.{Heights}
use Rattle.type_safety.specs.Stores.{func_count}
use Rattle.type_safety.specs.Values.{AreValues}
use Rattle.flat_steps.specs.Follows.{outside_of}
use Rattle.replay_run_spec.specs.Inside.{args_after_all}
use Rattle.replay_run_spec.specs.Laws.{ProjectionsRunAlong}
use Rattle.host_play.proofs.Joins.{run_of}
use Rattle.shown_lines.specs.ShownLines.{AreNoTraps, IsNoTrap, IsReturn, SetArguments, ShownLines, Shows}
use Rattle.wasm_interp.specs.Calls.{Comes, Enters, InvokesRun, SettlesRun, TurnIsStep, WalksRun, config_of}
use Rattle.wasm_interp.specs.Frames.{func_of}
use Rattle.wasm_interp.specs.OwnSteps.{IsReturn as IsReturnEntry, IsStepOf}
use Rattle.wasm_interp.specs.State.{State}
use Rattle.wasm_interp.specs.declared.machine.Turn.{Turn}
use Rattle.replay_run.specs.declared.calls.CallStand.{CallStand}
use Rattle.replay_run.specs.declared.calls.CallStand.TheVariants as at
use Rattle.replay_run.specs.RunsSoFar.{CanCall, GoesOn, IsOutside, IsOwnPause, IsShown, Leads, MakesStep, WalksOutside, call_by_host, host, stand_of}
use Rattle.replay_run.proofs.Arrivals.{arrives, arrives_on, going_settles, own_pause}
use Rattle.replay_run.proofs.Extends.{after_history}
use Rattle.replay_run.proofs.NoTraps.{enter_none, step_none, step_sets}
use Rattle.replay_run.proofs.ShownParts.{returns_show, shows_joined, shows_nothing}

module _ (turn : Turn) (before after : State) (is : TurnIsStep before turn after) where
  -- ---- an instruction

  pub step_made : (old new : ShownLines) (stand : CallStand) → Shows old new [] turn.entries
      → stand ≡ stand_of old.layout turn.pause turn.entries → MakesStep old before stand new after
  step_made old new stand shows stands m heights actions frame below here =
      let config : Config = config_of before (InModule frame ∷ below) [] in
      let s : StepResult = step (program_alone m) config in
      let comes : Comes m heights (program_alone m) (outside_of below) [] turn.pause turn.entries after s =
      is m heights (program_alone m) [] frame below here.is_run here.stands here.going in
      let a = arrives m heights actions (outside_of below) here.is_run here.called turn.entries after s new turn.pause
      comes (step_none (program_alone m) config frame below (execute (code_of m) before.store frame)) in
      let same : stand ≡ stand_of new.layout turn.pause turn.entries = stands ∙ ap (λ l. stand_of l turn.pause turn.entries) (sym shows.same_layout) in
      record {
        shows = subst (Shows old new []) (sym a.0) shows;
        sets = step_sets (program_alone m) config frame below (execute (code_of m) before.store frame);
        goes_on = subst (λ st. GoesOn m heights actions st new s.entries after s.next) (sym same) a.1;
      }

  pub step_pause : (shown : ShownLines) → IsShown at.Instruction shown before → IsOwnPause turn.pause
  step_pause shown (m, actions, initial, turns, left, so) =
      let stood = so.goes_on.0 in
      own_pause m so.heights actions (outside_of stood.below) so.is_run stood.called turn.entries after
      (step (program_alone m) (config_of before (InModule stood.frame ∷ stood.below) [])) turn.pause
      (is m so.heights (program_alone m) [] stood.frame stood.below so.is_run stood.stands stood.going)

-- ---- the beginning

module _ (func : ℕ) (turn : Turn) (before called after : State) (invokes : InvokesRun before func [] called)
    (settles : SettlesRun called turn after) (m : Module) (heights : Heights) (actions : List Action)
    (can : CanCall m heights actions before func) where
  abbrev entered : StepResult
  entered = enter_function (code_of m) before.store [] func [] (host actions)

  enters : Enters m heights [] (host actions) func [] before called
  enters =
      invokes m heights [] (host actions) can.takes.ty can.is_run.code tt can.stands can.takes.defined can.takes.has_type
      (subst (λ types. AreValues (func_count m) types []) (sym can.takes.none) tt)

  call_comes : Comes m heights (program_alone m) (host actions) [] turn.pause turn.entries after entered
  call_comes =
      subst (Comes m heights (program_alone m) (host actions) [] turn.pause turn.entries after)
      (ap (λ store. after_settling store [] (settle (InModule enters.frame ∷ host actions))) enters.store ∙ sym enters.same)
      (settles m heights (program_alone m) [] enters.frame (host actions) can.is_run enters.stands)

  pub call_made : ProjectionsRunAlong → (old mid new : ShownLines) (stand : CallStand)
      → Shows old mid [] (HostCall func [] ∷ []) → Shows mid new [] turn.entries
      → stand ≡ stand_of mid.layout turn.pause turn.entries
      → Leads m heights actions stand old new after (call_by_host m before.store func actions).entries (call_by_host m before.store func actions).next
  call_made law old mid new stand first second stands =
      let a = arrives m heights actions (host actions) can.is_run refl turn.entries after entered new turn.pause
      call_comes (inl (enter_none (code_of m) before.store [] func [] (host actions))) in
      let same : stand ≡ stand_of new.layout turn.pause turn.entries = stands ∙ ap (λ l. stand_of l turn.pause turn.entries) (sym second.same_layout) in
      let goes : GoesOn m heights actions stand new entered.entries after entered.next =
      subst (λ st. GoesOn m heights actions st new entered.entries after entered.next) (sym same) a.1 in
      record {
        shows =
            subst (λ es. Shows old new [] (HostCall func [] ∷ es)) (sym a.0)
            (shows_joined law old mid new (HostCall func [] ∷ []) turn.entries first second (λ inside. refl));
        sets = tt;
        goes_on =
            after_history m heights actions stand new (HostCall func [] ∷ []) entered.entries after entered.next
            (All-cons IsNoTrap (HostCall func []) [] tt (All-nil IsNoTrap)) goes;
      }

-- ---- instructions outside the original

returns_as : (entries : List Entry) → All IsReturnEntry entries → All IsReturn entries
returns_as [] are = All-nil IsReturn
returns_as (Exit func results ∷ rest) are =
    All-cons IsReturn (Exit func results) rest tt
    (returns_as rest (All-tail IsReturnEntry (Exit func results) rest are))
returns_as (HostReturn func results ∷ rest) are =
    All-cons IsReturn (HostReturn func results) rest tt
    (returns_as rest (All-tail IsReturnEntry (HostReturn func results) rest are))
returns_as (entry ∷ rest) are = absurd (All-head IsReturnEntry entry rest are)

returns_set : (entries : List Entry) → All IsReturn entries → SetArguments entries
returns_set [] are = are
returns_set (Exit func results ∷ rest) are = are
returns_set (HostReturn func results ∷ rest) are = are
returns_set (entry ∷ rest) are = absurd (All-head IsReturn entry rest are)

steps_set : (func : ℕ) (own entries : List Entry) → All (IsStepOf func) own → All IsReturn entries → SetArguments (own ++ entries)
steps_set func [] entries steps are = returns_set entries are
steps_set func (Step other number operands results found ∷ own) entries steps are = tt
steps_set func (entry ∷ own) entries steps are = absurd (All-head (IsStepOf func) entry own steps)

returns_none : (entries : List Entry) → All IsReturn entries → AreNoTraps entries
returns_none [] are = All-nil IsNoTrap
returns_none (Exit func results ∷ rest) are = All-cons IsNoTrap (Exit func results) rest tt (returns_none rest (All-tail IsReturn (Exit func results) rest are))
returns_none (HostReturn func results ∷ rest) are =
    All-cons IsNoTrap (HostReturn func results) rest tt
    (returns_none rest (All-tail IsReturn (HostReturn func results) rest are))
returns_none (entry ∷ rest) are = absurd (All-head IsReturn entry rest are)

steps_none : (func : ℕ) (own : List Entry) → All (IsStepOf func) own → AreNoTraps own
steps_none func [] steps = All-nil IsNoTrap
steps_none func (Step other number operands results found ∷ own) steps =
    All-cons IsNoTrap (Step other number operands results found) own tt
    (steps_none func own (All-tail (IsStepOf func) (Step other number operands results found) own steps))
steps_none func (entry ∷ own) steps = absurd (All-head (IsStepOf func) entry own steps)

pub walk_made : ProjectionsRunAlong → (turn : Turn) (before after : State) (given left : ℕ)
    → WalksRun before given turn left after → (old new : ShownLines) (stand : CallStand) → IsOutside old.layout before
    → Shows old new [] turn.entries → stand ≡ stand_of old.layout turn.pause turn.entries → WalksOutside old before given stand new after left
walk_made law turn before after given left walks old new stand is_outside shows stands m heights actions frame below here =
    let first : Progress = Running (config_of before (InModule frame ∷ below) []) in
    let starts : after_settling before.store [] (settle (InModule frame ∷ below)) ≡ step_result [] first =
    ap (after_settling before.store []) (going_settles frame below here.going) in
    let part = walks m heights (program_alone m) instructions [] frame below here.is_run (λ f n. refl) here.stands in
    let returns : All IsReturn turn.entries = returns_as turn.entries part.returns.each in
    let a = arrives_on m heights actions (outside_of below) here.is_run here.called part.entries after part.last new turn.pause part.returns.pause part.comes in
    let printed : part.before ++ part.last.entries ≡ part.own ++ turn.entries = ap (λ es. part.before ++ es) a.0 ∙ part.recorded in
    let none : AreNoTraps (part.own ++ turn.entries) = All-append IsNoTrap part.own turn.entries
    (steps_none frame.func part.own part.steps) (returns_none turn.entries returns) in
    let outside : side old.layout frame.func ≢ Original = is_outside frame.func (ap func_of here.stands.holds.image.same_frames) in
    let both : Shows old new [] (part.own ++ turn.entries) =
    shows_joined law old old new part.own turn.entries (shows_nothing old frame.func part.own outside part.steps) shows
    (λ inside. returns_show old.layout inside (args_after_all [] part.own) [] turn.entries returns) in
    let same : stand ≡ stand_of new.layout turn.pause turn.entries = stands ∙ ap (λ l. stand_of l turn.pause turn.entries) (sym shows.same_layout) in
    let made : Run = steps (program_alone m) instructions part.count first in
    let run : run_after [] 0 made ≡ run_of (part.before ++ part.last.entries) part.taken part.last.next =
    sym (ap (λ (s : StepResult). run_after s.entries 0 (steps (program_alone m) instructions part.count s.next)) starts) ∙ part.run in
    let turns : made.turns ≡ part.taken = sym (zero-add made.turns) ∙ ap (λ (r : Run). r.turns) run in
    record {
      count = part.count;
      entries = part.before ++ part.last.entries;
      used = part.taken;
      next = part.last.next;
      run = λ i. record { history = (run i).history; turns = turns i; at = (run i).at };
      all = part.all;
      leads = record {
        shows = subst (Shows old new []) (sym printed) both;
        sets = subst SetArguments (sym printed) (steps_set frame.func part.own turn.entries part.steps returns);
        goes_on =
            subst (λ st. GoesOn m heights actions st new (part.before ++ part.last.entries) after part.last.next) (sym same)
            (a.1 (part.before ++ part.last.entries) turn.entries (subst AreNoTraps (sym printed) none));
      };
    }
