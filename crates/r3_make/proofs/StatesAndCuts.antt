-- The module that begins with what is frozen, and the cut of the tape.
use Rattle.std.proofs.Common.{◌≡◌, ℕ, Some, Result, Ok, Err, IfOk, sym, ◌∙◌, ap, subst}
use Rattle.std.specs.Prelude.{IsSome}
use Rattle.trace_model.specs.declared.tapes.Tape.{Tape}
use Rattle.recorder.specs.FrozenViews.{FrozenView}
use Rattle.tape_laws.specs.CallLaws.{OriginalRun}
use Rattle.rest_spec.specs.Cuts.{cut_of}
use Rattle.rest_spec.specs.StateModules.{state_module_of, state_supply_of}
use Rattle.rest_laws.specs.KnownStores.{KnownStoresAreTyped}
use Rattle.state_laws.specs.Valid.{IsStateOf}
use Rattle.rest_theorem.specs.States.{IsRestOfStates, RestsAreReplayedFromStates, state_at}
use Rattle.checkpoint.specs.FrozenLaws.{FrozenStatesAreKnown}
use Rattle.checkpoint.specs.FrozenStates.{state_of_frozen}
use Rattle.replay_theorem.specs.Laws.{NeededTapesArePlayable}
use Rattle.r3_faults.specs.declared.faults.Fault.{Fault}
use Rattle.r3_make.specs.declared.states_and_cuts.StateAndCut.{StateAndCut}
use Rattle.r3_make.specs.FrozenTapes.{IsFrozenTape}
use Rattle.r3_make.specs.StatesAndCuts.{AreStateAndCut}
use Rattle.r3_make.proofs.Rests.{count, frozen_state, is_state, is_there, replayed}

module _ (run : OriginalRun) (turns number : ℕ) (tape : Tape) (view : FrozenView)
    (is : IsFrozenTape run turns number tape view) (playable : NeededTapesArePlayable)
    (replays : RestsAreReplayedFromStates) where
  r : IsRestOfStates run.m run.script run.supply run.store
      (count run.m run.script turns number run.supply run.store tape is.needed is.light is.rest is.is_rest run.runnable run.fits)
      number tape is.rest is.needed.outcome
  r = replayed run.m run.script turns number run.supply run.store tape is.needed is.light is.rest is.is_rest run.runnable
      run.fits run.core playable replays

  pub cut_there : IsSome (cut_of number 0 tape.segments)
  cut_there = is_there (cut_of number 0 tape.segments) r.cut r.is_cut

  module _ (typed : KnownStoresAreTyped) (law : FrozenStatesAreKnown) where
    same_state : state_of_frozen view ≡ state_at run.m is.known
    same_state =
        frozen_state run.m run.script turns number run.supply run.store tape is.needed is.light is.rest is.is_rest
        run.runnable run.fits is.known is.is_known r typed law view is.shows is.imports

    pub state_frozen : IsStateOf run.m run.supply (state_of_frozen view)
    state_frozen =
        subst (IsStateOf run.m run.supply) (sym same_state)
        (is_state run.m run.script turns number run.supply run.store tape is.needed is.light is.rest is.is_rest
        run.runnable run.fits is.known is.is_known r)

    pub parts_are : (result : Result StateAndCut Fault)
        → IfOk result (λ parts. (parts.«module» ≡ state_module_of run.m (state_of_frozen view))
        × (parts.supply ≡ state_supply_of run.supply (state_of_frozen view))
        × (cut_of number 0 tape.segments ≡ Some parts.cut.segments))
        → IfOk result (λ parts.
        AreStateAndCut run.m run.script turns number run.supply parts.«module» parts.supply parts.cut)
    parts_are (Ok parts) made =
        record {
          store = run.store;
          tape = tape;
          needed = is.needed;
          light = is.light;
          rest = is.rest;
          is_rest = is.is_rest;
          known = is.known;
          is_known = is.is_known;
          module_is = made.0 ∙ ap (state_module_of run.m) same_state;
          supply_is = made.1 ∙ ap (state_supply_of run.supply) same_state;
          is_cut = made.2;
        }
    parts_are (Err fault) made = tt
