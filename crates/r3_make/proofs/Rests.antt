-- The rest of a run from a top-level call on is replayed from what is known before the call.
use Rattle.std.proofs.Common.{refl, ◌≡◌, ℕ, ◌≤◌, List, [], Option, Some, Ok, sym, ◌∙◌, ap, subst}
use Rattle.std.specs.Prelude.{IsSome}
use Rattle.std.proofs.lemmas.Option.{same_Some}
use Rattle.base.specs.declared.outcomes.Outcome.{Outcome}
use Rattle.base.proofs.Results.{same_ok}
use Rattle.wasm_syntax.specs.declared.limits.TheConstants.{MAX_TAPE_WEIGHT}
use Rattle.wasm_syntax.specs.declared.modules.Module.{Module}
use Rattle.wasm_syntax.specs.Encoding.Forms.{IsCoreModule}
use Rattle.wasm_syntax.specs.Index.{imported_funcs}
use Rattle.host_script.specs.declared.scripts.Script.{Script}
use Rattle.host_script.specs.declared.scripts.Supply.{Supply}
use Rattle.host_script.specs.Fits.{Fits}
use Rattle.trace_model.specs.declared.tapes.Tape.{Tape}
use Rattle.trace_model.specs.Weight.{tape_weight}
use Rattle.history_spec.specs.declared.entries.Entry.{Entry}
use Rattle.history_spec.specs.Instantiation.{instantiate}
use Rattle.history_spec.specs.Replay.{Replays}
use Rattle.history_spec.specs.Run.{Run, all_one, program_of, run_from, run_start, start_in_store}
use Rattle.history_spec.specs.Step.{StepResult}
use Rattle.history_spec.specs.Store.{Store}
use Rattle.record_replay_spec.specs.Known.{Known, opening_known}
use Rattle.record_replay_spec.specs.Observations.{run_observations}
use Rattle.type_safety.specs.Supplies.{IsRunnable}
use Rattle.replay_module_spec.specs.Fragments.{start_index}
use Rattle.replay_module_spec.specs.Merge.{layout_of}
use Rattle.replay_module_laws.specs.Standing.{KeepsOriginals}
use Rattle.generated_code_laws.specs.Playable.{replay_of}
use Rattle.recorder.specs.FrozenViews.{FrozenView, ShowsFrozen}
use Rattle.rest_spec.specs.KnownBefore.{known_before}
use Rattle.rest_spec.specs.Rests.{rest_of}
use Rattle.rest_spec.specs.StateModules.{state_module_of, state_supply_of}
use Rattle.rest_laws.specs.KnownStores.{KnownStoresAreTyped}
use Rattle.rest_laws.specs.TopEnters.{renumbered_known}
use Rattle.state_laws.specs.Valid.{IsStateOf}
use Rattle.rest_theorem.specs.States.{IsRestOfStates, ReplaysFrom, RestsAreReplayedFromStates, state_at}
use Rattle.checkpoint.specs.FrozenLaws.{FrozenStatesAreKnown}
use Rattle.checkpoint.specs.FrozenStates.{state_of_frozen}
use Rattle.replay_theorem.specs.Laws.{NeededTapesArePlayable}
use Rattle.accepted_runs.proofs.OneResult.{linked-starts}
use Rattle.r3_make.specs.Tapes.{NeedsTape}

-- a value that is there
pub is_there : {X : Type 0} (o : Option X) (x : X) → o ≡ Some x → IsSome o
is_there o x e = subst IsSome (sym e) refl

module _ (m : Module) (script : Script) (turns number : ℕ) (supply : Supply) (store : Store) (tape : Tape)
    (needed : NeedsTape m script turns supply store tape) (light : tape_weight tape ≤ MAX_TAPE_WEIGHT) (rest : List Entry)
    (is_rest : rest_of needed.run.history number 0 ≡ Some rest) (runnable : IsRunnable m) (fits : Fits m script) where
  abbrev pub count : ℕ
  count = needed.ends.within.count

  abbrev pub run_of : Run
  run_of = run_from (program_of m script) all_one (start_in_store m script store) count

  same_start : needed.ends.initial ≡ start_in_store m script store
  same_start =
      same_ok (run_start m script) needed.ends.initial (start_in_store m script store) needed.ends.starts
      (linked-starts m script supply store needed.linked)

  same_run : run_of ≡ needed.run
  same_run =
      ap (λ (s : StepResult). run_from (program_of m script) all_one s count) (sym same_start)
      ∙ needed.ends.within.is_run

  has_rest : rest_of run_of.history number 0 ≡ Some rest
  has_rest = ap (λ (r : Run). rest_of r.history number 0) same_run ∙ is_rest

  pub replayed : IsCoreModule m → NeededTapesArePlayable → RestsAreReplayedFromStates
      → IsRestOfStates m script supply store count number tape rest needed.outcome
  replayed core playable replays =
      replays m script supply store tape count needed.outcome number rest
      (playable m script supply store tape runnable fits needed.linked.supplied needed.linked.begins
      needed.is_one.is_needed light)
      core fits needed.linked.supplied needed.is_one.is_needed
      (ap (λ (r : Run). r.at) same_run ∙ needed.ends.ends) has_rest

  module _ (known : Known)
      (is_known : known_before number 0 (opening_known store) []
      (run_observations (program_of m script) (start_in_store m script store) count) ≡ Some known)
      (r : IsRestOfStates m script supply store count number tape rest needed.outcome) where
    pub same_known : r.known ≡ known
    same_known = same_Some r.known known (sym r.is_known ∙ is_known)

    -- what is frozen where this is known has the known state
    pub frozen_state : KnownStoresAreTyped → FrozenStatesAreKnown → (view : FrozenView)
        → ShowsFrozen view (renumbered_known (imported_funcs m) known) → view.imports ≡ imported_funcs m
        → state_of_frozen view ≡ state_at m known
    frozen_state typed law view shows imports =
        law m store known view
        (typed m script supply store count number rest known runnable fits needed.linked.supplied needed.linked.begins
        has_rest is_known)
        shows imports

    pub is_state : IsStateOf m supply (state_at m known)
    is_state = subst (λ k. IsStateOf m supply (state_at m k)) same_known r.replays.is_state

-- ---- the module and the supply by other names

-- what a module with its supply and a tape gives
pub record Given (m other : Module) (supply : Supply) (first : Store) (tape : Tape) (entries : List Entry)
    (outcome : Outcome) : Type 0 where
  pub begins : instantiate other supply ≡ Ok first
  pub runnable : IsRunnable other
  pub core : IsCoreModule other
  pub keeps : KeepsOriginals m (replay_of other supply tape)
  pub shows : Replays (replay_of other supply tape) (layout_of m) (start_index m) entries outcome

module _ (m : Module) (supply : Supply) (known : Known) (first : Store) (tape : Tape) (entries : List Entry)
    (outcome : Outcome) (r : ReplaysFrom m supply (state_at m known) first tape entries outcome) (other : Module)
    (other_supply : Supply) (module_is : other ≡ state_module_of m (state_at m known))
    (supply_is : other_supply ≡ state_supply_of supply (state_at m known)) where
  pub given : Given m other other_supply first tape entries outcome
  given =
      subst (λ s. Given m other s first tape entries outcome) (sym supply_is)
      (subst (λ o. Given m o (state_supply_of supply (state_at m known)) first tape entries outcome) (sym module_is)
      (record {
        begins = r.begins;
        runnable = r.runs.runnable;
        core = r.runs.core;
        keeps = r.keeps;
        shows = r.shows;
      }))
