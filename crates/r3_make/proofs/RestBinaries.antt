-- The replay module of a cut, for the module that begins with what is known before a top-level call.
use Rattle.std.proofs.Common.{arith, ◌≡◌, ℕ, List, Ok, sym, ◌∙◌, subst}
use Rattle.std.proofs.lemmas.Option.{same_Some}
use Rattle.wasm_syntax.specs.declared.modules.Module.{Module}
use Rattle.wasm_syntax.specs.Encoding.Forms.{IsCoreModule}
use Rattle.host_script.specs.declared.scripts.Script.{Script}
use Rattle.host_script.specs.declared.scripts.Supply.{Supply}
use Rattle.host_script.specs.Fits.{Fits}
use Rattle.trace_model.specs.declared.tapes.Segment.{Segment}
use Rattle.trace_model.specs.declared.tapes.Tape.{Tape}
use Rattle.history_spec.specs.Instantiation.{instantiate}
use Rattle.history_spec.specs.Store.{Store}
use Rattle.type_safety.specs.Supplies.{IsRunnable}
use Rattle.replay_encoding_laws.specs.Premises.{CanBeReplayed, IsFromBytes, IsTakenSupply}
use Rattle.rest_spec.specs.StateModules.{state_supply_of}
use Rattle.rest_laws.specs.FittingCuts.{CutsAreLight, CutsFit}
use Rattle.rest_laws.specs.KnownStores.{known_store}
use Rattle.state_laws.specs.Sizes.{StateModulesCanBeReplayed}
use Rattle.rest_theorem.specs.Cuts.{CutsAreConstant}
use Rattle.rest_theorem.specs.States.{IsRestOfStates, ReplaysFrom, RestsAreReplayedFromStates, state_at}
use Rattle.replay_theorem.specs.ConstantLaws.{NeededTapesAreConstant}
use Rattle.replay_theorem.specs.Laws.{NeededTapesArePlayable}
use Rattle.replay_laws.specs.EncodedReplays.{IsReplayOf}
use Rattle.r3_make.specs.RestReplays.{IsRestFor}
use Rattle.r3_make.specs.StatesAndCuts.{AreStateAndCut}
use Rattle.r3_make.proofs.Rests.{Given, count, given, replayed, same_known}

module _ (m : Module) (script : Script) (turns number : ℕ) (supply : Supply) (other : Module) (other_supply : Supply)
    (cut : Tape) (parts : AreStateAndCut m script turns number supply other other_supply cut) (runnable : IsRunnable m)
    (core : IsCoreModule m) (fits : Fits m script) (playable : NeededTapesArePlayable)
    (replays : RestsAreReplayedFromStates) where
  r : IsRestOfStates m script supply parts.store
      (count m script turns number supply parts.store parts.tape parts.needed parts.light parts.rest parts.is_rest runnable fits)
      number parts.tape parts.rest parts.needed.outcome
  r = replayed m script turns number supply parts.store parts.tape parts.needed parts.light parts.rest parts.is_rest runnable
      fits core playable replays

  known_is : r.known ≡ parts.known
  known_is =
      same_known m script turns number supply parts.store parts.tape parts.needed parts.light parts.rest parts.is_rest
      runnable fits parts.known parts.is_known r

  cut_is : r.cut ≡ cut.segments
  cut_is = same_Some r.cut cut.segments (sym r.is_cut ∙ parts.is_cut)

  abbrev first : Store
  first = known_store m parts.store parts.known

  there : ReplaysFrom m supply (state_at m parts.known) first cut parts.rest parts.needed.outcome
  there =
      subst
      (λ (segments : List Segment). ReplaysFrom m supply (state_at m parts.known) first (record { segments = segments })
      parts.rest parts.needed.outcome) cut_is
      (subst
      (λ known. ReplaysFrom m supply (state_at m known) (known_store m parts.store known) (record { segments = r.cut })
      parts.rest parts.needed.outcome) known_is r.replays)

  pub made : Given m other other_supply first cut parts.rest parts.needed.outcome
  made =
      given m supply parts.known first cut parts.rest parts.needed.outcome there other other_supply parts.module_is
      parts.supply_is

  pub can_be_replayed : (bytes : List ℕ) → IsFromBytes bytes m → IsTakenSupply m supply → NeededTapesAreConstant
      → CutsFit → CutsAreLight → CutsAreConstant → StateModulesCanBeReplayed → CanBeReplayed other other_supply cut
  can_be_replayed bytes from_bytes supplied constant fit light constants law =
      subst (λ s. CanBeReplayed other s cut) (sym parts.supply_is)
      (subst (λ o. CanBeReplayed o (state_supply_of supply (state_at m parts.known)) cut) (sym parts.module_is)
      (law bytes m supply (state_at m parts.known) cut from_bytes supplied
      (record {
        fits = fit m parts.tape number cut.segments parts.needed.is_one.fits parts.is_cut;
        constants = constants parts.tape number 0 cut.segments
            (constant m script supply parts.store parts.tape runnable fits parts.needed.linked.supplied
            parts.needed.linked.begins parts.needed.is_one.is_needed) parts.is_cut;
        weight = omega (arith, light parts.tape cut.segments number 0 parts.is_cut, parts.light);
      })
      there.is_state))

  pub rest_for : (printed : List ℕ)
      → ((store : Store) → instantiate other other_supply ≡ Ok store → IsReplayOf other other_supply store cut printed)
      → IsRestFor m script turns number printed
  rest_for printed replay =
      record {
        supply = supply;
        other = other;
        other_supply = other_supply;
        cut = cut;
        parts = parts;
        first = first;
        begins = made.begins;
        replay = replay first made.begins;
        keeps = made.keeps;
        shows = made.shows;
      }
