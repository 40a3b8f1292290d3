-- The cut of the tape that a run needs replays the rest of the run, from what is known before the call.
use Rattle.std.proofs.Common.{◌≡◌, ◌++◌, ℕ, zero, suc, ◌+◌, List, [], ◌∷◌, Option, Some, None, Ok, refl, sym, ap, ◌∙◌, subst, arith, replicate}
use Rattle.wasm_syntax.specs.declared.modules.Module.{Module}
use Rattle.wasm_syntax.specs.Index.{imported_funcs}
use Rattle.host_script.specs.declared.scripts.Action.{Action}
use Rattle.host_script.specs.declared.scripts.Script.{Script}
use Rattle.host_script.specs.declared.scripts.Supply.{Supply}
use Rattle.host_script.specs.Fits.{Fits}
use Rattle.host_script.specs.Supply.{supply_of}
use Rattle.base.specs.declared.outcomes.Outcome.{Outcome}
use Rattle.trace_model.specs.declared.tapes.Origin.TheVariants.{Begin}
use Rattle.trace_model.specs.declared.tapes.Segment.{Segment}
use Rattle.history_spec.specs.declared.entries.Entry.{Entry}
use Rattle.history_spec.specs.Store.{Store}
use Rattle.history_spec.specs.Code.{Code, code_of}
use Rattle.history_spec.specs.Configuration.{InMain, Config}
use Rattle.history_spec.specs.Instantiation.{instantiate}
use Rattle.history_spec.specs.Step.{Program, Progress, Running, Finished, Faulted, Stuck, StepResult, step}
use Rattle.history_spec.specs.Run.{all_one, program_of, start_in_store, steps, run_from}
use Rattle.record_replay_spec.specs.Observations.{Observation, Begins, activity_observations, observations, run_observations}
use Rattle.record_replay_spec.specs.Known.{Known, opening_known}
use Rattle.record_replay_spec.specs.Needed.{AreNeededSegments}
use Rattle.record_replay_spec.specs.Kept.{AreKeptSegments}
use Rattle.record_replay_spec.specs.TapeRun.{pause, TapeResult, Plays, Over, tape_result, tape_steps, tape_start}
use Rattle.record_replay_spec.proofs.OneTape.{observations_same}
use Rattle.type_safety.specs.Configurations.{IsConfig}
use Rattle.type_safety.specs.Supplies.{IsRunnable}
use Rattle.tape_laws.specs.Below.{LawsOfSteps, LawsOfRuns}
use Rattle.tape_laws.specs.Laws.{IsReplayed}
use Rattle.tape_laws.specs.RealReads.{observed_from, known_so_far, RunsReadWhatIsThere}
use Rattle.tape_laws.proofs.Stores.{maxima}
use Rattle.tape_laws.proofs.Relation.{IsKnownOf, Holds}
use Rattle.tape_laws.proofs.Replays.{Shows, replays, replays_closed}
use Rattle.tape_laws.proofs.Whole.{makes, never_disagrees}
use Rattle.tape_laws.proofs.AllSteps as all
use Rattle.tape_laws.proofs.SafeRuns.{IsSafeRun, safe_run}
use Rattle.rest_spec.specs.KnownBefore.{known_before}
use Rattle.rest_spec.specs.AtCalls.{AtCall, at_call}
use Rattle.rest_spec.specs.Cuts.{cut_of}
use Rattle.rest_laws.specs.Calls.{IsCallOfRun, AtStart, InRun}
use Rattle.rest_laws.specs.Laws.{IsCut, IsSameKnown, KnownBeforeIsKept}
use Rattle.rest_laws.specs.Replays.{IsRestReplayed, CutTapesReplayRests}
use Rattle.rest_laws.proofs.Counts.{counts_do_not_matter}
use Rattle.rest_laws.proofs.Cuts.{cuts_are_needed}
use Rattle.rest_laws.proofs.Maxima.{reached_safely}
use Rattle.rest_laws.proofs.Starts.{calls_are_of_runs}

-- a number of steps are those up to a configuration, and those from there on
steps_from : (program : Program) (before later k : ℕ) (at : Progress) (config : Config) → k ≡ before + later
    → (steps program all_one before at).at ≡ Running config
    → (steps program all_one k at).at ≡ (steps program all_one later (Running config)).at
steps_from program zero later k at config all h =
    ap (λ n. (steps program all_one n at).at) (omega (arith, all)) ∙ ap (λ p. (steps program all_one later p).at) h
steps_from program (suc before) later zero at config all h = absurd (omega (arith, all))
steps_from program (suc before) later (suc k) (Running now) config all h =
    steps_from program before later k (step program now).next config (omega (arith, all)) h
steps_from program (suc before) later (suc k) (Finished outcome) config all h = cc
steps_from program (suc before) later (suc k) (Faulted kind) config all h = cc
steps_from program (suc before) later (suc k) Stuck config all h = cc

-- what is found at a top-level call: what is known there, and the cut of the tape
record IsFoundAt (at : AtCall) (known : Option Known) (cut : Option (List Segment)) : Type 0 where
  state : Known
  is_known : known ≡ Some state
  same : state ≡ at.known
  segments : List Segment
  is_cut : cut ≡ Some segments
  needed : AreKeptSegments at.known (Begins Begin ∷ at.later) segments

found_at : (at : AtCall) (o : Option AtCall) (known : Option Known) (cut : Option (List Segment)) → o ≡ Some at
    → IsSameKnown known o → IsCut o cut → IsFoundAt at known cut
found_at at o known cut e same is =
    go known cut (subst (IsSameKnown known) e same) (subst (λ o. IsCut o cut) e is)
  where
    go : (known : Option Known) (cut : Option (List Segment)) → IsSameKnown known (Some at) → IsCut (Some at) cut
        → IsFoundAt at known cut
    go None cut same is = absurd same
    go (Some known) None same is = absurd is
    go (Some known) (Some segments) same is =
        record {
          state = known;
          is_known = refl;
          same = same;
          segments = segments;
          is_cut = refl;
          needed = is;
        }

module _ (laws : LawsOfSteps) (safety : LawsOfRuns) (reads : RunsReadWhatIsThere) (kept : KnownBeforeIsKept)
    (m : Module) (script : Script) (supply : Supply) (store : Store) (runnable : IsRunnable m) (fits : Fits m script)
    (links : supply_of m script ≡ Ok supply) (opens : instantiate m supply ≡ Ok store) where
  abbrev program : Program
  program = program_of m script

  abbrev initial : StepResult
  initial = start_in_store m script store

  abbrev code : Code
  code = code_of m

  run : IsSafeRun m script store
  run = safe_run safety m script supply store runnable fits links opens

  -- the cut tape replays the rest from each store that holds what is known
  abbrev Replays : AtCall → List Entry → Outcome → Type 0
  Replays at rest outcome =
      (other : Store) (cut : List Segment) → maxima other ≡ maxima store → Holds at.known [] other
      → AreKeptSegments at.known (Begins Begin ∷ at.later) cut → IsReplayed code other cut rest outcome

  replayed : (other : Store) (cut : List Segment) (history : List Entry) (outcome : Outcome) (k : ℕ)
      → tape_steps code k (tape_start code other cut) ≡ tape_result history (Over outcome)
      → IsReplayed code other cut history outcome
  replayed other cut history outcome k shows =
      record {
        count = k;
        shows = shows;
        agrees =
            never_disagrees code k (tape_start code other cut) outcome (ap (λ (t : TapeResult). t.next) shows);
      }

  -- the call of the start function
  at_start : (count : ℕ) (outcome : Outcome) → (run_from program all_one initial count).at ≡ Finished outcome
      → Replays (record { known = opening_known store; later = observed_from program count initial })
      (run_from program all_one initial count).history outcome
  at_start count outcome ends other cut same holds needed =
      let f = all.started laws m run.heights runnable.valid run.typed script.imports fits.imports replays
      (replays_closed laws.alike m run.heights) count script.main store run.is m.start run.safe in
      let r : Shows code (tape_result [] (tape_start code other cut)) (run_from program all_one initial count).history
      outcome = f.shows other cut outcome same (holds, needed) ends in
      replayed other cut (run_from program all_one initial count).history outcome r.count r.is

  -- a call of the host's own work
  by_action : (known : Known) (now : Store) (counts : List ℕ) (action : Action) (actions : List Action) (later : ℕ)
      (outcome : Outcome) (config : Config)
      → record { store = now; stack = InMain (action ∷ actions) ∷ []; counts = counts } ≡ config
      → IsConfig m run.heights config → IsKnownOf known config.store → maxima config.store ≡ maxima store
      → (steps program all_one later (Running config)).at ≡ Finished outcome
      → Replays (record { known = known; later = observations program later (Running config) })
      (steps program all_one later (Running config)).history outcome
  by_action known now counts action actions later outcome config is fine of most ends other cut same holds needed =
      let here : Config = record { store = now; stack = InMain (action ∷ actions) ∷ []; counts = counts } in
      let back = sym is in
      let f = (makes laws m run.heights runnable.valid run.typed script.imports fits.imports later).main action actions
      [] now counts known Begin refl (subst (IsConfig m run.heights) back fine)
      (subst (λ (c : Config). IsKnownOf known c.store) back of) in
      let r : Shows code
      (tape_result []
      (Plays
      (record {
        config = record { store = other; stack = InMain (pause ∷ []) ∷ []; counts = counts };
        left = cut;
        came = Begin;
      }))) (steps program all_one later (Running here)).history outcome =
      f.shows other cut outcome (same ∙ sym (subst (λ (c : Config). maxima c.store ≡ maxima store) back most))
      (holds, subst (λ c. AreKeptSegments known (Begins Begin ∷ observations program later (Running c)) cut) back needed)
      (subst (λ c. (steps program all_one later (Running c)).at ≡ Finished outcome) back ends) in
      subst (λ c. IsReplayed code other cut (steps program all_one later (Running c)).history outcome) is
      (replayed other cut (steps program all_one later (Running here)).history outcome r.count
      (counts_do_not_matter code other (InMain (pause ∷ []) ∷ []) counts (replicate (imported_funcs m) 0) cut Begin
      r.count (steps program all_one later (Running here)).history outcome r.is))

  module _ (segments : List Segment) (count number : ℕ) (outcome : Outcome)
      (ends : (run_from program all_one initial count).at ≡ Finished outcome)
      (needed : AreKeptSegments (opening_known store) (run_observations program initial count) segments) where
    abbrev observed : List Observation
    observed = run_observations program initial count

    replays_rest : (at : AtCall) (rest : List Entry) → at_call number 0 (opening_known store) observed ≡ Some at
        → Replays at rest outcome → IsRestReplayed m script store count number segments rest outcome
    replays_rest at rest seen replays =
        let f = found_at at (at_call number 0 (opening_known store) observed)
        (known_before number 0 (opening_known store) [] observed) (cut_of number 0 segments) seen
        (kept (opening_known store) observed number)
        (cuts_are_needed (opening_known store) observed segments number 0 needed) in
        record {
          known = f.state;
          is_known = f.is_known;
          cut = f.segments;
          is_cut = f.is_cut;
          replays = λ other most holds.
              replays other f.segments (λ i. record { pages = most.memory i; entries = most.table i })
              (subst (λ known. Holds known [] other) f.same
              (record {
                pages = holds.pages;
                entries = holds.entries;
                byte = holds.byte;
                entry = holds.entry;
                global = holds.global;
              })) f.needed;
        }

    by_call : (rest : List Entry) → IsCallOfRun program initial (opening_known store) count number rest
        → IsRestReplayed m script store count number segments rest outcome
    by_call rest (AtStart is seen) =
        replays_rest (record { known = opening_known store; later = observed_from program count initial }) rest seen
        (subst
        (λ l. Replays (record { known = opening_known store; later = observed_from program count initial }) l outcome)
        (sym is) (at_start count outcome ends))
    by_call rest (InRun before later config action actions all reached alone is seen) =
        let known = known_so_far m script store before in
        let at : AtCall = record { known = known; later = observations program later (Running config) } in
        let found = reached_safely laws m script store runnable fits run before config reached in
        let of = (reads m script supply store before config runnable fits links opens reached).0 in
        replays_rest at rest seen
        (subst (λ l. Replays at l outcome) (sym is)
        (by_action known config.store config.counts action actions later outcome config
        (ap (λ stack. record { store = config.store; stack = stack; counts = config.counts }) (sym alone)) found.fine
        of found.kept (sym (steps_from program before later count initial.next config all reached) ∙ ends)))

pub cut_tapes_replay_rests : LawsOfSteps → LawsOfRuns → RunsReadWhatIsThere → KnownBeforeIsKept → CutTapesReplayRests
cut_tapes_replay_rests laws safety reads kept m script supply store segments count outcome number rest runnable fits
    links opens needed ends h =
    let program = program_of m script in
    let initial = start_in_store m script store in
    let opening = opening_known store in
    let observed = run_observations program initial count in
    let same =
    ap (λ later. Begins Begin ∷ (activity_observations initial.entries ++ later))
    (observations_same program needed.count count initial.next needed.outcome outcome needed.ends ends) in
    by_call laws safety reads kept m script supply store runnable fits links opens segments count number outcome ends
    ((safety.kept opening observed segments).0
    (subst (λ seen. AreNeededSegments opening [] seen segments) same needed.needed)) rest
    (calls_are_of_runs m script store count number rest h)
