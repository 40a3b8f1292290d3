-- The tape that a run needs replays it.
use Rattle.std.proofs.Common.{◌∙◌, ◌++◌, ◌≡◌, ℕ, zero, suc, List, [], Option, refl, sym, ap, subst}
use Rattle.std.specs.Prelude.{◌≢◌}
use Rattle.wasm_syntax.specs.declared.modules.Module.{Module}
use Rattle.wasm_syntax.specs.Validity.{IsValid}
use Rattle.host_script.specs.declared.scripts.Answer.{Answer}
use Rattle.host_script.specs.Fits.{FitAnswers}
use Rattle.base.specs.declared.outcomes.Outcome.{Outcome}
use Rattle.history_spec.specs.Code.{Code, code_of}
use Rattle.history_spec.specs.Step.{Progress, Running, Finished, Program, StepResult, step}
use Rattle.history_spec.specs.Run.{Run, all_one, program_of, start_in_store, weight, run_after, steps, Meter}
use Rattle.record_replay_spec.specs.Observations.{run_observations}
use Rattle.record_replay_spec.specs.Known.{opening_known}
use Rattle.record_replay_spec.specs.TapeRun.{TapeProgress, TapeResult, tape_result, Plays, Over, Disagrees, NoRule, tape_step, tape_steps, tape_start}
use Rattle.type_safety.specs.Configurations.{IsTypedCode}
use Rattle.type_safety.specs.Heights.{Heights}
use Rattle.tape_laws.specs.Below.{LawsOfSteps, LawsOfRuns}
use Rattle.tape_laws.specs.Laws.{IsReplayed, NeededTapesReplayRuns}
use Rattle.tape_laws.proofs.Closed.{IsClosed}
use Rattle.tape_laws.proofs.Replays.{Shows, replays, replays_closed}
use Rattle.tape_laws.proofs.HostStores.{sizes_of}
use Rattle.tape_laws.proofs.Simulation as sim
use Rattle.tape_laws.proofs.AllSteps as all
use Rattle.tape_laws.proofs.SafeRuns.{safe_run}

-- a tape's run that has an outcome never disagrees
pub never_disagrees : (code : Code) (n : ℕ) (at : TapeProgress) (outcome : Outcome)
    → (tape_steps code n at).next ≡ Over outcome → (k : ℕ) → (tape_steps code k at).next ≢ Disagrees
never_disagrees code zero (Plays t) outcome h k e = cc
never_disagrees code (suc n) (Plays t) outcome h zero e = cc
never_disagrees code (suc n) (Plays t) outcome h (suc k) e =
    never_disagrees code n (tape_step code t).next outcome h k e
never_disagrees code n (Over found) outcome h zero e = cc
never_disagrees code n (Over found) outcome h (suc k) e = cc
never_disagrees code zero Disagrees outcome h k e = cc
never_disagrees code (suc n) Disagrees outcome h k e = cc
never_disagrees code n NoRule outcome h zero e = cc
never_disagrees code n NoRule outcome h (suc k) e = cc

module _ (laws : LawsOfSteps) (m : Module) (heights : Heights) (valid : IsValid m) (typed : IsTypedCode m heights)
    (answers : List (Option Answer)) (fits : FitAnswers m answers) where
  -- the claim that the tape's run replays the scripted run holds of a whole run if it holds of its parts
  abbrev closed : IsClosed replays m heights
  closed = replays_closed laws.alike m heights

  pub makes : (k : ℕ) → sim.Makes laws m heights valid typed answers fits replays closed k
  makes = all.makes laws m heights valid typed answers fits replays closed

  pub delivers : (k : ℕ) → sim.Delivers laws m heights valid typed answers fits replays closed k
  delivers = all.delivers laws m heights valid typed answers fits replays closed

-- a run does not change after its end
pub same_steps : (program : Program) (meter : Meter) (k j : ℕ) (at : Progress) (a b : Outcome)
    → (steps program meter k at).at ≡ Finished a → (steps program meter j at).at ≡ Finished b
    → steps program meter k at ≡ steps program meter j at
same_steps program meter zero zero at a b h q = refl
same_steps program meter (suc k) (suc j) (Running config) a b h q =
    ap (run_after (step program config).entries (weight meter config))
    (same_steps program meter k j (step program config).next a b h q)
same_steps program meter zero (suc j) (Running config) a b h q = cc
same_steps program meter (suc k) zero (Running config) a b h q = cc
same_steps program meter zero (suc j) at a b h q = refl
same_steps program meter (suc k) zero at a b h q = refl
same_steps program meter (suc k) (suc j) at a b h q = refl

same_outcome : (a b : Outcome) → Finished a ≡ Finished b → a ≡ b
same_outcome a b h = cc

pub needed_tape_replays : LawsOfSteps → LawsOfRuns → NeededTapesReplayRuns
needed_tape_replays laws safety m script supply store segments count outcome runnable fits links opens needed ends =
    subst
    (λ o. IsReplayed (code_of m) store segments
    (initial.entries ++ (steps program all_one count initial.next).history) o)
    (same_outcome needed.outcome outcome
    (sym needed.ends ∙ ap (λ (run : Run). run.at) runs ∙ ends))
    (subst
    (λ (run : Run). IsReplayed (code_of m) store segments (initial.entries ++ run.history) needed.outcome) runs
    (record {
      count = r.count;
      shows = r.is;
      agrees =
          never_disagrees (code_of m) r.count (tape_start (code_of m) store segments) needed.outcome
          (ap (λ (t : TapeResult). t.next) r.is);
    }))
  where
    program : Program
    program = program_of m script

    initial : StepResult
    initial = start_in_store m script store

    runs : steps program all_one needed.count initial.next ≡ steps program all_one count initial.next
    runs = same_steps program all_one needed.count count initial.next needed.outcome outcome needed.ends ends

    r : Shows (code_of m) (tape_result [] (tape_start (code_of m) store segments))
        (initial.entries ++ (steps program all_one needed.count initial.next).history) needed.outcome
    r =
        let run = safe_run safety m script supply store runnable fits links opens in
        let f = all.started laws m run.heights runnable.valid run.typed script.imports fits.imports replays
        (replays_closed laws.alike m run.heights) needed.count script.main store run.is m.start run.safe in
        let kept = safety.kept (opening_known store) (run_observations program initial needed.count) segments in
        f.shows store segments needed.outcome refl
        (all.opening_holds store (sizes_of m store run.is), kept.0 needed.needed) needed.ends
