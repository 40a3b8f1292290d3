-- A run has one answer for a top-level call.
use Rattle.std.proofs.Common.{◌≡◌, ℕ, ◌<◌, ◌≤◌, ◌^◌, ◌-◌, List, Vec, Result, sym, ◌∙◌, ap, arith}
use Rattle.std.specs.Prelude.{min}
use Rattle.wasm_syntax.specs.declared.modules.Module.{Module}
use Rattle.host_script.specs.declared.scripts.Script.{Script}
use Rattle.base.specs.declared.outcomes.Outcome.{Outcome}
use Rattle.history_spec.specs.Budget.{HasOneResultAtMost}
use Rattle.history_spec.specs.Run.{Run, all_one, program_of, run_from}
use Rattle.history_spec.specs.Step.{StepResult}
use Rattle.rest_spec.specs.Rests.{calls_in}
use Rattle.rest_laws.specs.Laws.{RestsAreThere}
use Rattle.accepted_runs.specs.Runs.{HasOutcome}
use Rattle.accepted_runs.proofs.OneResult.{outcome-none, run-one, unlinked-started}
use Rattle.r3_faults.specs.Answers.{IsCaused, IsReplayAnswer}
use Rattle.r3_faults.specs.declared.faults.Fault.{Fault}
use Rattle.r3_faults.specs.declared.faults.Fault.TheVariants.{NoCall}
use Rattle.r3_faults.proofs.OneAnswer.{replay_answer}
use Rattle.r3_make.specs.Refusals as make
use Rattle.r3_make.proofs.OneAnswer.{light-unmade, unmade-one}
use Rattle.r3_make.specs.RestRefusals.{HasCall, HasFewCalls, HasNoRest, OfCalls, OfLink, OfRun, OfWeight}
use Rattle.r3_make.specs.RestReplays.{IsRestFor}

module _ (m : Module) (script : Script) (turns number : ℕ)
    (one : (initial : StepResult) → HasOneResultAtMost (run_from (program_of m script) all_one initial) all_one turns)
  where
    -- all runs with an outcome have the same number of top-level calls
    calls-one : (r s : Run) (a b : Outcome) → HasOutcome m script turns r a → HasOutcome m script turns s b
        → calls_in r.history 0 ≡ calls_in s.history 0
    calls-one r s a b x y = ap (λ (run : Run). calls_in run.history 0) (run-one m script turns one r s a b x y)

    few-call : (r s : Run) (a b : Outcome) → HasOutcome m script turns r a → HasOutcome m script turns s b
        → calls_in r.history 0 ≤ number → number < calls_in s.history 0 → ⊥
    few-call r s a b x y few call = let same = calls-one r s a b x y in omega (arith, same, few, call)

    few-one : (f g : Fault) → HasFewCalls m script turns number f → HasFewCalls m script turns number g → f ≡ g
    few-one f g u v =
        u.named
        ∙ ap (λ calls. NoCall number (min calls (2 ^ 64 - 1))) (calls-one u.run v.run u.outcome v.outcome u.ends v.ends)
        ∙ sym v.named

    no_rest-one : (f g : Fault) → HasNoRest m script turns number f → HasNoRest m script turns number g → f ≡ g
    no_rest-one f g (OfCalls u) (OfCalls v) = few-one f g u v
    no_rest-one f g (OfCalls u) (OfLink v) = absurd (unlinked-started m script g u.ends.initial v u.ends.starts)
    no_rest-one f g (OfCalls u) (OfRun v) = absurd (outcome-none m script turns one u.run u.outcome g u.ends v)
    no_rest-one f g (OfCalls u) (OfWeight v) =
        absurd
        (few-call u.run v.heavy.needed.run u.outcome v.heavy.needed.outcome u.ends v.heavy.needed.ends u.few v.call)
    no_rest-one f g (OfLink u) (OfCalls v) = absurd (unlinked-started m script f v.ends.initial u v.ends.starts)
    no_rest-one f g (OfRun u) (OfCalls v) = absurd (outcome-none m script turns one v.run v.outcome f v.ends u)
    no_rest-one f g (OfWeight u) (OfCalls v) =
        absurd
        (few-call v.run u.heavy.needed.run v.outcome u.heavy.needed.outcome v.ends u.heavy.needed.ends v.few u.call)
    no_rest-one f g (OfLink u) (OfLink v) = unmade-one m script turns one f g (make.OfLink u) (make.OfLink v)
    no_rest-one f g (OfLink u) (OfRun v) = unmade-one m script turns one f g (make.OfLink u) (make.OfRun v)
    no_rest-one f g (OfLink u) (OfWeight v) = unmade-one m script turns one f g (make.OfLink u) (make.OfWeight v.heavy)
    no_rest-one f g (OfRun u) (OfLink v) = unmade-one m script turns one f g (make.OfRun u) (make.OfLink v)
    no_rest-one f g (OfRun u) (OfRun v) = unmade-one m script turns one f g (make.OfRun u) (make.OfRun v)
    no_rest-one f g (OfRun u) (OfWeight v) = unmade-one m script turns one f g (make.OfRun u) (make.OfWeight v.heavy)
    no_rest-one f g (OfWeight u) (OfLink v) = unmade-one m script turns one f g (make.OfWeight u.heavy) (make.OfLink v)
    no_rest-one f g (OfWeight u) (OfRun v) = unmade-one m script turns one f g (make.OfWeight u.heavy) (make.OfRun v)
    no_rest-one f g (OfWeight u) (OfWeight v) =
        unmade-one m script turns one f g (make.OfWeight u.heavy) (make.OfWeight v.heavy)

    call-no_rest : (fault : Fault) → HasCall m script turns number → HasNoRest m script turns number fault → ⊥
    call-no_rest fault is (OfLink u) = light-unmade m script turns one fault is.light (make.OfLink u)
    call-no_rest fault is (OfRun u) = light-unmade m script turns one fault is.light (make.OfRun u)
    call-no_rest fault is (OfCalls u) =
        few-call u.run is.light.needed.run u.outcome is.light.needed.outcome u.ends is.light.needed.ends u.few is.call
    call-no_rest fault is (OfWeight u) = light-unmade m script turns one fault is.light (make.OfWeight u.heavy)

    -- a run that is replayed from the call on has the call
    rest-no_rest : RestsAreThere → (printed : List ℕ) (fault : Fault) → IsRestFor m script turns number printed
        → HasNoRest m script turns number fault → ⊥
    rest-no_rest there printed fault is none =
        let parts = is.parts in
        call-no_rest fault
        (record {
          light = record {
            supply = is.supply;
            store = parts.store;
            tape = parts.tape;
            needed = parts.needed;
            light = parts.light;
          };
          call = (there parts.needed.run.history number 0).below parts.rest parts.is_rest;
        }) none

    -- a result with its cause is the answer of a call that prints a replay module
    pub rest_is : RestsAreThere → {Z : Type 0} (r : Result (Vec ℕ Z) Fault)
        → IsCaused (IsRestFor m script turns number) (HasNoRest m script turns number) r
        → IsReplayAnswer (IsRestFor m script turns number) (HasNoRest m script turns number)
        (HasCall m script turns number) r
    rest_is there =
        replay_answer (IsRestFor m script turns number) (HasNoRest m script turns number)
        (HasCall m script turns number) (rest-no_rest there) (λ is fault. call-no_rest fault is) no_rest-one
