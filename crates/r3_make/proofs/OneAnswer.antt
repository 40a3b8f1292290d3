-- A run under a script has at most one result.
use Rattle.std.proofs.Common.{◌≡◌, ℕ, ◌^◌, ◌-◌, List, Result, Vec, sym, ◌∙◌, ap, subst, arith}
use Rattle.std.specs.Prelude.{min}
use Rattle.wasm_syntax.specs.declared.modules.Module.{Module}
use Rattle.host_script.specs.declared.scripts.Script.{Script}
use Rattle.host_script.specs.declared.scripts.Supply.{Supply}
use Rattle.trace_model.specs.declared.tapes.Tape.{Tape}
use Rattle.trace_model.specs.Weight.{tape_weight}
use Rattle.history_spec.specs.Budget.{HasOneResultAtMost}
use Rattle.history_spec.specs.Run.{all_one, program_of, run_from, start_in_store}
use Rattle.history_spec.specs.Step.{StepResult}
use Rattle.history_spec.specs.Store.{Store}
use Rattle.record_replay_spec.specs.Needed.{IsNeededTape}
use Rattle.accepted_runs.proofs.OneResult.{linked-unlinked, none-one, one-store, outcome-none, unlinked-one, unlinked-run}
use Rattle.r3_faults.specs.Answers.{IsCaused, IsReplayAnswer}
use Rattle.r3_faults.specs.declared.faults.Fault.{Fault}
use Rattle.r3_faults.specs.declared.faults.Fault.TheVariants.{TapeLimit}
use Rattle.r3_faults.proofs.OneAnswer.{replay_answer}
use Rattle.r3_make.specs.Printed.{IsReplayFor}
use Rattle.r3_make.specs.Refusals.{IsUnmade, OfLink, OfRun, OfWeight}
use Rattle.r3_make.specs.Tapes.{NeedsLightTape, NeedsTape}

module _ (m : Module) (script : Script) (turns : ℕ)
    (one : (initial : StepResult) → HasOneResultAtMost (run_from (program_of m script) all_one initial) all_one turns)
  where
    -- all needed tapes have the same weight
    weight-one : (supply other : Supply) (store another : Store) (tape second : Tape)
        → NeedsTape m script turns supply store tape → NeedsTape m script turns other another second
        → tape_weight tape ≡ tape_weight second
    weight-one supply other store another tape second x y =
        let same : another ≡ store = one-store m script other supply another store y.linked x.linked in
        ap (λ segments. tape_weight (record { segments = segments }))
        (sym
        (x.is_one.is_one second.segments
        (subst (λ store. IsNeededTape (program_of m script) (start_in_store m script store) store second.segments) same
        y.is_one.is_needed)))

    pub unmade-one : (f g : Fault) → IsUnmade m script turns f → IsUnmade m script turns g → f ≡ g
    unmade-one f g (OfLink u) (OfLink v) = unlinked-one m script f g u v
    unmade-one f g (OfLink u) (OfRun v) = absurd (unlinked-run m script turns f g u v)
    unmade-one f g (OfLink u) (OfWeight v) = absurd (linked-unlinked m script v.supply v.store f v.needed.linked u)
    unmade-one f g (OfRun u) (OfLink v) = absurd (unlinked-run m script turns g f v u)
    unmade-one f g (OfRun u) (OfRun v) = none-one m script turns one f g u v
    unmade-one f g (OfRun u) (OfWeight v) =
        absurd (outcome-none m script turns one v.needed.run v.needed.outcome f v.needed.ends u)
    unmade-one f g (OfWeight u) (OfLink v) = absurd (linked-unlinked m script u.supply u.store g u.needed.linked v)
    unmade-one f g (OfWeight u) (OfRun v) =
        absurd (outcome-none m script turns one u.needed.run u.needed.outcome g u.needed.ends v)
    unmade-one f g (OfWeight u) (OfWeight v) =
        u.named
        ∙ ap (λ weight. TapeLimit (min weight (2 ^ 64 - 1)))
        (weight-one u.supply v.supply u.store v.store u.tape v.tape u.needed v.needed)
        ∙ sym v.named

    pub light-unmade : (fault : Fault) → NeedsLightTape m script turns → IsUnmade m script turns fault → ⊥
    light-unmade fault is (OfLink u) = linked-unlinked m script is.supply is.store fault is.needed.linked u
    light-unmade fault is (OfRun u) =
        outcome-none m script turns one is.needed.run is.needed.outcome fault is.needed.ends u
    light-unmade fault is (OfWeight u) =
        let same = weight-one is.supply u.supply is.store u.store is.tape u.tape is.needed u.needed in
        omega (arith, is.light, u.heavy, same)

    replay-unmade : (printed : List ℕ) (fault : Fault) → IsReplayFor m script turns printed
        → IsUnmade m script turns fault → ⊥
    replay-unmade printed fault is unmade =
        light-unmade fault
        (record { supply = is.supply; store = is.store; tape = is.tape; needed = is.needed; light = is.light }) unmade

    -- a result with its cause is the answer of a call that prints a replay module
    pub replay_is : {Z : Type 0} (r : Result (Vec ℕ Z) Fault)
        → IsCaused (IsReplayFor m script turns) (IsUnmade m script turns) r
        → IsReplayAnswer (IsReplayFor m script turns) (IsUnmade m script turns) (NeedsLightTape m script turns) r
    replay_is =
        replay_answer (IsReplayFor m script turns) (IsUnmade m script turns) (NeedsLightTape m script turns)
        replay-unmade (λ light fault. light-unmade fault light) unmade-one
