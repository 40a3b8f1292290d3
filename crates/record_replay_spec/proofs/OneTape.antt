-- A run has at most one needed tape.
use Rattle.std.proofs.Common.{◌≡◌, ℕ, zero, suc, List, [], ◌∷◌, ◌++◌, refl, sym, ap, ◌∙◌, subst}
use Rattle.base.specs.declared.outcomes.Outcome.{Outcome}
use Rattle.trace_model.specs.declared.tapes.Origin.TheVariants.{Begin}
use Rattle.trace_model.specs.declared.tapes.Segment.{Segment}
use Rattle.history_spec.specs.Step.{Program, Progress, Running, Finished, step}
use Rattle.history_spec.specs.Run.{all_one, steps}
use Rattle.record_replay_spec.specs.Observations.{Observation, Begins, Ends, stack_observations, activity_observations, observations, run_observations}
use Rattle.record_replay_spec.specs.Known.{Known, known_from, opening_known}
use Rattle.record_replay_spec.specs.Windows.{window}
use Rattle.record_replay_spec.specs.Needed.{needed_by, AreNeededSegments}
use Rattle.record_replay_spec.specs.Laws.{NeededTapeIsOne}
use Rattle.record_replay_spec.proofs.OneList.{just_one}

segments_same : (opening : Known) (seen later : List Observation) (segments others : List Segment)
    → AreNeededSegments opening seen later segments → AreNeededSegments opening seen later others → segments ≡ others
segments_same opening seen [] [] [] a b = refl
segments_same opening seen [] [] (other ∷ others) a b = absurd b
segments_same opening seen [] (segment ∷ segments) others a b = absurd a
segments_same opening seen (Begins origin ∷ Ends next ∷ later) (segment ∷ segments) (other ∷ others) a b =
    let origins = a.0.begins ∙ sym b.0.begins in
    let nexts = a.0.leaves ∙ sym b.0.leaves in
    let changes =
    just_one (needed_by (known_from opening seen) (window later)) segment.effects other.effects a.0.changes b.0.changes
    in
    let rest = segments_same opening seen later segments others a.1 b.1 in
    (λ i. record { origin = origins i; effects = changes i; next = nexts i } ∷ rest i)
segments_same opening seen (Begins origin ∷ Ends next ∷ later) [] others a b = absurd a
segments_same opening seen (Begins origin ∷ Ends next ∷ later) segments [] a b = absurd b
segments_same opening seen (Begins origin ∷ later) segments others a b = absurd a
segments_same opening seen (o ∷ later) segments others a b =
    segments_same opening (seen ++ o ∷ []) later segments others a b

-- after its end a run has no more observations
pub observations_same : (program : Program) (k j : ℕ) (at : Progress) (a b : Outcome)
    → (steps program all_one k at).at ≡ Finished a → (steps program all_one j at).at ≡ Finished b
    → observations program k at ≡ observations program j at
observations_same program zero zero at a b h q = refl
observations_same program (suc k) (suc j) (Running config) a b h q =
    ap
    (λ later. stack_observations config.store config.stack
    ++ (activity_observations (step program config).entries ++ later))
    (observations_same program k j (step program config).next a b h q)
observations_same program zero (suc j) (Running config) a b h q = cc
observations_same program (suc k) zero (Running config) a b h q = cc
observations_same program zero (suc j) at a b h q = refl
observations_same program (suc k) zero at a b h q = refl
observations_same program (suc k) (suc j) at a b h q = refl

pub needed_tape_is_one : NeededTapeIsOne
needed_tape_is_one program initial opened segments others a b =
    let e =
    ap (λ later. Begins Begin ∷ (activity_observations initial.entries ++ later))
    (observations_same program a.count b.count initial.next a.outcome b.outcome a.ends b.ends)
    in
    segments_same (opening_known opened) [] (run_observations program initial a.count) segments others a.needed
    (subst (λ later. AreNeededSegments (opening_known opened) [] later others) (sym e) b.needed)
