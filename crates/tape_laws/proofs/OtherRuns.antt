-- A tape's run that differs from a history has that history after no number of steps.
use Rattle.std.proofs.Common.{◌≡◌, ℕ, zero, suc, ◌+◌, ◌≤◌, List, [], ◌∷◌, ◌++◌, length, Bool, true, false, nat_le, refl, sym, ap, ◌∙◌, arith, append_assoc, append-nil, length-append}
use Rattle.std.proofs.lemmas.Bool.Decides.{nat_tests}
use Rattle.history_spec.specs.declared.entries.Entry.{Entry}
use Rattle.history_spec.specs.Code.{Code}
use Rattle.record_replay_spec.specs.TapeRun.{TapeProgress, TapeResult, Plays, Over, Disagrees, NoRule, tape_step, tape_steps, tape_start}
use Rattle.tape_laws.specs.Dropped.{IsAnother, DisagreesEarly, HasAnother, OtherRunsNeverHaveTheHistory}

-- ---- lists with a common front

next_same : (front : List Entry) (a b : Entry) (more rest : List Entry) → front ++ a ∷ more ≡ front ++ b ∷ rest → a ≡ b
next_same [] a b more rest h = cc
next_same (e ∷ front) a b more rest h = next_same front a b more rest (tail h)
  where
    tail : e ∷ (front ++ a ∷ more) ≡ e ∷ (front ++ b ∷ rest) → front ++ a ∷ more ≡ front ++ b ∷ rest
    tail h = cc

-- a list does not end within itself
never_shorter : (front : List Entry) (a : Entry) (more rest : List Entry) → front ≡ (front ++ a ∷ more) ++ rest → ⊥
never_shorter front a more rest h =
    let l : length front ≡ length ((front ++ a ∷ more) ++ rest) = ap length h in
    let m : length ((front ++ a ∷ more) ++ rest) ≡ length (front ++ a ∷ more) + length rest =
    length-append (front ++ a ∷ more) rest in
    let n : length (front ++ a ∷ more) ≡ length front + suc (length more) = length-append front (a ∷ more) in
    absurd (omega (arith, l, m, n))

-- ---- more steps

module _ (code : Code) where
  -- after more steps a run has the same entries and perhaps more
  more_entries : (i n : ℕ) (at : TapeProgress) → i ≤ n
      → (more : List Entry) × ((tape_steps code n at).entries ≡ (tape_steps code i at).entries ++ more)
  more_entries zero n at low = ((tape_steps code n at).entries, refl)
  more_entries (suc i) zero at low = absurd (omega (arith, low))
  more_entries (suc i) (suc n) (Plays t) low =
      let rest = more_entries i n (tape_step code t).next (omega (arith, low)) in (
        rest.0,
        ap (λ l. (tape_step code t).entries ++ l) rest.1
            ∙ sym (append_assoc (tape_step code t).entries (tape_steps code i (tape_step code t).next).entries rest.0),
      )
  more_entries (suc i) (suc n) (Over outcome) low = ([], refl)
  more_entries (suc i) (suc n) Disagrees low = ([], refl)
  more_entries (suc i) (suc n) NoRule low = ([], refl)

  -- a run that disagrees has no more entries after more steps
  stays : (i n : ℕ) (at : TapeProgress) → i ≤ n → (tape_steps code i at).next ≡ Disagrees
      → (tape_steps code n at).entries ≡ (tape_steps code i at).entries
  stays zero zero at low h = refl
  stays zero (suc n) Disagrees low h = refl
  stays zero (suc n) (Plays t) low h = cc
  stays zero (suc n) (Over outcome) low h = refl
  stays zero (suc n) NoRule low h = refl
  stays (suc i) zero at low h = absurd (omega (arith, low))
  stays (suc i) (suc n) (Plays t) low h =
      ap (λ l. (tape_step code t).entries ++ l) (stays i n (tape_step code t).next (omega (arith, low)) h)
  stays (suc i) (suc n) (Over outcome) low h = refl
  stays (suc i) (suc n) Disagrees low h = refl
  stays (suc i) (suc n) NoRule low h = refl

  module _ (at : TapeProgress) (history : List Entry) where
    abbrev run : ℕ → TapeResult
    run count = tape_steps code count at

    -- a run that differs from the history after some number of steps has not the history after more steps, nor after
    -- fewer
    another_after : IsAnother run history → (k : ℕ) → (run k).entries ≡ history → ⊥
    another_after (HasAnother count shown entry other more after is has apart) k h = go (nat_le count k) refl
      where
        go : (b : Bool) → nat_le count k ≡ b → ⊥
        go true e =
            let later = more_entries count k at (grind (arith, nat_tests, e)) in
            apart
            (next_same shown other entry (after ++ later.0) more
            (sym (append_assoc shown (other ∷ after) later.0) ∙ ap (λ l. l ++ later.0) (sym has) ∙ sym later.1 ∙ h
            ∙ is))
        go false e =
            let later = more_entries k count at (grind (arith, nat_tests, e)) in
            apart
            (next_same shown other entry after (more ++ later.0)
            (sym has ∙ later.1 ∙ ap (λ l. l ++ later.0) (h ∙ is) ∙ append_assoc shown (entry ∷ more) later.0))
    another_after (DisagreesEarly count shown missing more is disagrees) k h = go (nat_le count k) refl
      where
        go : (b : Bool) → nat_le count k ≡ b → ⊥
        go true e =
            never_shorter shown missing more []
            (ap (λ (t : TapeResult). t.entries) (sym disagrees)
            ∙ sym
            (stays count k at (grind (arith, nat_tests, e)) (ap (λ (t : TapeResult). t.next) disagrees)) ∙ h ∙ is
            ∙ sym (append-nil (shown ++ missing ∷ more)))
        go false e =
            let later = more_entries k count at (grind (arith, nat_tests, e)) in
            never_shorter shown missing more later.0
            (ap (λ (t : TapeResult). t.entries) (sym disagrees) ∙ later.1 ∙ ap (λ l. l ++ later.0) (h ∙ is))

pub other_runs_never_have_the_history : OtherRunsNeverHaveTheHistory
other_runs_never_have_the_history code store segments history another count h =
    another_after code (tape_start code store segments) history another count h
