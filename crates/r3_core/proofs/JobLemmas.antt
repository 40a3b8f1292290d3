-- Jobs with the bytes of their files: their numbers are those of the jobs that the words say, and the answers of
-- commands are those of jobs.
use Rattle.std.proofs.Common.{◌≡◌, ℕ, List, refl, sym, ◌∙◌, ap, subst, Result, Vec, OnOk, Ok, Err}
use Rattle.r3_faults.specs.Answers.{IsExact, IsReplayAnswer}
use Rattle.r3_faults.specs.declared.faults.Fault.{Fault}
use Rattle.r3_core.specs.declared.jobs.Job.{Job}
use Rattle.r3_core.specs.declared.jobs.Job.TheVariants.{Make, Instrument, Record, Reduce, Build, History, Replay, Show, Load, Foreign, ForeignHistory, Pair, PairHistory, From}
use Rattle.r3_core.specs.Jobs.{form, map_files, without_files}
use Rattle.r3_core.specs.Words.{AreInRange}
use Rattle.r3_core.specs.Meanings.{IsAnswer}

-- the numbers of a job are those of the same job with other files
numbers_mapped : {B C : Type 0} (f : B → C) (job : Job B) → (form (map_files f job)).numbers ≡ (form job).numbers
numbers_mapped f (Make m s turns) = refl
numbers_mapped f (Instrument m) = refl
numbers_mapped f (Record hooked s turns) = refl
numbers_mapped f (Reduce log) = refl
numbers_mapped f (Build m s tape) = refl
numbers_mapped f (History m s turns) = refl
numbers_mapped f (Replay binary turns) = refl
numbers_mapped f (Show trace) = refl
numbers_mapped f (Load calls) = refl
numbers_mapped f (Foreign m decls s turns) = refl
numbers_mapped f (ForeignHistory m decls s turns) = refl
numbers_mapped f (Pair left right s turns) = refl
numbers_mapped f (PairHistory left right s turns) = refl
numbers_mapped f (From m s turns call) = refl

pub in_range_with : (job given : Job (List ℕ)) → without_files given ≡ without_files job
    → AreInRange (form job).numbers → AreInRange (form given).numbers
in_range_with job given same all =
    subst AreInRange
    (sym (numbers_mapped (λ _. tt {0}) job) ∙ ap (λ (job : Job (Unit {0})). (form job).numbers) (sym same)
    ∙ numbers_mapped (λ _. tt {0}) given)
    all

-- a fact that a successful call leaves
pub on_ok : {T E P : Type 0} (r : Result T E) → P → OnOk r P
on_ok (Ok x) p = p
on_ok (Err e) p = tt

-- ---- answers

-- an exact result is the answer of a job that can be done if there are bytes that it may print
pub exact_answer : {Z : Type 0} (Printed : List ℕ → Type 0) (Refusal : Fault → Type 0) (r : Result (Vec ℕ Z) Fault)
    → IsExact Printed Refusal r → IsReplayAnswer Printed Refusal ((bytes : List ℕ) × Printed bytes) r
exact_answer Printed Refusal r exact = record {
  cause = exact.cause;
  refused = exact.refused;
  printed = exact.printed;
  accepted = λ doable. (exact.accepted doable.0 doable.1).1;
}

module _ {J : Type 0} (with_bytes : J → Job (List ℕ)) (job here : J) (is : job ≡ here) where
  pub answer_at : {Z : Type 0} (given : Job (List ℕ)) (r : Result (Vec ℕ Z) Fault) → with_bytes here ≡ given
      → IsAnswer given r → IsAnswer (with_bytes job) r
  answer_at given r same answer = subst (λ job. IsAnswer job r) (sym (ap with_bytes is ∙ same)) answer
