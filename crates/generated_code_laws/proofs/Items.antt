-- Items of two parts, and of changes.
use Rattle.std.proofs.Common.{◌≡◌, ◌+◌, List, [], ◌∷◌, ◌++◌, true, false, refl, ap, arith}
use Rattle.std.specs.Prelude.{map}
use Rattle.trace_model.specs.declared.tapes.Effect.{Effect}
use Rattle.replay_run_spec.specs.Items.{Item, Makes, Changes, Steps}
use Rattle.generated_code_laws.specs.Counts.{changes_in, steps_in}

-- ---- two parts

pub changes_of_both : (first second : List Item) → changes_in (first ++ second) ≡ changes_in first ++ changes_in second
changes_of_both [] second = refl
changes_of_both (Makes entry ∷ first) second = changes_of_both first second
changes_of_both (Changes change ∷ first) second = ap (λ l. change ∷ l) (changes_of_both first second)
changes_of_both (Steps block ∷ first) second = changes_of_both first second

counts_of_both : (first second : List Item)
    → ((steps_in (first ++ second)).steps ≡ (steps_in first).steps + (steps_in second).steps)
    × ((steps_in (first ++ second)).blocks ≡ (steps_in first).blocks + (steps_in second).blocks)
counts_of_both [] second = (omega arith, omega arith)
counts_of_both (Makes entry ∷ first) second = counts_of_both first second
counts_of_both (Changes change ∷ first) second = counts_of_both first second
counts_of_both (Steps true ∷ first) second =
    let later = counts_of_both first second in
    let blocks = later.1 in
    let all : 1 + (steps_in (first ++ second)).blocks ≡ 1 + (steps_in first).blocks + (steps_in second).blocks =
    omega (arith, blocks) in
    (later.0, all)
counts_of_both (Steps false ∷ first) second =
    let later = counts_of_both first second in
    let steps = later.0 in
    let all : 1 + (steps_in (first ++ second)).steps ≡ 1 + (steps_in first).steps + (steps_in second).steps =
    omega (arith, steps) in
    (all, later.1)

pub steps_of_both : (first second : List Item)
    → (steps_in (first ++ second)).steps ≡ (steps_in first).steps + (steps_in second).steps
steps_of_both first second = (counts_of_both first second).0

pub blocks_of_both : (first second : List Item)
    → (steps_in (first ++ second)).blocks ≡ (steps_in first).blocks + (steps_in second).blocks
blocks_of_both first second = (counts_of_both first second).1

-- ---- changes first

pub changes_there : (changes : List Effect) (later : List Item)
    → changes_in (map Changes changes ++ later) ≡ changes ++ changes_in later
changes_there [] later = refl
changes_there (change ∷ changes) later = ap (λ l. change ∷ l) (changes_there changes later)

pub changes_still : (changes : List Effect) (later : List Item)
    → steps_in (map Changes changes ++ later) ≡ steps_in later
changes_still [] later = refl
changes_still (change ∷ changes) later = changes_still changes later
