-- The steps that a call of an import takes to its arm.
use Rattle.std.proofs.Common.{◌≡◌, ℕ, zero, suc, ◌+◌, List, [], ◌∷◌, ◌++◌, true, false, replicate, refl, arith}
use Rattle.replay_run_spec.specs.Items.{Item, Steps}
use Rattle.generated_code_laws.specs.Counts.{steps_in}
use Rattle.generated_code_laws.proofs.Items.{steps_of_both, blocks_of_both}
use Rattle.generated_code_laws.proofs.Bounded.{steps_counted}

blocks_counted : (count : ℕ) → ((steps_in (replicate count (Steps true))).steps ≡ 0)
    × ((steps_in (replicate count (Steps true))).blocks ≡ count)
blocks_counted zero = (refl, refl)
blocks_counted (suc count) =
    let later = blocks_counted count in let blocks = later.1 in (later.0, omega (arith, blocks))

-- blocks, and the steps of their table
abbrev pub table_items : (arms : ℕ) → List Item
table_items arms = replicate (suc arms) (Steps true) ++ replicate 4 (Steps false)

table_counted : (arms : ℕ) → ((steps_in (table_items arms)).steps ≡ 4)
    × ((steps_in (table_items arms)).blocks ≡ suc arms)
table_counted arms =
    let blocks = blocks_counted (suc arms) in
    let four = steps_counted 4 in
    let a = steps_of_both (replicate (suc arms) (Steps true)) (replicate 4 (Steps false)) in
    let b = blocks_of_both (replicate (suc arms) (Steps true)) (replicate 4 (Steps false)) in
    let c = blocks.0 in
    let d = blocks.1 in
    let e = four.0 in
    let f = four.1 in
    (omega (arith, a, c, e), omega (arith, b, d, f))

-- the items of a call: it is counted, its group is found and called, and its arm is found in the group
abbrev pub dispatch_items : (arms group_arms : ℕ) → List Item
dispatch_items arms group_arms =
    replicate 5 (Steps false)
    ++ (table_items arms ++ (Steps false ∷ [] ++ (Steps false ∷ [] ++ table_items group_arms)))

pub dispatch_counted : (arms group_arms : ℕ) → ((steps_in (dispatch_items arms group_arms)).steps ≡ 15)
    × ((steps_in (dispatch_items arms group_arms)).blocks ≡ suc arms + suc group_arms)
dispatch_counted arms group_arms =
    let later : List Item = Steps false ∷ [] ++ (Steps false ∷ [] ++ table_items group_arms) in
    let five = steps_counted 5 in
    let first = table_counted arms in
    let second = table_counted group_arms in
    let a = steps_of_both (replicate 5 (Steps false)) (table_items arms ++ later) in
    let b = blocks_of_both (replicate 5 (Steps false)) (table_items arms ++ later) in
    let c = steps_of_both (table_items arms) later in
    let d = blocks_of_both (table_items arms) later in
    let e = five.0 in
    let f = five.1 in
    let g = first.0 in
    let h = first.1 in
    let i = second.0 in
    let j = second.1 in
    let k : (steps_in later).steps ≡ 1 + (1 + (steps_in (table_items group_arms)).steps) = refl in
    let l : (steps_in later).blocks ≡ (steps_in (table_items group_arms)).blocks = refl in
    (omega (arith, a, c, e, g, i, k), omega (arith, b, d, f, h, j, l))
