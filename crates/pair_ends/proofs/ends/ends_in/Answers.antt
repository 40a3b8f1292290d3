use Rattle.std.proofs.Common.{◌≡◌, ◌+◌, length, refl, ap, ap₂, ◌∙◌, subst}
use Rattle.pair_ends.specs.Ends.{JumpsOfEach}
use Rattle.pair_ends.specs.Spaces.{space}
use Rattle.pair_ends.proofs.Chains.{first_jumps, are_ends}
use Rattle.pair_ends.proofs.ends.ends_in.Goals as goal

pub returns : goal.returns
returns c =
    let pair = c.args.pair.now in
    let own = space c.args.space in
    let left : length c.as_slice-left.result.now ≡ length pair.left.imports =
    ap length c.as_slice-left.ensures ∙ ap (λ m. length m.imports) c.«module».ensures in
    let right : length c.as_slice-right.result.now ≡ length pair.right.imports =
    ap length c.as_slice-right.ensures ∙ ap (λ m. length m.imports) c.module-2.ensures in
    let count : length c.as_slice-left.result.now + length c.as_slice-right.result.now + 1 ≡ length pair.left.imports + length pair.right.imports + 1 =
    ap₂ (λ a b. a + b + 1) left right in
    let firsts = c.in_ok-firsts.firsts in
    let jumps = c.in_ok-jumps.jumps in
    let each : JumpsOfEach (length pair.left.imports + length pair.right.imports + 1) firsts jumps =
    subst (λ n. JumpsOfEach n firsts jumps) count c.in_ok-jumps.ensures in
    are_ends pair own jumps _ refl (each.each pair own (first_jumps pair own firsts c.in_ok-firsts.ensures))
