use Rattle.std.proofs.Common.{◌≡◌, ◌+◌, IfOk, length, ap, ap₂, ◌∙◌, subst}
use Rattle.pair_spec.specs.Pairs.{defined_in, module_of}
use Rattle.pair_ends.specs.Spaces.{space}
use Rattle.pair_ends.proofs.EndsThere.{size}
use Rattle.pair_ends.proofs.Counted.{length_is, few_numbers, numbers_are}
use Rattle.pair_ends.proofs.numbers.side_numbers.Goals as goal

pub numbers_of_ends-requires : goal.numbers_of_ends-requires
numbers_of_ends-requires c =
    let pair = c.args.pair.now in
    let own = space c.args.space in
    let side = c.args.side in
    let counts = c.args.counts.now in
    let imports = c.len-imports.ensures ∙ ap (λ hosts. length hosts.before.items) c.on.ensures ∙ length_is pair own counts c.requires.counts side in
    let defined = c.defined_in-defined.ensures ∙ ap (defined_in own) c.«module».ensures in
    let all : c.len-imports.result + c.defined_in-defined.result ≡ size own (module_of pair side) = ap₂ (λ a b. a + b) imports defined in
    few_numbers pair own counts c.args.ends.now c.requires.countable c.requires.counts c.requires.ends side _ all

pub returns : goal.returns
returns c =
    let pair = c.args.pair.now in
    let own = space c.args.space in
    let side = c.args.side in
    let counts = c.args.counts.now in
    let imports = c.len-imports.ensures ∙ ap (λ hosts. length hosts.before.items) c.on.ensures ∙ length_is pair own counts c.requires.counts side in
    let defined = c.defined_in-defined.ensures ∙ ap (defined_in own) c.«module».ensures in
    let all : c.len-imports.result + c.defined_in-defined.result ≡ size own (module_of pair side) = ap₂ (λ a b. a + b) imports defined in
    subst (λ numbers. IfOk c.numbers_of_ends.result (λ given. given.items ≡ numbers))
    (numbers_are pair own counts c.args.ends.now c.requires.countable c.requires.counts c.requires.ends side _ all)
    c.numbers_of_ends.ensures
