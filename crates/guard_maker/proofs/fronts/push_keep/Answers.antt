use Rattle.std.proofs.Common.{rules, ◌≡◌, ◌∙◌, ◌++◌, ap, length, replicate}
use Rattle.wasm_syntax.specs.declared.instructions.Instr.TheVariants.{LocalSet}
use Rattle.guard_maker.proofs.Steps.{same_for_each}
use Rattle.guard_maker.proofs.fronts.push_keep.Goals as goal

pub returns : goal.returns
returns c =
    let all : c.results.counter ≡ length c.args.results.now = search rules in
    c.results.invariant
    ∙ ap (λ n. c.args.code.now.items ++ replicate n (LocalSet c.args.local)) all
    ∙ ap (λ l. c.args.code.now.items ++ l) (same_for_each (LocalSet c.args.local) c.args.results.now)
