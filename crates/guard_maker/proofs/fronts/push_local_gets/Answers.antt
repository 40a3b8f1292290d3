use Rattle.std.proofs.Common.{rules, ◌≡◌, ◌+◌, [], ◌∷◌, ◌++◌}
use Rattle.wasm_syntax.specs.declared.instructions.Instr.TheVariants.{LocalGet}
use Rattle.guard_maker.proofs.Steps.{mapped_more}
use Rattle.guard_maker.proofs.fronts.push_local_gets.Goals as goal

pub locals-preserved : goal.locals-preserved
locals-preserved c =
    let written : c.push.new.self.items ≡ c.locals.code.items ++ LocalGet (c.args.first + c.locals.local) ∷ [] = search rules in
    mapped_more LocalGet c.args.first c.locals.local c.args.code.now.items c.locals.code.items c.push.new.self.items
    c.locals.invariant written
