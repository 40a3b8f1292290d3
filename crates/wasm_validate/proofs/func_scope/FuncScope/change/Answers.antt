use Rattle.std.proofs.Common.{sym, subst, ap, ◌∙◌}
use Rattle.wasm_syntax.specs.declared.instructions.Instr.{Instr}
use Rattle.wasm_syntax.specs.declared.instructions.Instr.TheVariants.{BrTable}
use Rattle.wasm_validate.specs.Flat.{within}
use Rattle.wasm_validate.specs.Scopes.{Gives, base_of}
use Rattle.wasm_validate.proofs.func_scope.FuncScope.change.Goals as goal

pub returns-in-Br : goal.returns-in-Br
returns-in-Br c =
    subst (λ (i : Instr). Gives c.branch-stacks.result (within (base_of c.args.self.now) c.args.stacks.now.levels) i) (sym c.in-Br.is)
    (c.branch-stacks.ensures (base_of c.args.self.now))

pub returns-in-BrIf : goal.returns-in-BrIf
returns-in-BrIf c =
    subst (λ (i : Instr). Gives c.branch_if.result (within (base_of c.args.self.now) c.args.stacks.now.levels) i) (sym c.in-BrIf.is)
    (c.branch_if.ensures (base_of c.args.self.now))

pub returns-in-Load : goal.returns-in-Load
returns-in-Load c =
    subst (λ (i : Instr). Gives c.load.result (within (base_of c.args.self.now) c.args.stacks.now.levels) i) (sym c.in-Load.is)
    (c.load.ensures c.args.stacks.now.levels)

pub returns-in-Store : goal.returns-in-Store
returns-in-Store c =
    subst (λ (i : Instr). Gives c.store.result (within (base_of c.args.self.now) c.args.stacks.now.levels) i) (sym c.in-Store.is)
    (c.store.ensures c.args.stacks.now.levels)

pub returns-in-BrTable : goal.returns-in-BrTable
returns-in-BrTable c =
    subst (λ (i : Instr). Gives c.switch.result (within (base_of c.args.self.now) c.args.stacks.now.levels) i)
    (ap (λ labels. BrTable labels c.in-BrTable.default) c.as_slice.ensures ∙ sym c.in-BrTable.is)
    (c.switch.ensures (base_of c.args.self.now))
