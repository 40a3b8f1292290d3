use Rattle.std.proofs.Common.{◌≡◌, ℕ, ◌++◌, ◌+◌, length, map}
use Rattle.std.specs.List.{enumerate_from}
use Rattle.wasm_syntax.specs.declared.modules.Func.{Func}
use Rattle.guarded_module_spec.specs.Fronts.{import_front}
use Rattle.guarded_module_spec.specs.GuardedModules.{import_fronts, type_in}
use Rattle.guard_maker.proofs.funcs.push_import_fronts.Given as goal

-- the fronts made and those still to make are all; all indices are within bounds
abbrev pub invariant-fronts : goal.invariant-fronts
invariant-fronts l =
    (l.list.items
    ++ map (λ (e : ℕ × Func). import_front l.n (type_in l.types e.1.ty) e.0 e.1.ty) (enumerate_from l.import l.funcs)
    ≡ l.fn.list.items ++ import_fronts l.types l.n l.fn.funcs)
    × (l.import + length l.funcs ≡ length l.fn.funcs)

abbrev pub decreases-fronts : goal.decreases-fronts
decreases-fronts l = length l.funcs
