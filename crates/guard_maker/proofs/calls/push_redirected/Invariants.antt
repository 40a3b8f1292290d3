use Rattle.std.proofs.Common.{◌≡◌, ◌++◌, map}
use Rattle.guarded_module_spec.specs.GuardedModules.{redirected}
use Rattle.guard_maker.proofs.calls.push_redirected.Given as goal

abbrev pub invariant-funcs : goal.invariant-funcs
invariant-funcs l = l.list.items ≡ l.fn.list.items ++ map (redirected l.n) l.yielded
