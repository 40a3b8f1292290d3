use Rattle.std.proofs.Common.{◌≡◌, map}
use Rattle.guarded_module_spec.specs.GuardedModules.{redirected_instr}
use Rattle.guard_maker.proofs.calls.redirected_body.Given as goal

abbrev pub invariant-instrs : goal.invariant-instrs
invariant-instrs l = l.code.items ≡ map (redirected_instr l.n) l.yielded
