use Rattle.std.proofs.Common.{◌≡◌, drop}
use Rattle.guarded_module_spec.specs.Forms.{has_instr, is_indirect}
use Rattle.guard_maker.proofs.forms.has_indirect.Given as goal

abbrev pub invariant-funcs : goal.invariant-funcs
invariant-funcs l = has_instr is_indirect (drop l.func-index l.funcs) ≡ has_instr is_indirect l.funcs
