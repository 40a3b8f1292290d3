use Rattle.std.proofs.Common.{◌≡◌, drop}
use Rattle.std.specs.List.{list_any}
use Rattle.guarded_module_spec.specs.Forms.{is_indirect}
use Rattle.guard_maker.proofs.forms.body_has_indirect.Given as goal

abbrev pub invariant-instrs : goal.invariant-instrs
invariant-instrs l = list_any is_indirect (drop l.instr-index l.body) ≡ list_any is_indirect l.body
