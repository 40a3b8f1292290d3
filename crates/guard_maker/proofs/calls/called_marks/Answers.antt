use Rattle.std.proofs.Common.{rules, ◌≡◌, [], ◌++◌, replicate, false, subst, sym, filter_map}
use Rattle.std.proofs.lemmas.Grind.{flat_map-append}
use Rattle.wasm_syntax.specs.declared.modules.Func.{Func}
use Rattle.module_index.specs.Marks.{AreMarks}
use Rattle.module_index.proofs.MarkLemmas.{none-marked}
use Rattle.guarded_module_spec.specs.GuardedModules.{called_func, called_funcs}
use Rattle.guard_maker.proofs.calls.called_marks.Goals as goal

pub returns : goal.returns
returns c =
    let below = c.args.below in
    let fresh : c.in_ok-marks.marks.items ≡ replicate below false = search rules in
    subst (AreMarks c.mark_funcs-2.new.marks.items below)
    (sym (flat_map-append (λ (f : Func). filter_map called_func f.body) c.args.first.now c.args.second.now))
    (c.mark_funcs-2.ensures below (called_funcs c.args.first.now)
    (c.mark_funcs.ensures below [] (none-marked below c.in_ok-marks.marks.items fresh)))
