use Rattle.std.proofs.Common.{◌≡◌, ◌-◌, ◌+◌, drop, arith, sym, ◌∙◌}
use Rattle.record_replay_spec.specs.Hooks.{hooks}
use Rattle.hook_insert.proofs.FormImports.{at_end, differs, left_are_hooks, skips, takes, too_many}
use Rattle.hook_insert.proofs.form_imports.are_hooks_after.Goals as goal
use Rattle.hook_insert.proofs.form_imports.are_hooks_after.Goals.{else-place-lt15-via-then-place-lt15+else-is_hook, else-place-lt15-via-else-place-lt15, then-skipped-gt0, else-skipped-gt0+then-place-lt15+then-is_hook}

pub returns-else-place-lt15 : goal.returns-else-place-lt15
returns-else-place-lt15 c =
    let func = sym c.is_func.ensures ∙ c.if-not-is_func.false in
    let none : c.imports.skipped ≡ 0 = omega (arith, c.if-skipped-gt0.false) in
    elim c.else-place-lt15.branch [
      | else-place-lt15-via-then-place-lt15+else-is_hook w ↦ sym (c.imports.invariant.left
          ∙ differs c.args.«module».now hooks c.imports.place c.imports.skipped c.args.imports.now
          c.imports.import-index c.import-item.result _ c.imports-test.true c.import-item.is _ func none
          w.if-place-lt15.true (sym w.is_hook.ensures ∙ w.if-is_hook.false))
      | else-place-lt15-via-else-place-lt15 w ↦ sym (c.imports.invariant.left
          ∙ too_many c.args.«module».now hooks c.imports.place c.imports.skipped c.args.imports.now
          c.imports.import-index c.import-item.result _ c.imports-test.true c.import-item.is func none
          (omega (arith, w.if-place-lt15.false)))
    ]

pub returns : goal.returns
returns c =
    sym (c.imports.invariant.left
    ∙ at_end c.args.«module».now hooks c.imports.place c.imports.skipped c.args.imports.now
    c.imports.import-index (omega (arith, c.imports-test.false)) c.imports.invariant.within)

pub imports-preserved : goal.imports-preserved
imports-preserved c =
    let func = sym c.is_func.ensures ∙ c.if-not-is_func.false in
    elim c.if-skipped-gt0.branch [
      | then-skipped-gt0 w ↦ record {
        left =
            c.imports.invariant.left
            ∙ skips c.args.«module».now hooks c.imports.place c.imports.skipped c.args.imports.now
            c.imports.import-index c.import-item.result _ c.imports-test.true c.import-item.is (c.imports.skipped - 1)
            func (omega (arith, w.if-skipped-gt0.true))
            ∙ (λ i. left_are_hooks c.args.«module».now hooks (sym w.place-is i) (sym w.skipped-is i)
            (drop (c.imports.import-index + 1) c.args.imports.now));
        within = omega (arith, w.place-is, c.imports.invariant.within);
      }
      | else-skipped-gt0+then-place-lt15+then-is_hook w ↦ record {
        left =
            c.imports.invariant.left
            ∙ takes c.args.«module».now hooks c.imports.place c.imports.skipped c.args.imports.now
            c.imports.import-index c.import-item.result _ c.imports-test.true c.import-item.is _ func
            (omega (arith, w.if-skipped-gt0.false)) w.if-place-lt15.true (sym w.is_hook.ensures ∙ w.if-is_hook.true)
            ∙ (λ i. left_are_hooks c.args.«module».now hooks (sym w.place-is i) (sym w.skipped-is i)
            (drop (c.imports.import-index + 1) c.args.imports.now));
        within = omega (arith, w.place-is, w.if-place-lt15.true);
      }
    ]
