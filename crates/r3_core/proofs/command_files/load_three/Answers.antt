use Rattle.std.proofs.Common.{[], ◌∷◌, string_bytes, subst}
use Rattle.r3_core.specs.Causes.{IsFile}
use Rattle.r3_core.proofs.CauseLemmas.{all_loaded, stopped_early, stopped_late}
use Rattle.r3_core.proofs.command_files.load_three.Goals as goal

pub returns-in_err-first-clause-loads : goal.returns-in_err-first-clause-loads
returns-in_err-first-clause-loads g c =
    stopped_early _ _ ((string_bytes c.args.third.0.now, c.args.third.1) ∷ []) _ _ _ _ c.in_err-first.ensures.loads
    c.from_residual.ensures.1

pub returns-in_err-third-clause-loads : goal.returns-in_err-third-clause-loads
returns-in_err-third-clause-loads g c =
    stopped_late _ _ _ _ _ _ _ _ _ _ _ _ _ _ c.in_ok-first.ensures.loads c.in_ok-first.ensures.contents_unchanged _ _
    c.in_err-third.ensures.loads c.from_residual-in_err-third.ensures.1

pub returns-clause-loads : goal.returns-clause-loads
returns-clause-loads g c =
    let same = c.in_ok-first.ensures.contents_unchanged in
    all_loaded _ _ _ _ _ _ _ _ _ _ _ _ _ _ c.in_ok-first.ensures.loads same _ _ c.in_ok-third.ensures.loads
    (λ both third. (
      both.0,
      both.1,
      subst (λ contents. IsFile contents (string_bytes c.args.third.0.now, c.args.third.1) c.in_ok-third.third.items) same third,
    ))
