use Rattle.std.proofs.Common.{[], ◌∷◌, string_bytes, subst}
use Rattle.r3_core.specs.Causes.{IsFile}
use Rattle.r3_core.proofs.CauseLemmas.{all_loaded, stopped_early, stopped_late}
use Rattle.r3_core.proofs.command_files.load_two.Goals as goal

pub returns-in_err-first-clause-loads : goal.returns-in_err-first-clause-loads
returns-in_err-first-clause-loads g c =
    stopped_early _ _ ((string_bytes c.args.second.0.now, c.args.second.1) ∷ []) _ _ _ _ c.in_err-first.ensures.loads
    c.from_residual.ensures.1

pub returns-in_err-second-clause-loads : goal.returns-in_err-second-clause-loads
returns-in_err-second-clause-loads g c =
    stopped_late _ _ _ _ _ _ _ _ _ _ _ _ _ _ c.in_ok-first.ensures.loads c.in_ok-first.ensures.contents_unchanged _ _
    c.in_err-second.ensures.loads c.from_residual-in_err-second.ensures.1

pub returns-clause-loads : goal.returns-clause-loads
returns-clause-loads g c =
    let same = c.in_ok-first.ensures.contents_unchanged in
    all_loaded _ _ _ _ _ _ _ _ _ _ _ _ _ _ c.in_ok-first.ensures.loads same _ _ c.in_ok-second.ensures.loads
    (λ first second. (
      first,
      subst (λ contents. IsFile contents (string_bytes c.args.second.0.now, c.args.second.1) c.in_ok-second.second.items) same second,
    ))
