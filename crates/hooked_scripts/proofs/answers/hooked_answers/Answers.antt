use Rattle.std.proofs.Common.{option_map}
use Rattle.record_replay_spec.specs.HookedRuns.{renumbered_answer}
use Rattle.hooked_scripts.proofs.Fitting.{hooks_after_all}
use Rattle.hooked_scripts.proofs.answers.hooked_answers.Goals as goal

pub returns : goal.returns
returns c =
    let all = hooks_after_all c.args.imports c.args.answers (option_map (renumbered_answer c.args.imports))
    c.requires.same in
    let made = c.in_ok-list.ensures in
    let pushed = c.in_ok-push_hook_answers.ensures in
    let list = c.from_vec.ensures in
    cc
