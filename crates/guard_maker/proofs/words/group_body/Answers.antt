use Rattle.std.proofs.Common.{rules, ◌≡◌, ◌∙◌, [], length, map}
use Rattle.std.proofs.lemmas.List.{length-map}
use Rattle.base.specs.declared.opcodes.TheConstants.{I32_REM_U}
use Rattle.replay_gen.specs.Pieces.{dispatch_start, selector}
use Rattle.replay_gen.proofs.Blocks.{dispatch_body}
use Rattle.guarded_module_spec.specs.Functions.{word_arm}
use Rattle.guard_maker.proofs.words.group_body.Goals as goal

pub returns : goal.returns
returns c =
    let words = c.args.words.now in
    let started : c.push_dispatch_start.new.code.items ≡ dispatch_start (selector 0 I32_REM_U) (length words) = search rules in
    dispatch_body [] (selector 0 I32_REM_U) (map word_arm words) (length words) c.push_dispatch_start.new.code.items
    c.push_word_arms.new.code.items c.from_vec.result (length-map words word_arm) started
    c.in_ok-push_word_arms.ensures (c.from_vec.ensures ∙ c.in_ok-push_dispatch_end.ensures)
