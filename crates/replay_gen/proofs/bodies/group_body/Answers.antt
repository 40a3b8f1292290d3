use Rattle.std.proofs.Common.{rules, ◌≡◌, ◌∙◌, [], length, map}
use Rattle.std.proofs.lemmas.List.{length-map}
use Rattle.base.specs.declared.opcodes.TheConstants.{I32_REM_U}
use Rattle.replay_module_spec.specs.Segments.{segments_code}
use Rattle.replay_gen.specs.Pieces.{dispatch_start, selector}
use Rattle.replay_gen.proofs.Blocks.{dispatch_body}
use Rattle.replay_gen.proofs.bodies.group_body.Goals as goal

pub returns : goal.returns
returns c =
    let calls = c.args.calls.now in
    let code = segments_code c.args.scope.now in
    let started : c.push_dispatch_start.new.code.items ≡ dispatch_start (selector 0 I32_REM_U) (length calls) = search rules in
    dispatch_body [] (selector 0 I32_REM_U) (map code calls) (length calls) c.push_dispatch_start.new.code.items
    c.push_call_arms.new.code.items c.from_vec.result (length-map calls code) started
    c.in_ok-push_call_arms.ensures (c.from_vec.ensures ∙ c.in_ok-push_dispatch_end.ensures)
