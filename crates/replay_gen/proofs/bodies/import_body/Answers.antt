use Rattle.std.proofs.Common.{rules, ◌≡◌, ◌∙◌, ap, ◌++◌, map}
use Rattle.std.specs.List.{range_with_len}
use Rattle.std.proofs.lemmas.List.FromFn.{length-map-range_with_len}
use Rattle.base.specs.declared.opcodes.TheConstants.{I32_DIV_U}
use Rattle.replay_module_spec.specs.Functions.{count_code, group_call}
use Rattle.replay_gen.specs.Pieces.{dispatch_start, selector}
use Rattle.replay_gen.proofs.Blocks.{dispatch_body}
use Rattle.replay_gen.proofs.bodies.import_body.Goals as goal

pub returns : goal.returns
returns c =
    let local = c.args.local in
    let start = dispatch_start (selector local I32_DIV_U) c.args.count in
    let counted : c.push_count.new.code.items ≡ count_code c.args.counter local = search rules in
    dispatch_body (count_code c.args.counter local) (selector local I32_DIV_U)
    (map (group_call local) (range_with_len c.args.first c.args.count)) c.args.count c.push_dispatch_start.new.code.items
    c.push_group_arms.new.code.items c.from_vec.result (length-map-range_with_len (group_call local) c.args.first c.args.count)
    (c.in_ok-push_dispatch_start.ensures ∙ ap (λ l. l ++ start) counted)
    c.in_ok-push_group_arms.ensures (c.from_vec.ensures ∙ c.in_ok-push_dispatch_end.ensures)
