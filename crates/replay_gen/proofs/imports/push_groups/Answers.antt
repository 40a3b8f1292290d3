use Rattle.std.proofs.Common.{rules, ◌≡◌, ◌∙◌, ℕ, List, [], ◌∷◌, ◌++◌, ◌*◌, ap, map, take, drop, length}
use Rattle.std.specs.List.{range_with_len}
use Rattle.wasm_syntax.specs.declared.modules.Func.{Func}
use Rattle.trace_model.specs.declared.tapes.Segment.{Segment}
use Rattle.replay_module_spec.specs.declared.groups.TheConstants.{GROUP_CALLS}
use Rattle.replay_module_spec.specs.Functions.{group_count, group_func}
use Rattle.replay_gen.proofs.Groups.{made_more, map_twice}
use Rattle.replay_gen.proofs.imports.push_groups.Goals as goal

pub groups-preserved : goal.groups-preserved
groups-preserved c =
    let calls : List (List Segment) = c.args.calls.now in
    let made : List (List Segment) → Func = group_func c.args.scope.now c.args.ty in
    let written : c.push.new.self.items ≡ c.groups.funcs.items ++ c.in_ok-group_func.field-0 ∷ [] = search rules in
    made_more (λ number. made (take GROUP_CALLS (drop (GROUP_CALLS * number) calls))) c.groups.number c.args.funcs.now.items
    c.groups.funcs.items c.push.new.self.items c.in_ok-group_func.field-0 c.groups.invariant written
    (c.in_ok-group_func.ensures ∙ ap made c.group.ensures.group)

pub returns : goal.returns
returns c =
    let calls : List (List Segment) = c.args.calls.now in
    let made : List (List Segment) → Func = group_func c.args.scope.now c.args.ty in
    let part : ℕ → List (List Segment) = λ number. take GROUP_CALLS (drop (GROUP_CALLS * number) calls) in
    let all : c.groups.number ≡ group_count (length calls) = search rules in
    c.groups.invariant
    ∙ (ap (λ n. c.args.funcs.now.items ++ map (λ number. made (part number)) (range_with_len 0 n)) all
    ∙ ap (λ l. c.args.funcs.now.items ++ l) (map_twice made part (range_with_len 0 (group_count (length calls)))))
