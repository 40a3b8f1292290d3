use Rattle.std.proofs.Common.{rules, ◌≡◌, ◌∙◌, ℕ, List, [], ◌∷◌, ◌++◌, ◌*◌, ap, map, take, drop, length}
use Rattle.std.specs.List.{range_with_len}
use Rattle.wasm_syntax.specs.declared.modules.Func.{Func}
use Rattle.replay_module_spec.specs.declared.groups.TheConstants.{GROUP_CALLS}
use Rattle.replay_module_spec.specs.Functions.{group_count}
use Rattle.replay_gen.proofs.Groups.{made_more}
use Rattle.guarded_module_spec.specs.Functions.{group_func}
use Rattle.guard_maker.proofs.words.push_groups.Goals as goal

pub groups-preserved : goal.groups-preserved
groups-preserved c =
    let words : List ℕ = c.args.words.now in
    let made : List ℕ → Func = group_func c.args.n in
    let written : c.push.new.self.items ≡ c.groups.funcs.items ++ c.in_ok-group_func.field-0 ∷ [] = search rules in
    made_more (λ number. made (take GROUP_CALLS (drop (GROUP_CALLS * number) words))) c.groups.number c.args.funcs.now.items
    c.groups.funcs.items c.push.new.self.items c.in_ok-group_func.field-0 c.groups.invariant written
    (c.in_ok-group_func.ensures ∙ ap made c.group.ensures.group)

pub returns : goal.returns
returns c =
    let words : List ℕ = c.args.words.now in
    let all : c.groups.number ≡ group_count (length words) = search rules in
    c.groups.invariant
    ∙ ap (λ n. c.args.funcs.now.items
    ++ map (λ number. group_func c.args.n (take GROUP_CALLS (drop (GROUP_CALLS * number) words))) (range_with_len 0 n)) all
