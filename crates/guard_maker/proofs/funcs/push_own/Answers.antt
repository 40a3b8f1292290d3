use Rattle.std.proofs.Common.{rules, ◌≡◌, List, [], ◌∷◌, ◌++◌, length}
use Rattle.wasm_syntax.specs.declared.modules.Func.{Func}
use Rattle.guarded_module_spec.specs.Functions.{check_func, digest_funcs, group_funcs, next_func, start_func}
use Rattle.guard_maker.proofs.Steps.{own_parts}
use Rattle.guard_maker.proofs.funcs.push_own.Goals as goal

pub returns : goal.returns
returns c =
    let n = c.args.n in
    let words = c.args.words.now in
    let old : List Func = c.args.list.now.items in
    let first : c.push.new.self.items ≡ old ++ start_func n c.args.entry ∷ [] = search rules in
    let third : c.push-2.new.self.items ≡ c.push_digest.new.funcs.items ++ check_func n ∷ [] = search rules in
    let fourth : c.push-3.new.self.items ≡ c.push-2.new.self.items ++ next_func n (length words) ∷ [] = search rules in
    own_parts old c.push.new.self.items c.push_digest.new.funcs.items c.push-2.new.self.items c.push-3.new.self.items
    c.push_groups.new.funcs.items (start_func n c.args.entry) (check_func n) (next_func n (length words))
    (digest_funcs n.digests n) (group_funcs n words) first c.in_ok-push_digest.ensures third fourth
    c.in_ok-push_groups.ensures
