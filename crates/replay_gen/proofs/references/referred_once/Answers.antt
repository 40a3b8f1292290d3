use Rattle.std.proofs.Common.{rules, ◌≡◌, ◌∙◌, ap, ℕ, List, ◌++◌, length, get_or, false, filter, subst, nat_eq, IfOk, arith}
use Rattle.std.specs.List.{list_any, range_with_len}
use Rattle.module_index.specs.Marks.{AreMarks}
use Rattle.replay_module_spec.specs.Fragments.{referred_funcs}
use Rattle.replay_gen.proofs.Marks.{same_filter}
use Rattle.replay_gen.proofs.references.referred_once.Goals as goal

pub returns : goal.returns
returns c =
    let marks = c.in_ok-marks.marks.items in
    let done = referred_funcs (c.args.bodies.now ++ (c.args.own.now ++ c.args.helpers.now)) in
    let are : AreMarks marks c.args.below done = search rules in
    let seen : c.as_slice.result.now ≡ marks = search rules in
    subst (λ (l : List ℕ). IfOk c.marked_funcs.result (λ funcs. funcs ≡ l))
    (ap (λ ms. filter (λ func. get_or ms func false) (range_with_len 0 (length ms))) seen
    ∙ (ap (λ n. filter (λ func. get_or marks func false) (range_with_len 0 n)) are.many
    ∙ same_filter (λ func. get_or marks func false) (λ func. list_any (nat_eq func) done) 0 c.args.below (λ f lt. are.each f (omega (arith, lt)))))
    c.marked_funcs.ensures
