use Rattle.std.proofs.Common.{rules}
use Rattle.std.proofs.lemmas.List.Sorted.{IsNonDecreasingBy-from_sort_by_key, answers_always}
use Rattle.trace_reduce.proofs.Groups.{all_in_order, same_bytes}
use Rattle.trace_reduce.proofs.byte_groups.sort_groups.Goals as goal

pub returns-clause-sorted : goal.returns-clause-sorted
returns-clause-sorted c =
    all_in_order _
    (IsNonDecreasingBy-from_sort_by_key (λ group. group.0) _ c.in_ok-sort_by_key.ensures.sorted
    (λ a r q k. search rules))

pub returns-clause-bytes : goal.returns-clause-bytes
returns-clause-bytes c =
    same_bytes _ _
    (c.sort_by_key.ensures.stable (λ group. group.0) (answers_always _ _ _ (λ f a r g h. search rules)))
