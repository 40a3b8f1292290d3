use Rattle.std.proofs.Common.{◌≡◌, ℕ, Bool, true, false, Some, leb, ap, sym, ◌∙◌, List, arith, rules}
use Rattle.std.specs.Prelude.{slice_get, option_map}
use Rattle.std.specs.List.Sorted.{IsPartitionPoint}
use Rattle.std.proofs.lemmas.List.Sorted.{IsPartitionPoint-from_clause, IsPartitionedBy-leb}
use Rattle.std.proofs.lemmas.Bool.{leb-true, leb-false}
use Rattle.module_index.specs.declared.locals.RunEnd.{RunEnd}
use Rattle.std.proofs.lemmas.Option.{slice_get-get_or, slice_get_past}
use Rattle.module_index.specs.Runs.{locals_from, AreEnds}
use Rattle.module_index.proofs.RunLemmas.{ends-rise, run-over}
use Rattle.module_index.proofs.locals.find.Goals as goal

-- the run that the search finds, if there is one
over : (ends : List RunEnd) (place at : ℕ) → AreEnds 0 ends
    → IsPartitionPoint (λ (y : RunEnd). leb y.end place ≡ true) (λ (y : RunEnd). leb y.end place ≡ false) ends at
    → option_map (λ (e : RunEnd). e.ty) (slice_get ends at) ≡ slice_get (locals_from 0 ends) place
over ends place at h point =
    run-over 0 ends place at h (omega arith) (λ k d lt le. leb-true _ _ (point.0 k d (omega arith) lt)) (λ k d le lt. leb-false _ _ (point.1 k d le lt))
    ∙ ap (slice_get (locals_from 0 ends)) (omega arith)

pub returns-in-Some : goal.returns-in-Some
returns-in-Some c =
    let p : RunEnd → Bool = λ e. leb e.end c.args.place in
    let point : IsPartitionPoint (λ y. p y ≡ true) (λ y. p y ≡ false) c.args.ends.now c.partition_point-at.result =
    IsPartitionPoint-from_clause p c.args.ends.now c.partition_point-at.result c.partition_point-at.ensures.partitioned
    (IsPartitionedBy-leb (λ (e : RunEnd). e.end) c.args.ends.now c.args.place
    (λ i j d le lt. ends-rise 0 c.args.ends.now i j d c.requires le lt)) (search rules) in
    let found = c.in-Some.ensures.lookup in
    let run : RunEnd = c.in-Some.run'.now in
    sym (ap (option_map (λ (e : RunEnd). e.ty)) (slice_get-get_or c.args.ends.now c.partition_point-at.result run found.3.0 ∙ ap Some (sym found.1)))
    ∙ over c.args.ends.now c.args.place c.partition_point-at.result c.requires point

pub returns-in-None : goal.returns-in-None
returns-in-None c =
    let p : RunEnd → Bool = λ e. leb e.end c.args.place in
    let point : IsPartitionPoint (λ y. p y ≡ true) (λ y. p y ≡ false) c.args.ends.now c.partition_point-at.result =
    IsPartitionPoint-from_clause p c.args.ends.now c.partition_point-at.result c.partition_point-at.ensures.partitioned
    (IsPartitionedBy-leb (λ (e : RunEnd). e.end) c.args.ends.now c.args.place
    (λ i j d le lt. ends-rise 0 c.args.ends.now i j d c.requires le lt)) (search rules) in
    let found = c.in-None.ensures.lookup in
    sym (ap (option_map (λ (e : RunEnd). e.ty)) (slice_get_past c.args.ends.now c.partition_point-at.result found.3))
    ∙ over c.args.ends.now c.args.place c.partition_point-at.result c.requires point
