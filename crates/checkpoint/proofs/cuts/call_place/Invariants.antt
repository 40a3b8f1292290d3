use Rattle.std.proofs.Common.{◌≡◌, ◌+◌, ◌≤◌, drop}
use Rattle.rest_spec.specs.Cuts.{cut_of, tape_calls}
use Rattle.checkpoint.proofs.cuts.call_place.Given as goal

-- the cut and the number of calls by what is left of the segments
abbrev pub invariant-segments : goal.invariant-segments
invariant-segments l = record {
  cut : cut_of l.k 0 l.segments ≡ cut_of l.search.number l.search.opened (drop l.place l.segments);
  calls : tape_calls l.segments 0 + l.search.number ≡ l.k + tape_calls (drop l.place l.segments) l.search.opened;
  opened : l.search.opened ≤ l.place;
  number : l.search.number ≤ l.k;
}
