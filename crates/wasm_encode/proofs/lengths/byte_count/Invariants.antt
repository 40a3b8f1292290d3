use Rattle.std.proofs.Common.{◌≡◌, ◌+◌, ◌-◌, ◌≤◌}
use Rattle.wasm_encode.specs.Lengths.{byte_count}
use Rattle.wasm_encode.proofs.lengths.byte_count.Given as goal

abbrev pub invariant-bytes : goal.invariant-bytes
invariant-bytes l = record {
  within : l.count ≤ l.most;
  so_far : l.count + byte_count (l.most - l.count) l.last l.left ≡ 1 + byte_count (l.most - 1) l.last l.fn.number;
}

abbrev pub decreases-bytes : goal.decreases-bytes
decreases-bytes l = l.most - l.count
