use Rattle.std.proofs.Common.{◌≡◌, ◌*◌, ◌^◌, ◌≤◌, take}
use Rattle.std.specs.Prelude.{sum_by}
use Rattle.wasm_profile.proofs.quantities.count_of_locals.Given as goal

abbrev pub invariant-runs : goal.invariant-runs
invariant-runs l = record {
  counted : l.total ≡ sum_by (λ run. run.count) (take l.run-index l.run-items);
  few : l.total ≤ 2 ^ 32 * l.run-index;
}
