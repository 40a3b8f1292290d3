use Rattle.std.proofs.Common.{◌≡◌, ◌++◌, take}
use Rattle.std.specs.Prelude.{flat_map}
use Rattle.hook_insert.specs.Rounds.{round, weights_round}
use Rattle.hook_insert.proofs.sites.BodySite.push_rounds.Given as goal

abbrev pub invariant-body : goal.invariant-body
invariant-body l = record {
  code : l.code.items ≡ l.initial.code.items ++ flat_map (round l.self) (take l.instr-index l.body);
  weights : l.weights.items ≡ l.initial.weights.items ++ flat_map (weights_round l.self) (take l.instr-index l.body);
}
