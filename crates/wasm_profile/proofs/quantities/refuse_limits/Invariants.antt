use Rattle.std.proofs.Common.{◌≡◌, drop}
use Rattle.std.specs.Prelude.{filter_map}
use Rattle.wasm_profile.specs.Answers.{past_minimum}
use Rattle.wasm_profile.proofs.quantities.refuse_limits.Given as goal

abbrev pub invariant-all : goal.invariant-all
invariant-all l = filter_map (past_minimum l.most l.which) l.all ≡ filter_map (past_minimum l.most l.which) (drop l.limits-index l.all)
