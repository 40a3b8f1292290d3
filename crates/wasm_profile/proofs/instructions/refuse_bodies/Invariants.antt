use Rattle.std.proofs.Common.{◌≡◌, ◌+◌, drop}
use Rattle.std.specs.List.{enumerate_from}
use Rattle.wasm_profile.specs.Answers.{refused_of_all}
use Rattle.wasm_profile.proofs.instructions.refuse_bodies.Given as goal

abbrev pub invariant-funcs : goal.invariant-funcs
invariant-funcs l = refused_of_all (enumerate_from l.imported l.funcs) ≡ refused_of_all (enumerate_from (l.imported + l.place) (drop l.place l.funcs))
