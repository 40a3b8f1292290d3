-- How many locals runs are.
use Rattle.std.proofs.Common.{◌≡◌, List, [], ◌∷◌, length, replicate, refl, arith}
use Rattle.std.specs.Prelude.{sum_by}
use Rattle.std.proofs.lemmas.List.{length-append, length-replicate}
use Rattle.std.proofs.lemmas.List.Sums.{sum_by-cons}
use Rattle.wasm_syntax.specs.declared.modules.Run.{Run}
use Rattle.wasm_syntax.specs.Validity.{each_local}

pub locals_count : (runs : List Run) → sum_by (λ (run : Run). run.count) runs ≡ length (each_local runs)
locals_count [] = refl
locals_count (run ∷ runs) =
    omega (
      arith,
      sum_by-cons (λ (r : Run). r.count) run runs,
      locals_count runs,
      length-append (replicate run.count run.ty) (each_local runs),
      length-replicate run.count run.ty,
    )
