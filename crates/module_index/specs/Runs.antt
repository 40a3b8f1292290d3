-- The locals of a function after its parameters, by where each run of them ends.
use Rattle.std.specs.Prelude.{◌≡◌, ℕ, ◌-◌, ◌^◌, ◌<◌, ◌≤◌, List, [], ◌∷◌, ◌++◌, length, replicate, take}
use Rattle.wasm_syntax.specs.declared.values.ValType.{ValType}
use Rattle.wasm_syntax.specs.declared.modules.Run.{Run}
use Rattle.wasm_syntax.specs.Validity.{each_local}
use Rattle.module_index.specs.declared.locals.RunEnd.{RunEnd}

-- the locals one by one, from a number on
abbrev pub locals_from : ℕ → List RunEnd → List ValType
locals_from start [] = []
locals_from start (e ∷ ends) = replicate (e.end - start) e.ty ++ locals_from e.end ends

-- where the last run ends
abbrev pub last_end : ℕ → List RunEnd → ℕ
last_end start [] = start
last_end start (e ∷ ends) = last_end e.end ends

-- no run ends before it begins
abbrev pub AreEnds : ℕ → List RunEnd → Type 0
AreEnds start [] = Unit {0}
AreEnds start (e ∷ ends) = (start ≤ e.end) × AreEnds e.end ends

-- the ends of a given number of the runs: of all, or of as many as an index can reach
pub record AreEndsOf (ends : List RunEnd) (count : ℕ) (runs : List Run) : Type 0 where
  pub within : count ≤ length runs
  pub each : locals_from 0 ends ≡ each_local (take count runs)
  pub rising : AreEnds 0 ends
  pub enough : count < length runs → 2 ^ 32 ≤ last_end 0 ends

-- the locals after the last end are out of reach
pub record IsEnough (ends : List RunEnd) (rest : List Run) : Type 0 where
  pub rising : AreEnds 0 ends
  pub enough : 0 < length rest → 2 ^ 32 ≤ last_end 0 ends
