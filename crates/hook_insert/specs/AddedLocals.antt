-- A function's locals with the added ones, in two parts.
use Rattle.std.specs.Prelude.{◌+◌, List, [], ◌∷◌, cond}
use Rattle.wasm_syntax.specs.declared.values.ValType.TheVariants.{I32}
use Rattle.wasm_syntax.specs.declared.modules.Run.{Run}
use Rattle.wasm_syntax.specs.Alike.{same_type}
use Rattle.record_replay_spec.specs.Instrumented.{locals_of}

-- the last run and two i32 locals: one run if the last run is of i32 too
abbrev pub last_with_numbers : Run → List Run
last_with_numbers last =
    cond (same_type last.ty I32) (locals_of (last.count + 2) I32 ∷ []) (last ∷ locals_of 2 I32 ∷ [])

-- all runs and two i32 locals
abbrev pub with_numbers : List Run → List Run
with_numbers [] = locals_of 2 I32 ∷ []
with_numbers (last ∷ []) = last_with_numbers last
with_numbers (run ∷ next ∷ runs) = run ∷ with_numbers (next ∷ runs)
