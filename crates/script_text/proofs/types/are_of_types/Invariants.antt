use Rattle.std.proofs.Common.{◌≡◌, map, drop}
use Rattle.wasm_syntax.specs.Alike.{same_types}
use Rattle.script_text.proofs.types.are_of_types.Given as goal

abbrev pub invariant-values : goal.invariant-values
invariant-values l = same_types (map (λ value. value.ty) l.values) l.types ≡ same_types (map (λ value. value.ty) (drop l.index l.values)) (drop l.index l.types)
