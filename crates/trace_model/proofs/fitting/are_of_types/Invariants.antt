use Rattle.std.proofs.Common.{◌≡◌, drop}
use Rattle.wasm_syntax.specs.Alike.{same_types}
use Rattle.trace_model.specs.Fitting.{types_of}
use Rattle.trace_model.proofs.fitting.are_of_types.Given as goal

-- the rests of both lists have the same types if and only if the lists have them
abbrev pub invariant-values : goal.invariant-values
invariant-values l = same_types (types_of (drop l.at l.values)) (drop l.at l.types)
    ≡ same_types (types_of l.values) l.types
