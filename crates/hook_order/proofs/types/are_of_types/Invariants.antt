use Rattle.std.proofs.Common.{◌≡◌, drop}
use Rattle.wasm_syntax.specs.Alike.{same_types}
use Rattle.history_spec.specs.Code.{types_of}
use Rattle.hook_order.proofs.types.are_of_types.Given as goal

-- the rests of both lists have the same types if and only if the lists have them
abbrev pub invariant-types : goal.invariant-types
invariant-types l = same_types (drop l.at l.types) (types_of (drop l.at l.values))
    ≡ same_types l.types (types_of l.values)
