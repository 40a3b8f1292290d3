use Rattle.std.proofs.Common.{◌≡◌, drop}
use Rattle.wasm_syntax.specs.Alike.{same_types}
use Rattle.history_spec.specs.Code.{types_of}
use Rattle.host_actions.proofs.calls.are_of.Given as goal

-- the rest of both lists is as alike as both lists are
abbrev pub invariant-types : goal.invariant-types
invariant-types l = same_types (drop l.at l.types) (types_of (drop l.at l.values))
    ≡ same_types l.types (types_of l.values)
