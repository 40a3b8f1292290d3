use Rattle.std.proofs.Common.{length, sym, ap, ◌∙◌}
use Rattle.std.proofs.lemmas.Bool.{false_from_ne_true}
use Rattle.std.proofs.lemmas.List.{length-map}
use Rattle.wasm_syntax.specs.Alike.{same_types}
use Rattle.wasm_syntax.proofs.ValTypes.{types_same}
use Rattle.history_spec.specs.Code.{types_of}
use Rattle.host_actions.proofs.calls.are_of.Goals as goal

pub returns-then-types-values : goal.returns-then-types-values
returns-then-types-values c =
    let types = c.args.types.now in
    let values = c.args.values.now in
    sym (false_from_ne_true (same_types types (types_of values)) (λ same. c.if-types-values.true
    (ap length (types_same types (types_of values) same) ∙ length-map values (λ value. value.ty))))
