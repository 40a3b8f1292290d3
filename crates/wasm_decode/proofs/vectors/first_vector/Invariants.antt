use Rattle.std.proofs.Common.{◌≡◌, ◌-◌}
use Rattle.wasm_syntax.specs.Encoding.Combinators.{first_items}
use Rattle.wasm_decode.proofs.ItemLemmas.{with_front}
use Rattle.wasm_decode.proofs.vectors.first_vector.Given as goal

abbrev pub invariant-loop : goal.invariant-loop
invariant-loop g l =
    with_front l.items.items (first_items (g.K.Kind.first l.fn.form) (l.count - l.counter) l.rest)
    ≡ first_items (g.K.Kind.first l.fn.form) l.count l.initial.rest
