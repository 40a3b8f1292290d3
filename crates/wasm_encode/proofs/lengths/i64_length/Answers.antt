use Rattle.std.proofs.Common.{◌≡◌, ap, sym, ◌∙◌, arith, w64}
use Rattle.std.proofs.lemmas.Int.{to_z-of_z}
use Rattle.wasm_encode.proofs.LengthLemmas.{count_most, s64_count}
use Rattle.wasm_encode.specs.Lengths.{byte_count, magnitude}
use Rattle.wasm_encode.proofs.lengths.i64_length.Goals as goal

pub returns-clause-length : goal.returns-clause-length
returns-clause-length c =
    let is : c.magnitude.result ≡ magnitude c.args.number = c.magnitude.ensures
    ∙ ap magnitude (to_z-of_z w64 c.args.number c.ranges.number) in
    c.byte_count.ensures ∙ ap (λ n. byte_count 9 64 n) is ∙ sym (s64_count c.args.number)

pub returns-clause-few : goal.returns-clause-few
returns-clause-few c = omega (arith, c.byte_count.ensures, count_most 9 64 c.magnitude.result)
