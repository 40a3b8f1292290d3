-- If an operation on `i32` has no value, the result is that of the definition; and what the definition gives fits.
use Rattle.std.proofs.Common.{◌≡◌, ◌^◌, ◌<◌, IfOk, Ok, sym, ◌∙◌, ap, ap₂, subst, arith}
use Rattle.std.proofs.lemmas.Result.{err_from_is_err_and}
use Rattle.wasm_numeric.specs.Integer.{binary_value}
use Rattle.wasm_numeric.specs.Opcode.{answer_of, width, result_of, binary_of}
use Rattle.wasm_numeric.proofs.OpcodeTable.{binary_opcodes, width_within, width_past}
use Rattle.wasm_numeric.proofs.ValuesFit.{binary_fits, fits_answer}
use Rattle.wasm_numeric.proofs.binary.Goals as goal

pub returns-in_err-value-clause-value : goal.returns-in_err-value-clause-value
returns-in_err-value-clause-value c =
    let p = err_from_is_err_and c.from_residual.result c.from_residual.ensures.1 in
    rw (p.1, p.2)
    (c.in_err-value.ensures
    ∙ ap₂ (λ operation w. answer_of (binary_value operation w c.args.a c.args.b)) c.binary_op-operation.ensures
    (sym (width_within (binary_opcodes c.args.op c.requires.kind) (omega arith))))

pub returns-else-op-le-I32_ROTR-clause-fits : goal.returns-else-op-le-I32_ROTR-clause-fits
returns-else-op-le-I32_ROTR-clause-fits c =
    let value : c.i64_binary.result ≡ answer_of (binary_of c.args.op c.args.a c.args.b) =
    c.i64_binary.ensures
    ∙ ap₂ (λ operation w. answer_of (binary_value operation w c.args.a c.args.b)) c.binary_op-operation.ensures
    (sym (width_past (binary_opcodes c.args.op c.requires.kind) (omega arith))) in
    subst (λ r. IfOk r (λ n. n < 2 ^ width (result_of c.args.op))) (sym value)
    (fits_answer (width (result_of c.args.op)) (binary_of c.args.op c.args.a c.args.b)
    (binary_fits c.args.op c.args.a c.args.b c.requires.kind c.requires.left_fits))

pub returns-in_ok-value-clause-value : goal.returns-in_ok-value-clause-value
returns-in_ok-value-clause-value c =
    ap (λ n. Ok n) c.from.ensures
    ∙ c.in_ok-value.ensures
    ∙ ap₂ (λ operation w. answer_of (binary_value operation w c.args.a c.args.b)) c.binary_op-operation.ensures
    (sym (width_within (binary_opcodes c.args.op c.requires.kind) (omega arith)))

pub returns-else-op-le-I32_ROTR-clause-value : goal.returns-else-op-le-I32_ROTR-clause-value
returns-else-op-le-I32_ROTR-clause-value c =
    c.i64_binary.ensures
    ∙ ap₂ (λ operation w. answer_of (binary_value operation w c.args.a c.args.b)) c.binary_op-operation.ensures
    (sym (width_past (binary_opcodes c.args.op c.requires.kind) (omega arith)))
