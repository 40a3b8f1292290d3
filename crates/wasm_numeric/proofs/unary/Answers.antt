-- Operands that are no `i32` have 64 bits; and what the definition gives fits.
use Rattle.std.proofs.Common.{◌≡◌, ◌^◌, ◌<◌, sym, ◌∙◌, ap₂, subst}
use Rattle.std.proofs.lemmas.Bool.{eqb-true}
use Rattle.wasm_numeric.specs.Integer.{unary_value}
use Rattle.wasm_numeric.specs.Opcode.{width, width_of, result_of, unary_of}
use Rattle.wasm_numeric.proofs.OpcodeTable.{unary_opcodes, unary_width}
use Rattle.wasm_numeric.proofs.ValuesFit.{results_fit}
use Rattle.wasm_numeric.proofs.unary.Goals as goal

wide_value : (c : goal.After-i64_unary) → c.i64_unary.result ≡ unary_of c.args.op c.args.a
wide_value c =
    let wide : width_of c.args.op ≡ 64 = unary_width (width_of c.args.op) c.args.op
    (unary_opcodes c.args.op c.requires.kind) (sym c.is_of_i32.ensures ∙ c.if-is_of_i32.false) in
    c.i64_unary.ensures ∙ ap₂ (λ operation w. unary_value operation w c.args.a) c.unary_op-operation.ensures (sym wide)

pub returns-else-is_of_i32-clause-value : goal.returns-else-is_of_i32-clause-value
returns-else-is_of_i32-clause-value c = wide_value c

pub returns-else-is_of_i32-clause-fits : goal.returns-else-is_of_i32-clause-fits
returns-else-is_of_i32-clause-fits c =
    subst (λ n. n < 2 ^ width (result_of c.args.op)) (sym (wide_value c)) (results_fit.unary c.args.op c.args.a c.requires.kind)

pub returns-then-is_of_i32-clause-fits : goal.returns-then-is_of_i32-clause-fits
returns-then-is_of_i32-clause-fits c =
    let narrow : width_of c.args.op ≡ 32 = eqb-true (width_of c.args.op) 32 (sym c.is_of_i32.ensures ∙ c.if-is_of_i32.true) in
    subst (λ n. n < 2 ^ width (result_of c.args.op))
    (sym (c.from.ensures ∙ c.i32_unary.ensures ∙ ap₂ (λ operation w. unary_value operation w c.args.a) c.unary_op-operation.ensures (sym narrow)))
    (results_fit.unary c.args.op c.args.a c.requires.kind)
