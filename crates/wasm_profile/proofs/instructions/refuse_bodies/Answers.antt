use Rattle.std.proofs.Common.{◌≡◌, Some, ◌∙◌, rules}
use Rattle.wasm_profile.specs.Answers.{refusal_in, refusal_of}
use Rattle.wasm_profile.proofs.Scans.{func_found, func_passed}
use Rattle.wasm_profile.proofs.instructions.refuse_bodies.Goals as goal

pub returns-in_err-refuse_body : goal.returns-in_err-refuse_body
returns-in_err-refuse_body c =
    let named : refusal_in c.from_residual.result ≡ Some (refusal_of c.in_err-refuse_body.field-0.0) = search rules in
    named ∙ func_found c.args.imported _ c.args.funcs.now c.funcs.place c.index-funcs-place.result _ c.funcs.invariant
    c.funcs-test.true c.index-funcs-place.is c.in_err-refuse_body.ensures

pub funcs-preserved : goal.funcs-preserved
funcs-preserved c =
    func_passed c.args.imported _ c.args.funcs.now c.funcs.place c.index-funcs-place.result c.funcs.invariant
    c.funcs-test.true c.index-funcs-place.is c.in_ok-refuse_body.ensures
