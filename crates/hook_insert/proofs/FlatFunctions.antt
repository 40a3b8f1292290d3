-- A function that is instrumented by passes over its flat body is the instrumented function.
use Rattle.std.proofs.Common.{◌≡◌, ℕ, List, Option, Some, sym, ap, ◌∙◌}
use Rattle.wasm_syntax.specs.declared.signatures.FuncType.{FuncType}
use Rattle.wasm_syntax.specs.declared.instructions.Instr.{Instr}
use Rattle.wasm_syntax.specs.declared.modules.Func.{Func}
use Rattle.wasm_syntax.specs.declared.modules.Module.{Module}
use Rattle.wasm_syntax.specs.Index.{type_at}
use Rattle.wasm_syntax.specs.Laws.{BodiesAreRead}
use Rattle.wasm_syntax.specs.Nest.{Nest, nest_of}
use Rattle.wasm_syntax.specs.Validity.{IsTypedFunc}
use Rattle.record_replay_spec.specs.Instrumented.{instrumented_func, site_of, weights_of_func, with_added_locals}
use Rattle.hook_insert.specs.Rounds.{code_weights, instrumented_code}
use Rattle.hook_insert.specs.Functions.{func_of_rounds, weights_of_rounds}
use Rattle.hook_insert.proofs.Rounds.{code_of_body, weights_of_code}

module _ (read : BodiesAreRead) (m : Module) (index : ℕ) (ty : FuncType) (f : Func) (typed : IsTypedFunc m f)
    (is : type_at m f.ty ≡ Some ty) where
  nested : nest_of f.body ≡ Some typed.nest
  nested = (read typed.nest f.body).0 typed.is_body

  pub func_is : func_of_rounds m index ty f ≡ instrumented_func m index f (type_at m f.ty) (nest_of f.body)
  func_is =
      ap (λ (body : List Instr). record f {
        locals = with_added_locals f.locals;
        body = instrumented_code (site_of m index ty f) ty body;
      }) (sym typed.is_body.written)
      ∙ ap (λ (body : List Instr). record f { locals = with_added_locals f.locals; body = body })
      (sym (code_of_body (site_of m index ty f) ty typed.nest))
      ∙ ap (λ (found : Option FuncType). instrumented_func m index f found (Some typed.nest)) (sym is)
      ∙ ap (λ (nest : Option Nest). instrumented_func m index f (type_at m f.ty) nest) (sym nested)

  pub weights_are : weights_of_rounds m index ty f ≡ weights_of_func m index f (type_at m f.ty) (nest_of f.body)
  weights_are =
      ap (λ (body : List Instr). code_weights (site_of m index ty f) ty body) (sym typed.is_body.written)
      ∙ sym (weights_of_code (site_of m index ty f) ty typed.nest typed.is_body.nested)
      ∙ ap (λ (found : Option FuncType). weights_of_func m index f found (Some typed.nest)) (sym is)
      ∙ ap (λ (nest : Option Nest). weights_of_func m index f (type_at m f.ty) nest) (sym nested)
