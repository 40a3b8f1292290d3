-- Values do not have the types of a list of another length.
use Rattle.std.proofs.Common.{◌≡◌, suc, List, [], ◌∷◌, length, false, refl, sym, ap, ◌∙◌, ◌&&◌}
use Rattle.base.proofs.Booleans.{and_false}
use Rattle.wasm_syntax.specs.declared.values.ValType.{ValType}
use Rattle.wasm_syntax.specs.declared.values.Val.{Val}
use Rattle.wasm_syntax.specs.Alike.{same_type, same_types}
use Rattle.trace_model.specs.Fitting.{types_of}

pub differ_long : (values : List Val) (types : List ValType) → (length values ≡ length types → ⊥)
    → false ≡ same_types (types_of values) types
differ_long [] [] h = absurd (h refl)
differ_long [] (y ∷ ys) h = refl
differ_long (x ∷ xs) [] h = refl
differ_long (x ∷ xs) (y ∷ ys) h =
    sym (ap (λ t. same_type x.ty y && t) (sym (differ_long xs ys (λ e. h (ap suc e)))) ∙ and_false (same_type x.ty y))
