-- The parts of an instruction's type.
use Rattle.std.proofs.Common.{◌≡◌, ℕ, List, ◌++◌, Option, Some, None, Bool, true, false, cond, option_map, option_and_then, refl, subst}
use Rattle.wasm_syntax.specs.declared.values.ValType.{ValType}
use Rattle.wasm_syntax.specs.declared.values.Val.{Val}
use Rattle.wasm_syntax.specs.Typing.{Context, InstrType, Leads, IsMove}
use Rattle.history_spec.specs.Configuration.{Place}
use Rattle.type_safety.specs.Values.{AreValues}
use Rattle.type_safety.specs.Stores.{func_count}
use Rattle.type_safety.specs.Frames.{Scope, IsCode}

module _ (ctx : Context) (before after : List ValType) where
  pub mapped_leads : {X : Type 0} (f : X → InstrType) (o : Option X) → Leads ctx (option_map f o) before after
      → (x : X) × (o ≡ Some x) × Leads ctx (Some (f x)) before after
  mapped_leads f None h = absurd h
  mapped_leads f (Some x) h = (x, refl, h)

  pub then_leads : {X : Type 0} (f : X → Option InstrType) (o : Option X) → Leads ctx (option_and_then f o) before after
      → (x : X) × (o ≡ Some x) × Leads ctx (f x) before after
  then_leads f None h = absurd h
  then_leads f (Some x) h = (x, refl, h)

  pub cond_leads : (b : Bool) (ty : Option InstrType) → Leads ctx (cond b ty None) before after
      → (b ≡ true) × Leads ctx ty before after
  cond_leads true ty h = (refl, h)
  cond_leads false ty h = absurd h

-- the operands are the topmost values, and the next instruction is typed with the results in their place
pub record Ready (s : Scope) (labels : List (List ValType)) (given operands results : List ValType)
    (values : List Val) (next : Place) (base : ℕ) : Type 0 where
  pub below : List ValType
  pub had : AreValues (func_count s.m) (operands ++ below) values
  pub code : IsCode s labels next base (results ++ below) given

pub ready : (s : Scope) (labels : List (List ValType)) (given operands results before middle : List ValType)
    (values : List Val) (next : Place) (base : ℕ)
    → IsMove operands results before middle → AreValues (func_count s.m) before values
    → IsCode s labels next base middle given
    → Ready s labels given operands results values next base
ready s labels given operands results before middle values next base moved p code = record {
  below = moved.below;
  had = subst (λ ts. AreValues (func_count s.m) ts values) moved.had p;
  code = subst (λ ts. IsCode s labels next base ts given) moved.left code;
}
