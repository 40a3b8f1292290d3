-- Values that are tested are of the types, and others are not.
use Rattle.std.proofs.Common.{◌≡◌, ℕ, suc, List, [], ◌∷◌, length, Bool, true, false, ◌&&◌, IsTrue, Option, Some, refl, sym, ap, ◌∙◌, subst, ◌≤◌}
use Rattle.std.specs.Prelude.{map, All}
use Rattle.std.proofs.lemmas.List.Elements.{All-nil, All-cons, All-head, All-tail}
use Rattle.base.proofs.Booleans.{and_true, and_false, and_left, and_right}
use Rattle.wasm_syntax.specs.declared.values.ValType.{ValType}
use Rattle.wasm_syntax.specs.declared.values.Val.{Val}
use Rattle.wasm_syntax.specs.Alike.{same_type}
use Rattle.wasm_syntax.specs.Typing.{is_constant}
use Rattle.wasm_syntax.proofs.ValTypes.{type_same, type_own}
use Rattle.wasm_syntax.specs.declared.signatures.FuncType.{FuncType}
use Rattle.wasm_syntax.specs.declared.modules.Module.{Module}
use Rattle.wasm_syntax.specs.Index.{func_type, imported_funcs}
use Rattle.host_script.specs.Fits.{AreOfTypes, IsCallable}
use Rattle.bench_machine.specs.Arguments.{are_of, is_of}

-- lists of two lengths
pub differ_long : (types : List ValType) (values : List Val) → (length types ≡ length values → ⊥) → false ≡ are_of types values
differ_long [] [] h = absurd (h refl)
differ_long [] (v ∷ vs) h = refl
differ_long (t ∷ ts) [] h = refl
differ_long (t ∷ ts) (v ∷ vs) h =
    sym (ap (λ r. is_of t v && r) (sym (differ_long ts vs (λ e. h (ap suc e)))) ∙ and_false (is_of t v))

pub are_of_types : (types : List ValType) (values : List Val) → are_of types values ≡ true → AreOfTypes types values
are_of_types [] [] h = record { in_range = All-nil (λ value. IsTrue (is_constant value)); typed = refl }
are_of_types [] (v ∷ vs) h = cc
are_of_types (t ∷ ts) [] h = cc
are_of_types (t ∷ ts) (v ∷ vs) h =
    let here : is_of t v ≡ true = and_left (is_of t v) (are_of ts vs) h in
    let rest : AreOfTypes ts vs = are_of_types ts vs (and_right (is_of t v) (are_of ts vs) h) in
    let same : t ≡ v.ty = type_same t v.ty (and_left (same_type t v.ty) (is_constant v) here) in
    record {
      in_range = All-cons (λ value. IsTrue (is_constant value)) v vs (and_right (same_type t v.ty) (is_constant v) here) rest.in_range;
      typed = ap (λ a. a ∷ map (λ value. value.ty) vs) (sym same) ∙ ap (λ as'. t ∷ as') rest.typed;
    }

head_is : (a b : ValType) (as' bs : List ValType) → a ∷ as' ≡ b ∷ bs → a ≡ b
head_is a b as' bs e = cc

tail_is : (a b : ValType) (as' bs : List ValType) → a ∷ as' ≡ b ∷ bs → as' ≡ bs
tail_is a b as' bs e = cc

no_head : (a : ValType) (as' : List ValType) → a ∷ as' ≡ [] → ⊥
no_head a as' e = cc

no_nil : (a : ValType) (as' : List ValType) → [] ≡ a ∷ as' → ⊥
no_nil a as' e = cc

pub of_types_are : (types : List ValType) (values : List Val) → AreOfTypes types values → are_of types values ≡ true
of_types_are [] [] h = refl
of_types_are [] (v ∷ vs) h = absurd (no_head v.ty (map (λ value. value.ty) vs) h.typed)
of_types_are (t ∷ ts) [] h = absurd (no_nil t ts h.typed)
of_types_are (t ∷ ts) (v ∷ vs) h =
    let same : v.ty ≡ t = head_is v.ty t (map (λ value. value.ty) vs) ts h.typed in
    and_true (is_of t v) (are_of ts vs)
    (and_true (same_type t v.ty) (is_constant v) (ap (same_type t) same ∙ type_own t) (All-head (λ value. IsTrue (is_constant value)) v vs h.in_range))
    (of_types_are ts vs (record {
      in_range = All-tail (λ value. IsTrue (is_constant value)) v vs h.in_range;
      typed = tail_is v.ty t (map (λ value. value.ty) vs) ts h.typed;
    }))

one_type : (found : Option FuncType) (a b : FuncType) → Some a ≡ found → found ≡ Some b → b ≡ a
one_type found a b e f = let same : Some a ≡ Some b = e ∙ f in cc

-- a defined function of a type is callable if its arguments pass the test
pub callable : (m : Module) (func : ℕ) (args : List Val) (ty : FuncType) (passes : Bool) → imported_funcs m ≤ func
    → Some ty ≡ func_type m func → passes ≡ are_of ty.params args
    → (IsTrue passes → IsCallable m func args) × (IsCallable m func args → IsTrue passes)
callable m func args ty passes defined has_type is = (
  λ t. record { defined = defined; ty = ty; has_type = sym has_type; fit = are_of_types ty.params args (sym is ∙ t) },
  λ k. is ∙ of_types_are ty.params args (subst (λ (t : FuncType). AreOfTypes t.params args) (one_type (func_type m func) ty k.ty has_type k.has_type) k.fit),
)
