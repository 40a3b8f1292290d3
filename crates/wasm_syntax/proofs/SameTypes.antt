-- The derived equality of function types is that of their values.
use Rattle.std.proofs.Common.{◌≡◌, ℕ, List, Bool, true, Some, slice_get, get_or, position, Contains, Decides, refl, sym, ap, ◌∙◌, subst}
use Rattle.std.proofs.lemmas.List.Quantifiers.{position-Some}
use Rattle.std.proofs.lemmas.Option.{slice_get-get_or}
use Rattle.std.proofs.lemmas.Bool.Decides.{Decides-and}
use Rattle.std.specs.Cmp.Lexicographic.{pointwise, pointwise_decides}
use Rattle.base.proofs.Booleans.{same_tests}
use Rattle.wasm_syntax.specs.declared.values.ValType.{ValType}
use Rattle.wasm_syntax.specs.declared.values.ValType.TheVariants.{I32, I64, F32, F64, FuncRef}
use Rattle.wasm_syntax.specs.declared.signatures.FuncType.{FuncType}
use Rattle.wasm_syntax.specs.Alike.{same_signature}
use Rattle.wasm_syntax.proofs.ValTypes.{signature_own, signature_same}
use Rattle.wasm_syntax.specs.contracts.signatures.FuncTypePartialEq.TheImpl as func_type
use Rattle.wasm_syntax.specs.contracts.values.ValTypePartialEq.TheImpl as val_type

abbrev pub eq_val : ValType → ValType → Bool
eq_val a b = (val_type.ghosts).eq a b

abbrev pub eq_func : FuncType → FuncType → Bool
eq_func a b = (func_type.ghosts).eq a b

val_own : (a : ValType) → eq_val a a ≡ true
val_own I32 = refl
val_own I64 = refl
val_own F32 = refl
val_own F64 = refl
val_own FuncRef = refl

val_same : (a b : ValType) → eq_val a b ≡ true → a ≡ b
val_same I32 I32 h = refl
val_same I64 I64 h = refl
val_same F32 F32 h = refl
val_same F64 F64 h = refl
val_same FuncRef FuncRef h = refl
val_same a b h = cc

-- the equality of value types decides `≡`
pub val_decides : (a b : ValType) → Decides (eq_val a b) (a ≡ b)
val_decides a b = (val_same a b, λ e. subst (λ t. eq_val a t ≡ true) e (val_own a))

-- the equality of function types decides `≡`
pub func_decides : (a b : FuncType) → Decides (eq_func a b) (a ≡ b)
func_decides a b =
    let params = pointwise_decides {K = ValType} {E = eq_val} val_decides a.params b.params in
    let results = pointwise_decides {K = ValType} {E = eq_val} val_decides a.results b.results in
    let both = Decides-and (pointwise eq_val a.params b.params) (pointwise eq_val a.results b.results) params results in
    (λ h. let p = both.0 h in (λ i. record { params = p.0 i; results = p.1 i }), λ e. both.1 (ap (λ t. t.params) e, ap (λ t. t.results) e))

-- the equality of function types is the test for types that are equal in structure
pub signature_test : (a b : FuncType) → eq_func a b ≡ same_signature a b
signature_test a b =
    same_tests (eq_func a b) (same_signature a b)
    (λ e. subst (λ t. same_signature a t ≡ true) ((func_decides a b).0 e) (signature_own a))
    (λ e. (func_decides a b).1 (signature_same a b e))

module _ {K : Type 0} {eq : K → K → Bool} (same : (a b : K) → Decides (eq a b) (a ≡ b)) (ks : List K) (k : K) (place : ℕ) where
  -- a key that is found is at its place
  pub found_at : position (eq k) ks ≡ Some place → slice_get ks place ≡ Some k
  found_at h =
      let p = position-Some (eq k) ks place k h in
      slice_get-get_or ks place k p.0 ∙ ap Some (sym ((same k (get_or ks place k)).0 p.1))

  -- a key that is found is among the keys
  pub found_in : position (eq k) ks ≡ Some place → Contains ks k
  found_in h =
      let p = position-Some (eq k) ks place k h in
      (place, p.0, sym ((same k (get_or ks place k)).0 p.1))
