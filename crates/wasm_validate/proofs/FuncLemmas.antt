-- A function's body in its module.
use Rattle.std.proofs.Common.{◌≡◌, ℕ, ◌+◌, ◌≤◌, ◌<◌, zero, suc, List, [], ◌∷◌, ◌++◌, length, reverse, get_or, cond, Option, Some, None, Bool, true, false, not, ◌&&◌, ◌↔◌, sym, ap, ◌∙◌, arith}
use Rattle.std.specs.Prelude.{slice_get, nat_le, nat_lt, position, option_map}
use Rattle.std.specs.List.{list_all, position_or_len}
use Rattle.std.proofs.lemmas.List.Sums.{position_or_len_is}
use Rattle.std.proofs.lemmas.Bool.{leb-true, le-leb, lt-leb}
use Rattle.std.proofs.lemmas.Option.{same_Some, none-some}
use Rattle.base.proofs.Booleans.{and_left, and_right}
use Rattle.wasm_syntax.specs.declared.values.ValType.{ValType}
use Rattle.wasm_syntax.specs.declared.signatures.FuncType.{FuncType}
use Rattle.wasm_syntax.specs.declared.instructions.Instr.{Instr}
use Rattle.wasm_syntax.specs.declared.modules.Module.{Module}
use Rattle.wasm_syntax.specs.declared.modules.Func.{Func}
use Rattle.wasm_syntax.specs.Index.{imported_funcs, type_at}
use Rattle.wasm_syntax.specs.Nest.{Nest, IsBody, nest_of}
use Rattle.wasm_syntax.specs.Typing.{Context, results_of}
use Rattle.wasm_syntax.specs.Validity.{each_local}
use Rattle.wasm_syntax.specs.ValidityTests.{are_numbers, is_func_type, nest_ends, body_ends, is_typed_func, is_valid_outside, invalid_at}
use Rattle.module_index.specs.Contexts.{context_of}
use Rattle.wasm_validate.specs.Flat.{scan, body_start}
use Rattle.wasm_validate.specs.Scopes.{base}
use Rattle.wasm_validate.proofs.FlatLemmas.{scan-body}

one-result : (ty : FuncType) → is_func_type ty ≡ true → length ty.results ≤ 1
one-result ty h =
    leb-true (length ty.results) 1 (and_right (are_numbers ty.results) (nat_le (length ty.results) 1)
    (and_right (are_numbers ty.params) (are_numbers ty.results && nat_le (length ty.results) 1) h))

-- each type has at most one result
pub results-at : (types : List FuncType) (t : ℕ) (ty : FuncType) → list_all is_func_type types ≡ true
    → slice_get types t ≡ Some ty → length ty.results ≤ 1
results-at [] t ty h e = absurd (none-some ty e)
results-at (x ∷ types) zero ty h e = one-result ty (ap is_func_type (sym (same_Some x ty e)) ∙ and_left (is_func_type x) (list_all is_func_type types) h)
results-at (x ∷ types) (suc t) ty h e = results-at types t ty (and_right (is_func_type x) (list_all is_func_type types) h) e

-- what is known in a body with these locals, whose label takes these types
abbrev whole : Module → List ValType → List ValType → Context
whole m locals results = context_of m locals (results ∷ []) results

-- one pass over the body decides whether the function is typed
pub typed-func : (m : Module) (f : Func) (ty : FuncType) (locals : List ValType) (result : Option ValType)
    → ((nest : Nest) (body : List Instr) → IsBody nest body ↔ (nest_of body ≡ Some nest)) → type_at m f.ty ≡ Some ty
    → locals ≡ ty.params ++ each_local f.locals → results_of result ≡ reverse ty.results
    → scan (base m locals result) f.body (body_start result) ≡ is_typed_func m f
typed-func m f ty locals result law has same results =
    scan-body (base m locals result) result f.body law
    ∙ ap (λ r. nest_ends (whole m locals r) r (nest_of f.body)) results
    ∙ ap (λ l. nest_ends (whole m l (reverse ty.results)) (reverse ty.results) (nest_of f.body)) same
    ∙ ap (body_ends m f) (sym has)

-- ---- the first function that has no typing

pub position-found : {A : Type 0} (p : A → Bool) (xs : List A) (i : ℕ) (d : A) → i < length xs
    → ((k : ℕ) → k < i → p (get_or xs k d) ≡ false) → p (get_or xs i d) ≡ true → Some i ≡ position p xs
position-found p xs i d h before here =
    let e : position_or_len p xs ≡ i = position_or_len_is p xs i d (omega arith) before (λ _. here) in
    sym (ap (λ n. cond (nat_lt n (length xs)) (Some n) None) e ∙ ap (λ b. cond b (Some i) None) (le-leb (suc i) (length xs) (omega arith)))

pub position-none : {A : Type 0} (p : A → Bool) (xs : List A) (i : ℕ) (d : A) → length xs ≤ i
    → ((k : ℕ) → k < i → p (get_or xs k d) ≡ false) → None ≡ position p xs
position-none p xs i d h before =
    let e : position_or_len p xs ≡ length xs =
    position_or_len_is p xs (length xs) d (omega arith) (λ k lt. before k (omega arith)) (λ lt. absurd (omega arith)) in
    sym (ap (λ n. cond (nat_lt n (length xs)) (Some n) None) e ∙ ap (λ b. cond b (Some (length xs)) None) (lt-leb (suc (length xs)) (length xs) (omega arith)))

-- the place of the first fault of a module that is valid outside its bodies
pub place-of_first : (m : Module) (first : Option ℕ) → is_valid_outside m ≡ true
    → first ≡ position (λ (f : Func). not (is_typed_func m f)) m.funcs
    → option_map (λ place. Some (imported_funcs m + place)) first ≡ invalid_at m
place-of_first m first h e =
    ap (option_map (λ place. Some (imported_funcs m + place))) e
    ∙ ap (λ b. cond b (option_map (λ place. Some (imported_funcs m + place)) (position (λ (f : Func). not (is_typed_func m f)) m.funcs)) (Some None)) (sym h)
