-- The numbers of functions in a run with foreign functions.
use Rattle.std.proofs.Common.{◌≡◌, ℕ, zero, suc, ◌+◌, ◌-◌, ◌^◌, ◌<◌, ◌≤◌, List, ◌++◌, length, map, Some, None, true, false, cond, nat_lt, slice_get, option_map, option_and_then, refl, sym, ap, ◌∙◌, arith}
use Rattle.std.proofs.lemmas.Bool.Decides.{nat_tests}
use Rattle.std.proofs.lemmas.Option.{slice_get_within, slice_get-map}
use Rattle.base.proofs.Lists.{get_front, get_after_by}
use Rattle.base.proofs.Options.{and_then_some}
use Rattle.wasm_syntax.specs.declared.signatures.FuncType.{FuncType}
use Rattle.wasm_syntax.specs.declared.modules.Module.{Module}
use Rattle.wasm_syntax.specs.declared.modules.Func.{Func}
use Rattle.wasm_syntax.specs.Index.{of_kind, func_import, func_indices, imported_funcs, type_at, func_type}
use Rattle.history_spec.specs.Code.{Code, signature, definition, code_of}
use Rattle.instance_spec.specs.declared.decls.Decl.{Decl}
use Rattle.instance_spec.specs.Instances.{Instance, moved_up}
use Rattle.instance_spec.specs.ForeignRuns.{count_from, numbers, foreign_code}
use Rattle.instance_spec.specs.Laws.{FunctionsHaveTheirNumbers}
use Rattle.instance_laws.proofs.WidenedParts.{counted}

pub counted_at : (first count j : ℕ) → j < count → slice_get (count_from first count) j ≡ Some (first + j)
counted_at first zero j low = absurd (omega (arith, low))
counted_at first (suc count) zero low = let e : first ≡ first + 0 = omega arith in ap (λ k. Some k) e
counted_at first (suc count) (suc j) low =
    let e : first + 1 + j ≡ first + suc j = omega arith in
    counted_at (first + 1) count j (omega (arith, low)) ∙ ap (λ k. Some k) e

pub is_below : (a b : ℕ) → a < b → nat_lt a b ≡ true
is_below a b low = grind (arith, nat_tests, low)

is_past : (a b : ℕ) → b ≤ a → nat_lt a b ≡ false
is_past a b past = grind (arith, nat_tests, past)

module _ (m : Module) (decls : List Decl) where
  abbrev i : Instance
  i = numbers m (length decls)

  abbrev code : Code
  code = foreign_code m decls

  abbrev n : ℕ
  n = imported_funcs m

  abbrev q : ℕ
  q = length decls

  -- type indices: of imports, of declared functions, of defined functions
  abbrev imports : List ℕ
  imports = of_kind func_import m.imports

  abbrev middle : List ℕ
  middle = count_from (length m.types) q

  abbrev own : List ℕ
  own = map (λ (f : Func). f.ty) m.funcs

  -- ---- numbers

  pub import_number : (x : ℕ) → x < n → i.funcs x ≡ x
  import_number x low = ap (λ b. cond b x (moved_up q x)) (is_below x n low)

  pub defined_number : (f : ℕ) → n ≤ f → f + q < 2 ^ 32 → i.funcs f ≡ f + q
  defined_number f past few =
      let sum : moved_up q f ≡ f + q = omega (arith, few) in
      ap (λ b. cond b f (moved_up q f)) (is_past f n past) ∙ sum

  -- ---- types

  pub type_front : (t : ℕ) (ty : FuncType) → slice_get m.types t ≡ Some ty → slice_get code.types t ≡ Some ty
  type_front t ty h =
      get_front m.types (map (λ (d : Decl). d.ty) decls) t (slice_get_within m.types t ty h) ∙ h

  pub import_index : (x t : ℕ) → x < n → slice_get (func_indices m) x ≡ Some t → slice_get code.indices x ≡ Some t
  import_index x t low h = get_front imports (middle ++ own) x low ∙ sym (get_front imports own x low) ∙ h

  pub defined_index : (f t : ℕ) → n ≤ f → slice_get (func_indices m) f ≡ Some t
      → slice_get code.indices (f + q) ≡ Some t
  defined_index f t past h =
      let k = f - n in
      let is : f ≡ n + k = omega (arith, past) in
      let sum : f + q ≡ n + (q + k) = omega (arith, past) in
      let long = counted (length m.types) q in
      get_after_by imports (middle ++ own) (f + q) (q + k) sum
      ∙ get_after_by middle own (q + k) k (omega (arith, long))
      ∙ sym (get_after_by imports own f k is)
      ∙ h

  typed : (x t : ℕ) (ty : FuncType) → slice_get code.indices x ≡ Some t → slice_get code.types t ≡ Some ty
      → signature code x ≡ Some ty
  typed x t ty index found = ap (option_and_then (λ t. slice_get code.types t)) index ∙ found

  import_type : (x : ℕ) (ty : FuncType) → x < n → func_type m x ≡ Some ty → signature code x ≡ Some ty
  import_type x ty low h =
      let found = and_then_some (slice_get (func_indices m) x) (type_at m) ty h in
      typed x found.0 ty (import_index x found.0 low found.1) (type_front found.0 ty found.2)

  declared_type : (j : ℕ) (d : Decl) → slice_get decls j ≡ Some d → signature code (n + j) ≡ Some d.ty
  declared_type j d h =
      let low = slice_get_within decls j d h in
      let long = counted (length m.types) q in
      typed (n + j) (length m.types + j) d.ty
      (get_after_by imports (middle ++ own) (n + j) j refl
      ∙ get_front middle own j (omega (arith, low, long))
      ∙ counted_at (length m.types) q j low)
      (get_after_by m.types (map (λ (d : Decl). d.ty) decls) (length m.types + j) j refl
      ∙ slice_get-map (λ (d : Decl). d.ty) decls j
      ∙ ap (option_map (λ (d : Decl). d.ty)) h)

  defined_type : (f : ℕ) (ty : FuncType) → n ≤ f → func_type m f ≡ Some ty → signature code (f + q) ≡ Some ty
  defined_type f ty past h =
      let found = and_then_some (slice_get (func_indices m) f) (type_at m) ty h in
      typed (f + q) found.0 ty (defined_index f found.0 past found.1) (type_front found.0 ty found.2)

  -- ---- bodies

  body_is : (f : ℕ) → n ≤ f → definition code (f + q) ≡ definition (code_of m) f
  body_is f past =
      let same : f + q - (n + q) ≡ f - n = omega (arith, past) in
      ap (λ b. cond b None (option_and_then (λ d. d) (slice_get code.defined (f + q - (n + q)))))
      (is_past (f + q) (n + q) (omega (arith, past)))
      ∙ ap (λ k. option_and_then (λ d. d) (slice_get code.defined k)) same
      ∙ sym (ap (λ b. cond b None (option_and_then (λ d. d) (slice_get code.defined (f - n)))) (is_past f n past))

pub functions_have_their_numbers : FunctionsHaveTheirNumbers
functions_have_their_numbers m decls =
    record {
      import_number = import_number m decls;
      defined_number = defined_number m decls;
      import_type = import_type m decls;
      declared_type = declared_type m decls;
      defined_type = defined_type m decls;
      hosts = refl;
      body = body_is m decls;
    }
