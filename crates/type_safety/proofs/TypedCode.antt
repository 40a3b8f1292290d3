-- The functions of a valid and supported module are typed.
use Rattle.std.proofs.Common.{◌≡◌, ℕ, suc, zero, ◌+◌, ◌-◌, ◌<◌, ◌≤◌, List, [], ◌∷◌, length, Some, None, cond, map, option_map, option_and_then, slice_get, refl, sym, ap, ◌∙◌, subst, arith}
use Rattle.std.specs.Prelude.{reverse}
use Rattle.std.specs.List.{AllByRecursion}
use Rattle.std.proofs.lemmas.Bool.{le-ltb}
use Rattle.std.proofs.lemmas.List.Elements.{recursion_from_All}
use Rattle.std.proofs.lemmas.Option.{slice_get-map}
use Rattle.base.proofs.Lists.{get_after, all_at, item_there}
use Rattle.base.proofs.Options.{map_some}
use Rattle.wasm_syntax.specs.declared.signatures.FuncType.{FuncType}
use Rattle.wasm_syntax.specs.declared.modules.Module.{Module}
use Rattle.wasm_syntax.specs.declared.modules.Func.{Func}
use Rattle.wasm_syntax.specs.Index.{of_kind, func_import, func_indices, imported_funcs}
use Rattle.wasm_syntax.specs.Validity.{IsTypedFunc, IsValid, body_context, each_local}
use Rattle.wasm_syntax.specs.Profile.{IsSupported}
use Rattle.history_spec.specs.Code.{Definition, definition_of, code_of, signature, definition}
use Rattle.history_spec.specs.Configuration.{place}
use Rattle.type_safety.specs.Stores.{func_count}
use Rattle.type_safety.specs.Frames.{IsCode}
use Rattle.type_safety.specs.Heights.{Heights, IsTypedWith, AreHeights, height}
use Rattle.type_safety.specs.Configurations.{scope, IsTypedCode}
use Rattle.type_safety.specs.Laws.{ValidCodeHasHeights}
use Rattle.wasm_syntax.proofs.FuncTypes.{func_types_there, TypeIndex, type_index}
use Rattle.wasm_syntax.proofs.Nests.{nest_of_body}
use Rattle.type_safety.proofs.Bodies.{body_supported}

-- ---- heights by the functions' typings

abbrev heights_in : (m : Module) (funcs : List Func) → AllByRecursion (IsTypedFunc m) funcs → (place number : ℕ) → ℕ
heights_in m [] all k number = 0
heights_in m (f ∷ funcs) all zero number =
    height (body_context m all.0.ty f) all.0.nest [] (reverse all.0.ty.results) all.0.typed number
heights_in m (f ∷ funcs) all (suc k) number = heights_in m funcs all.1 k number

typed_at : (m : Module) (funcs : List Func) (all : AllByRecursion (IsTypedFunc m) funcs) (k : ℕ) (f : Func)
    → slice_get funcs k ≡ Some f → IsTypedWith m (heights_in m funcs all k) f
typed_at m [] all k f is = cc
typed_at m (g ∷ funcs) all zero f is =
    let here : g ≡ f = cc in
    let own : IsTypedWith m (heights_in m (g ∷ funcs) all zero) g = record { typed = all.0; same = λ number. refl } in
    subst (IsTypedWith m (heights_in m (g ∷ funcs) all zero)) here own
typed_at m (g ∷ funcs) all (suc k) f is = typed_at m funcs all.1 k f is

-- ---- signatures

pub signatures : (m : Module) → IsValid m → (func : ℕ) → func < func_count m
    → (ty : FuncType) × (signature (code_of m) func ≡ Some ty)
signatures m valid func below =
    let index = item_there (func_indices m) func below in
    let there : index.0 < length m.types =
    all_at (λ t. t < length m.types) (func_indices m) func index.0 (func_types_there m valid.outside) index.1 in
    let ty = item_there m.types index.0 there in
    (ty.0, ap (option_and_then (λ t. slice_get m.types t)) index.1 ∙ ty.1)

-- ---- definitions

-- a valid module has heights
pub heights_there : ValidCodeHasHeights
heights_there m valid =
    let all = recursion_from_All (IsTypedFunc m) m.funcs valid.bodies in (
      λ func number. heights_in m m.funcs all (func - imported_funcs m) number,
      λ k f is.
          let back : imported_funcs m + k - imported_funcs m ≡ k = omega arith in
          subst (λ i. IsTypedWith m (λ number. heights_in m m.funcs all i number) f) (sym back)
          (typed_at m m.funcs all k f is),
    )

module _ (m : Module) (heights : Heights) (valid : IsValid m) (supported : IsSupported m)
    (are : AreHeights m heights) where
  body_typed : (func : ℕ) (ty : FuncType) → imported_funcs m ≤ func → signature (code_of m) func ≡ Some ty
      → (body : Definition) × (definition (code_of m) func ≡ Some body)
      × IsCode (scope m heights func ty body) [] (place body.body 0) 0 [] (reverse ty.results)
  body_typed func ty own is = (body, defined, code)
    where
      index : TypeIndex m func ty
      index = type_index m func ty is

      found : (f : Func) × (slice_get m.funcs (func - imported_funcs m) ≡ Some f) × (f.ty ≡ index.0)
      found = map_some (λ (f : Func). f.ty) (slice_get m.funcs (func - imported_funcs m)) index.0
          (sym (slice_get-map (λ (f : Func). f.ty) m.funcs (func - imported_funcs m))
          ∙ sym (get_after (of_kind func_import m.imports) (map (λ f. f.ty) m.funcs) func own) ∙ index.1)

      at : IsTypedWith m (heights func) found.0
      at =
          let back : imported_funcs m + (func - imported_funcs m) ≡ func = omega arith in
          subst (λ i. IsTypedWith m (heights i) found.0) back (are (func - imported_funcs m) found.0 found.1)

      same : at.typed.ty ≡ ty
      same = let both : Some at.typed.ty ≡ Some ty = sym at.typed.has_type ∙ ap (slice_get m.types) found.2
          ∙ index.2 in cc

      body : Definition
      body = record { locals = each_local found.0.locals; body = at.typed.nest }

      defined : definition (code_of m) func ≡ Some body
      defined =
          ap (λ b. cond b None
          (option_and_then (λ d. d) (slice_get (map definition_of m.funcs) (func - imported_funcs m)))) (le-ltb
          func (imported_funcs m) own)
          ∙ ap (option_and_then (λ d. d))
          (slice_get-map definition_of m.funcs (func - imported_funcs m) ∙ ap (option_map definition_of) found.1)
          ∙ ap (option_map (λ nest. record { locals = each_local found.0.locals; body = nest }))
          (nest_of_body at.typed.nest found.0.body at.typed.is_body)

      own_code : IsCode (scope m heights func at.typed.ty body) [] (place at.typed.nest 0) 0 []
          (reverse at.typed.ty.results)
      own_code = record {
        typed = at.typed.typed;
        supported = body_supported (imported_funcs m) m.funcs (func - imported_funcs m) found.0 at.typed.nest
            supported.instructions found.1 at.typed.is_body;
        heights = λ j below.
            let from : 0 + j ≡ j = omega arith in
            let to : height (body_context m at.typed.ty found.0) at.typed.nest [] (reverse at.typed.ty.results)
            at.typed.typed j ≡ 0 + height (body_context m at.typed.ty found.0) at.typed.nest []
            (reverse at.typed.ty.results) at.typed.typed j = omega arith in
            ap (heights func) from ∙ at.same j ∙ to;
      }

      code : IsCode (scope m heights func ty body) [] (place at.typed.nest 0) 0 [] (reverse ty.results)
      code = subst (λ t. IsCode (scope m heights func t body) [] (place at.typed.nest 0) 0 [] (reverse t.results))
          same own_code

  pub typed_code : IsTypedCode m heights
  typed_code = record { has_type = signatures m valid; bodies = body_typed }
