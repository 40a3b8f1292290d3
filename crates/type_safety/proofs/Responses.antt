-- The response to a call of an import fits the import's type.
use Rattle.std.proofs.Common.{◌≡◌, ℕ, suc, zero, List, [], ◌∷◌, ◌++◌, Option, Some, None, map, slice_get, option_and_then, refl, sym, ◌∙◌, subst, ap}
use Rattle.std.specs.Prelude.{IfSome, All}
use Rattle.std.specs.List.{AllZip}
use Rattle.base.proofs.Lists.{all_at}
use Rattle.base.proofs.Options.{and_then_some}
use Rattle.wasm_syntax.proofs.FuncTypes.{TypeIndex, type_index}
use Rattle.wasm_syntax.specs.declared.signatures.FuncType.{FuncType}
use Rattle.wasm_syntax.specs.declared.modules.Module.{Module}
use Rattle.wasm_syntax.specs.Index.{of_kind, func_import, func_indices}
use Rattle.host_script.specs.declared.scripts.Answer.{Answer}
use Rattle.host_script.specs.declared.scripts.Response.{Response}
use Rattle.host_script.specs.Fits.{FitsResponse, FitsAnswer, FitsImport, FitAnswers}
use Rattle.history_spec.specs.Code.{code_of, signature}
use Rattle.history_spec.specs.Step.{response_or, response_of, response_to}

-- an item of the second of two lists whose items belong together has one of the first at its place, even if the first
-- list is longer
zip_at : {A B : Type 0} (R : A → B → Type 0) (xs more : List A) (ys : List B) (i : ℕ) (y : B) → AllZip R xs ys
    → slice_get ys i ≡ Some y → (x : A) × (slice_get (xs ++ more) i ≡ Some x) × R x y
zip_at R [] more [] i y all q = cc
zip_at R [] more (b ∷ ys) i y all q = absurd all
zip_at R (a ∷ xs) more [] i y all q = cc
zip_at R (a ∷ xs) more (b ∷ ys) zero y all q =
    let second : b ≡ y = cc in
    (a, refl, subst (R a) second all.0)
zip_at R (a ∷ xs) more (b ∷ ys) (suc i) y all q = zip_at R xs more ys i y all.1 q

response_fits_or : (m : Module) (ty : FuncType) (first rest : Option Response) (response : Response)
    → IfSome first (FitsResponse m ty) → IfSome rest (FitsResponse m ty) → response_or first rest ≡ Some response
    → FitsResponse m ty response
response_fits_or m ty (Some it) rest response p q is =
    let same : it ≡ response = cc in
    subst (FitsResponse m ty) same p
response_fits_or m ty None (Some it) response p q is =
    let same : it ≡ response = cc in
    subst (FitsResponse m ty) same q
response_fits_or m ty None None response p q is = cc

call_fits : (m : Module) (ty : FuncType) (calls : List Response) (number : ℕ) → All (FitsResponse m ty) calls
    → (o : Option Response) → slice_get calls number ≡ o → IfSome o (FitsResponse m ty)
call_fits m ty calls number all None is = tt
call_fits m ty calls number all (Some response) is = all_at (FitsResponse m ty) calls number response all is

pub response_fits : (m : Module) (answers : List (Option Answer)) (import number : ℕ) (ty : FuncType)
    (response : Response)
    → FitAnswers m answers → signature (code_of m) import ≡ Some ty
    → response_to answers import number ≡ Some response → FitsResponse m ty response
response_fits m answers import number ty response fit has_type is =
    response_fits_or m ty (slice_get found.0.calls number) found.0.rest response
    (call_fits m ty found.0.calls number answer.calls (slice_get found.0.calls number) refl) answer.rest found.2
  where
    found : (answer : Answer) × (option_and_then (λ (a : Option Answer). a) (slice_get answers import) ≡ Some answer)
        × (response_of answer number ≡ Some response)
    found = and_then_some (option_and_then (λ (a : Option Answer). a) (slice_get answers import))
        (λ answer. response_of answer number) response is

    outer : (o : Option Answer) × (slice_get answers import ≡ Some o) × (o ≡ Some found.0)
    outer = and_then_some (slice_get answers import) (λ a. a) found.0 found.1

    index : TypeIndex m import ty
    index = type_index m import ty has_type

    kind : (t : ℕ) × (slice_get (func_indices m) import ≡ Some t) × FitsImport m t outer.0
    kind = zip_at (FitsImport m) (of_kind func_import m.imports) (map (λ f. f.ty) m.funcs) answers import outer.0 fit
        outer.1

    own : FitsImport m kind.0 (Some found.0)
    own = subst (FitsImport m kind.0) outer.2 kind.2

    same : own.0 ≡ ty
    same =
        let both : Some kind.0 ≡ Some index.0 = sym kind.1 ∙ index.1 in
        let types : kind.0 ≡ index.0 = cc in
        let last : Some own.0 ≡ Some ty = sym own.1 ∙ ap (slice_get m.types) types ∙ index.2 in
        cc

    answer : FitsAnswer m ty found.0
    answer = subst (λ t. FitsAnswer m t found.0) same own.2
