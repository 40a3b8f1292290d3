-- The module that is run, under other answers: each answer that exists is a call of a function that is active, which
-- fits every module.
use Rattle.std.proofs.Common.{◌≡◌, ℕ, zero, suc, List, [], ◌∷◌, Option, Some, None, map, option_map, refl, ap, subst}
use Rattle.std.specs.Prelude.{All, IsTrue, nat_lt, option_and_then, slice_get, ◌-◌}
use Rattle.std.specs.List.{AllZip}
use Rattle.std.proofs.lemmas.Bool.{ltb-false}
use Rattle.std.proofs.lemmas.List.Elements.{All-cons, All-head, All-nil, All-tail}
use Rattle.base.proofs.Options.{cond_none_some}
use Rattle.wasm_syntax.specs.declared.values.ValType.{ValType}
use Rattle.wasm_syntax.specs.declared.values.ValType.TheVariants.{I32, I64, F32, F64, FuncRef}
use Rattle.wasm_syntax.specs.declared.values.Val.{Val}
use Rattle.wasm_syntax.specs.declared.signatures.FuncType.{FuncType}
use Rattle.wasm_syntax.specs.declared.modules.Module.{Module}
use Rattle.wasm_syntax.specs.Index.{func_import, func_indices, imported_funcs, of_kind}
use Rattle.wasm_syntax.specs.Typing.{is_constant, is_number}
use Rattle.wasm_syntax.specs.Validity.{AreNumbers, IsFuncType, IsValid}
use Rattle.host_script.specs.declared.scripts.Action.TheVariants.{Call}
use Rattle.host_script.specs.declared.scripts.Answer.{Answer}
use Rattle.host_script.specs.Fits.{AreOfTypes, FitsAction, FitsImport, FitsResponse, IsCallable}
use Rattle.history_spec.specs.Code.{Definition, code_of}
use Rattle.type_safety.specs.Heights.{Heights}
use Rattle.flat_steps.specs.Laid.{IsFunction}
use Rattle.wasm_interp.specs.Calls.{IsRun}
use Rattle.host_play.proofs.ImportStores.{calls_instead, other, own}

-- ---- zeros of number types

number_zero : (ty : ValType) → IsTrue (is_number ty) → IsTrue (is_constant (record { ty = ty; bits = 0 }))
number_zero I32 is = refl
number_zero I64 is = refl
number_zero F32 is = refl
number_zero F64 is = refl
number_zero FuncRef is = cc

abbrev pub zeros : List ValType → List Val
zeros [] = []
zeros (ty ∷ types) = record { ty = ty; bits = 0 } ∷ zeros types

zeros_fit : (types : List ValType) → AreNumbers types → AreOfTypes types (zeros types)
zeros_fit [] numbers = record { in_range = All-nil (λ (value : Val). IsTrue (is_constant value)); typed = refl }
zeros_fit (ty ∷ types) numbers =
    let later = zeros_fit types (All-tail (λ (t : ValType). IsTrue (is_number t)) ty types numbers) in
    record {
      in_range =
          All-cons (λ (value : Val). IsTrue (is_constant value)) (record { ty = ty; bits = 0 }) (zeros types)
          (number_zero ty (All-head (λ (t : ValType). IsTrue (is_number t)) ty types numbers)) later.in_range;
      typed = ap (λ ts. ty ∷ ts) later.typed;
    }

-- ---- a function that is active

typed_at : (types : List FuncType) (i : ℕ) (ty : FuncType) → All IsFuncType types → slice_get types i ≡ Some ty → AreNumbers ty.params
typed_at [] i ty all is = cc
typed_at (first ∷ types) zero ty all is =
    let same : first ≡ ty = cc in
    subst (λ (t : FuncType). AreNumbers t.params) same (All-head IsFuncType first types all).params
typed_at (first ∷ types) (suc i) ty all is = typed_at types i ty (All-tail IsFuncType first types all) is

indexed_at : (types : List FuncType) (index : Option ℕ) (ty : FuncType) → All IsFuncType types
    → option_and_then (λ t. slice_get types t) index ≡ Some ty → AreNumbers ty.params
indexed_at types None ty all is = cc
indexed_at types (Some t) ty all is = typed_at types t ty all is

pub active_callable : (m : Module) (func : ℕ) (ty : FuncType) (body : Definition) → IsValid m → IsFunction m func ty body → IsCallable m func (zeros ty.params)
active_callable m func ty body valid f = record {
  defined =
      ltb-false func (imported_funcs m) (cond_none_some (nat_lt func (imported_funcs m)) (option_and_then
      (λ (d : Option Definition). d) (slice_get (code_of m).defined (func - imported_funcs m))) body f.defined).0;
  ty = ty;
  has_type = f.has_type;
  fit = zeros_fit ty.params (indexed_at m.types (slice_get (func_indices m) func) ty valid.outside.types f.has_type);
}

-- ---- the run under the other answers

module _ (m : Module) (answers : List (Option Answer)) (func : ℕ) (given : List Val) (callable : IsCallable m func given) where
  import_fits : (t : ℕ) (answer : Option Answer) → FitsImport m t answer → FitsImport m t (option_map (calls_instead (code_of m) answers func given) answer)
  import_fits t None fits = tt
  import_fits t (Some answer) fits = (
    fits.0,
    fits.1,
    record {
      calls = All-nil (FitsResponse m fits.0);
      rest = record { actions = All-cons (FitsAction m fits.0.params) (Call func given) [] callable (All-nil (FitsAction m fits.0.params)); «end» = tt };
    },
  )

  each_fits : (types : List ℕ) (items : List (Option Answer)) → AllZip (FitsImport m) types items
      → AllZip (FitsImport m) types (map (option_map (calls_instead (code_of m) answers func given)) items)
  each_fits [] [] fit = fit
  each_fits [] (answer ∷ items) fit = absurd fit
  each_fits (t ∷ types) [] fit = absurd fit
  each_fits (t ∷ types) (answer ∷ items) fit = (import_fits t answer fit.0, each_fits types items fit.1)

  pub other_run : (heights : Heights) (counts : List ℕ) → IsRun m heights (own (code_of m) answers func given) counts
      → IsRun m heights (other (code_of m) answers func given) counts
  other_run heights counts is_run = record {
    valid = is_run.valid;
    code = is_run.code;
    fits = record { code = refl; answers = each_fits (of_kind func_import m.imports) answers is_run.fits.answers };
    counted = is_run.counted;
  }
