-- Generated parts of the examples fit their modules.
use Rattle.std.proofs.Common.{◌≡◌, ℕ, zero, suc, ◌-◌, ◌≤◌, List, [], ◌∷◌, ◌++◌, length, Bool, None, true, nat_le, slice_get, refl, sym, ap, ◌∙◌, subst, arith}
use Rattle.std.specs.Prelude.{map}
use Rattle.std.specs.List.{All, AllZip, Contains, list_all, zip}
use Rattle.std.proofs.lemmas.Bool.Decides.{nat_tests}
use Rattle.std.proofs.lemmas.List.Elements.{All-append, All-tail}
use Rattle.std.proofs.lemmas.List.Sums.{AllPass-from_list_all}
use Rattle.base.proofs.Lists.{get_after}
use Rattle.wasm_syntax.specs.declared.values.ValType.TheVariants.{I32}
use Rattle.wasm_syntax.specs.declared.limits.TheConstants.{MAX_LOCALS, MAX_PARAMETERS}
use Rattle.wasm_syntax.specs.declared.signatures.FuncType.{FuncType}
use Rattle.wasm_syntax.specs.declared.modules.Module.{Module}
use Rattle.wasm_syntax.specs.declared.modules.Func.{Func}
use Rattle.wasm_syntax.specs.Index.{of_kind, func_import, imported_funcs, imported_globals}
use Rattle.wasm_syntax.specs.Profile.{count_of_locals}
use Rattle.wasm_syntax.specs.Validity.{IsValid, IsFuncType, IsGlobal, IsDeclaredFunc, IsTypedFunc}
use Rattle.wasm_syntax.specs.ValidityTests.{invalid_at}
use Rattle.wasm_syntax.specs.Laws.{ValidityIsDecided}
use Rattle.replay_module_spec.specs.declared.plans.Plan.{Plan}
use Rattle.replay_module_spec.specs.declared.fragments.Fragment.{Fragment}
use Rattle.replay_module_spec.specs.Plans.{plan_of}
use Rattle.replay_module_spec.specs.Functions.{appended_types, start_func}
use Rattle.replay_module_spec.specs.Fragments.{fragment_of, referred_funcs}
use Rattle.replay_module_spec.specs.Merge.{supplied_global, constant_global}
use Rattle.replay_module_spec.specs.Fits.{FitsModule, HasImportType, HasStart, declared_supply, unsupplied_module}
use Rattle.worked_histories.specs.Build.{func_type}
use Rattle.worked_replay_modules.specs.Cases.{ReplayCase, two_answers_case, nested_call_case, table_entry_case, table_growth_case, imported_offset_case, c_buffers_case}
use Rattle.worked_replay_modules.specs.Tests.{fragment_for}
use Rattle.worked_replay_modules.specs.Fitting.{Fits, FragmentsFit}

module _ {X : Type 0} (P : X → Type 0) where
  all_after : (xs ys : List X) → All P (xs ++ ys) → All P ys
  all_after [] ys h = h
  all_after (x ∷ xs) ys h = all_after xs ys (All-tail P x (xs ++ ys) h)

  all_before : (xs ys : List X) → All P (xs ++ ys) → All P xs
  all_before [] ys h k d below = absurd (omega arith)
  all_before (x ∷ xs) ys h zero d below = h zero d (omega arith)
  all_before (x ∷ xs) ys h (suc k) d below = all_before xs ys (All-tail P x (xs ++ ys) h) k d (omega arith)

-- a property of all items of three lists is one of the items of the first and the last
all_around : {X : Type 0} (P : X → Type 0) (xs ys zs : List X) → All P (xs ++ (ys ++ zs)) → All P (xs ++ zs)
all_around P xs ys zs h =
    All-append P xs zs (all_before P xs (ys ++ zs) h) (all_after P ys zs (all_after P xs (ys ++ zs) h))

-- a generated type is within the limits
abbrev pub few_params : FuncType → Bool
few_params ty = nat_le (length ty.params) MAX_PARAMETERS

abbrev pub few_locals : Func → Bool
few_locals func = nat_le (count_of_locals func) MAX_LOCALS

few_is_few : {X : Type 0} (size : X → ℕ) (most : ℕ) (xs : List X) → list_all (λ x. nat_le (size x) most) xs ≡ true
    → All (λ x. size x ≤ most) xs
few_is_few size most xs few k d below =
    let tested = AllPass-from_list_all (λ x. nat_le (size x) most) xs few k d below in
    grind (arith, nat_tests, tested)

-- the function for the host's own work is the first of the helpers, and has the first of the appended types
start_fits : (m : Module) (plan : Plan) → HasStart m (fragment_of m plan)
start_fits m plan =
    let here : length m.types - length m.types ≡ 0 = omega arith in
    record {
      place = 0;
      func = start_func m plan.begin;
      found = refl;
      index = omega arith;
      has_type =
          get_after m.types appended_types (length m.types) (omega arith) ∙ ap (slice_get appended_types) here;
    }

-- the other conditions: there is a body for each import, the generated parts are within the limits, and exactly the
-- functions to which bodies refer are declared
pub record FitsBesides (m : Module) (fragment : Fragment) : Type 0 where
  pub params : list_all few_params fragment.types ≡ true
  pub locals : list_all few_locals (fragment.bodies ++ fragment.helpers) ≡ true
  pub bodies : AllZip (HasImportType m fragment) (of_kind func_import m.imports) fragment.bodies
  pub declared : fragment.declared ≡ referred_funcs (unsupplied_module m fragment).funcs

-- if the replay module is valid, a helper is exported and the other conditions hold, the fragment fits
pub fits : (m : Module) (fragment : Fragment) → IsValid (unsupplied_module m fragment) → HasStart m fragment
    → FitsBesides m fragment → FitsModule m fragment
fits m fragment valid start besides =
    let whole = unsupplied_module m fragment in
    let few_types = few_is_few (λ (ty : FuncType). length ty.params) MAX_PARAMETERS fragment.types besides.params in
    let few = few_is_few count_of_locals MAX_LOCALS (fragment.bodies ++ fragment.helpers) besides.locals in
    let own = map (constant_global (declared_supply m).globals) m.globals in
    let imported = map supplied_global (zip (imported_globals m) (declared_supply m).globals) in
    let declared = all_around (IsDeclaredFunc whole) fragment.bodies m.funcs fragment.helpers valid.outside.funcs in
    let typed = all_around (IsTypedFunc whole) fragment.bodies m.funcs fragment.helpers valid.bodies in
    record {
      types = λ k d below.
          record {
            valid = all_after IsFuncType m.types fragment.types valid.outside.types k d below;
            params = few_types k d below;
          };
      globals =
          all_after (IsGlobal whole) own fragment.globals
          (all_after (IsGlobal whole) imported (own ++ fragment.globals) valid.outside.globals);
      bodies = besides.bodies;
      start = start;
      declared = λ func. (
        subst (λ funcs. Contains funcs func) besides.declared,
        subst (λ funcs. Contains funcs func) (sym besides.declared),
      );
      generated = λ k d below.
          record { declared = declared k d below; typed = typed k d below; locals = few k d below };
    }

abbrev plan_for : ReplayCase → Plan
plan_for c = plan_of (imported_funcs c.original) c.tape

module _ (decided : ValidityIsDecided) where
  fits_case : (c : ReplayCase) → invalid_at (unsupplied_module c.original (fragment_for c.original c.tape)) ≡ None
      → FitsBesides c.original (fragment_for c.original c.tape) → Fits c
  fits_case c valid besides =
      fits c.original (fragment_for c.original c.tape) ((decided _).1 valid) (start_fits c.original (plan_for c)) besides

  pub fragments_fit : FragmentsFit
  fragments_fit =
      record {
        two_answers =
            fits_case two_answers_case refl
            (record {
              params = refl;
              locals = refl;
              bodies = (record { ty = func_type [] (I32 ∷ []); of_import = refl; of_body = refl }, _);
              declared = refl;
            });
        nested_call =
            fits_case nested_call_case refl
            (record {
              params = refl;
              locals = refl;
              bodies = (record { ty = func_type [] (I32 ∷ []); of_import = refl; of_body = refl }, _);
              declared = refl;
            });
        table_entry =
            fits_case table_entry_case refl
            (record {
              params = refl;
              locals = refl;
              bodies = (record { ty = func_type [] []; of_import = refl; of_body = refl }, _);
              declared = refl;
            });
        table_growth =
            fits_case table_growth_case refl
            (record {
              params = refl;
              locals = refl;
              bodies = (record { ty = func_type [] []; of_import = refl; of_body = refl }, _);
              declared = refl;
            });
        imported_offset =
            fits_case imported_offset_case refl
            (record { params = refl; locals = refl; bodies = _; declared = refl });
        c_buffers =
            fits_case c_buffers_case refl
            (record {
              params = refl;
              locals = refl;
              bodies = (record { ty = func_type (I32 ∷ I32 ∷ I32 ∷ []) (I32 ∷ []); of_import = refl; of_body = refl }, _);
              declared = refl;
            });
      }
