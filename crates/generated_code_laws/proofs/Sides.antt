-- The sides of a replay module's functions: functions of the original, functions in the place of imports, and appended
-- functions.
use Rattle.std.proofs.Common.{◌≡◌, ℕ, ◌+◌, ◌<◌, ◌≤◌, length, Some, true, false, nat_lt, slice_get, ap, ◌∙◌, arith, sym}
use Rattle.std.proofs.lemmas.Bool.Decides.{nat_tests}
use Rattle.std.proofs.lemmas.Option.{slice_get_within}
use Rattle.base.proofs.Options.{and_then_some}
use Rattle.wasm_syntax.specs.declared.signatures.FuncType.{FuncType}
use Rattle.wasm_syntax.specs.declared.modules.Module.{Module}
use Rattle.wasm_syntax.specs.Index.{func_indices, imported_funcs}
use Rattle.history_spec.specs.Code.{Code, code_of, signature}
use Rattle.history_spec.specs.Projection.{Import, Original, Appended, side, side_from, side_past}
use Rattle.replay_module_spec.specs.Fragments.{start_index}
use Rattle.generated_code_laws.specs.Leads.{IsOutside, InPlace, Behind}
use Rattle.replay_module_laws.proofs.Functions.{functions}
use Rattle.replay_module_laws.specs.Codes.{IsReplayCode}
use Rattle.replay_module_spec.specs.Merge.{layout_of}
use Rattle.replay_module_spec.specs.declared.plans.Plan.{Plan}

module _ (m : Module) where
  pub import_side : (func : ℕ) → func < imported_funcs m → side (layout_of m) func ≡ Import
  import_side func below =
      let b : nat_lt func (imported_funcs m) ≡ true = grind (arith, nat_tests, below) in
      ap (λ b. side_from b (nat_lt func (imported_funcs m + length m.funcs))) b

  pub original_side : (func : ℕ) → imported_funcs m ≤ func → func < start_index m → side (layout_of m) func ≡ Original
  original_side func past below =
      let e = functions m in
      let b : nat_lt func (imported_funcs m) ≡ false = grind (arith, nat_tests, past) in
      let under : func < imported_funcs m + length m.funcs = omega (arith, e, below) in
      let c : nat_lt func (imported_funcs m + length m.funcs) ≡ true = grind (arith, nat_tests, under) in
      ap (λ b. side_from b (nat_lt func (imported_funcs m + length m.funcs))) b ∙ ap side_past c

  pub appended_side : (func : ℕ) → start_index m ≤ func → side (layout_of m) func ≡ Appended
  appended_side func past =
      let e = functions m in
      let first : imported_funcs m ≤ func = omega (arith, e, past) in
      let b : nat_lt func (imported_funcs m) ≡ false = grind (arith, nat_tests, first) in
      let over : imported_funcs m + length m.funcs ≤ func = omega (arith, e, past) in
      let c : nat_lt func (imported_funcs m + length m.funcs) ≡ false = grind (arith, nat_tests, over) in
      ap (λ b. side_from b (nat_lt func (imported_funcs m + length m.funcs))) b ∙ ap side_past c

  -- a function of the original has a type
  pub below_start : (func : ℕ) (ty : FuncType) → signature (code_of m) func ≡ Some ty → func < start_index m
  below_start func ty h =
      let b = and_then_some (slice_get (func_indices m) func) (λ t. slice_get m.types t) ty h in
      slice_get_within (func_indices m) func b.0 b.1

-- a function of the original is not outside it
pub never_outside : (m : Module) (func : ℕ) → side (layout_of m) func ≡ Original → IsOutside (layout_of m) func → ⊥
never_outside m func original (InPlace e) = let same = sym original ∙ e in cc
never_outside m func original (Behind e) = let same = sym original ∙ e in cc

-- the replay module imports no function
pub none_imported : (m : Module) (plan : Plan) (code : Code) → IsReplayCode m plan code → (func : ℕ)
    → nat_lt func code.imported ≡ false
none_imported m plan code is func = let e = is.imported in grind (arith, nat_tests, e)
