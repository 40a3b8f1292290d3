-- In a valid module with few functions, all indices of functions are low, and its functions leave room for the
-- insertions.
use Rattle.std.proofs.Common.{ℕ, ◌+◌, ◌^◌, ◌<◌, ◌≤◌, List, [], ◌∷◌, length, Option, Some, None, IsTrue, All, refl, arith, subst}
use Rattle.std.specs.Prelude.{slice_index_or, sum_by, IfSome}
use Rattle.std.proofs.lemmas.List.Elements.{All-nil, All-cons, All-weaker, All-append}
use Rattle.std.proofs.lemmas.List.Sums.{sum_by-cons}
use Rattle.wasm_syntax.specs.declared.limits.TheConstants.{MAX_LOCALS_HOOKED}
use Rattle.wasm_syntax.specs.declared.instructions.Instr.TheVariants.{End}
use Rattle.wasm_syntax.specs.declared.modules.Run.{Run}
use Rattle.wasm_syntax.specs.declared.modules.Func.{Func}
use Rattle.wasm_syntax.specs.declared.modules.Export.{Export}
use Rattle.wasm_syntax.specs.declared.modules.ExportKind.{ExportKind}
use Rattle.wasm_syntax.specs.declared.modules.ExportKind.TheVariants as exports
use Rattle.wasm_syntax.specs.declared.modules.ElemSeg.{ElemSeg}
use Rattle.wasm_syntax.specs.declared.modules.ElemSeg.TheVariants.{Active, Declared}
use Rattle.wasm_syntax.specs.declared.modules.Module.{Module}
use Rattle.wasm_syntax.specs.Index.{func_indices}
use Rattle.wasm_syntax.specs.Nest.{flat}
use Rattle.wasm_syntax.specs.Profile.{count_of_locals}
use Rattle.wasm_syntax.specs.Validity.{IsElem, IsStart, IsThere, IsTypedFunc, IsValid, body_context}
use Rattle.wasm_syntax.proofs.FuncTypes.{func_within}
use Rattle.wasm_flat.specs.Sizes.{IsShort}
use Rattle.hook_insert.specs.Sites.{AreLow, IsLowElem, IsLowKind}
use Rattle.wasm_flat.specs.Sizes.{list_limit}
use Rattle.hook_insert.specs.Rounds.{is_call_within}
use Rattle.hook_insert.specs.Functions.{AreRoomyRuns, IsInsertable}
use Rattle.hook_insert.specs.Modules.{HasLowNumbers}
use Rattle.hook_insert.proofs.Calls.{calls_within}
use Rattle.hook_insert.proofs.Few.{few_locals}

module _ (m : Module) (few : length (func_indices m) < list_limit) where
  low_kind : (kind : ExportKind) → IsThere m kind → IsLowKind kind
  low_kind (exports.Func func) there = omega (arith, there, few)
  low_kind (exports.Table table) there = record {}
  low_kind (exports.Memory memory) there = record {}
  low_kind (exports.Global global) there = record {}

  low_exports : All (λ (e : Export). IsThere m e.kind) m.exports → All (λ (e : Export). IsLowKind e.kind) m.exports
  low_exports there =
      All-weaker (λ (e : Export). IsThere m e.kind) (λ (e : Export). IsLowKind e.kind) (λ e. low_kind e.kind) m.exports there

  low_funcs : (funcs : List ℕ) → All (λ func. IsThere m (exports.Func func)) funcs → AreLow funcs
  low_funcs funcs there =
      All-weaker (λ func. IsThere m (exports.Func func)) (λ func. func < list_limit) (λ func is. omega (arith, is, few)) funcs there

  low_elem : (elem : ElemSeg) → IsElem m elem → IsLowElem elem
  low_elem (Active table offset funcs) is = low_funcs funcs is.2
  low_elem (Declared funcs) is = low_funcs funcs is

  low_elems : All (IsElem m) m.elems → All IsLowElem m.elems
  low_elems are = All-weaker (IsElem m) IsLowElem low_elem m.elems are

  low_start : (start : Option ℕ) → IfSome start (IsStart m) → IfSome start (λ func. func < list_limit)
  low_start None is = is
  low_start (Some func) is = let there = func_within m func is.ty is.has_type in omega (arith, there, few)

  -- ---- functions

  -- no run is longer than all together
  runs_within : (most : ℕ) (runs : List Run) → sum_by (λ (run : Run). run.count) runs ≤ most → All (λ (run : Run). run.count ≤ most) runs
  runs_within most [] fits = All-nil (λ (run : Run). run.count ≤ most)
  runs_within most (run ∷ runs) fits =
      let all = sum_by-cons (λ (run : Run). run.count) run runs in
      let first : run.count ≤ most = omega (arith, all, fits) in
      let others : sum_by (λ (run : Run). run.count) runs ≤ most = omega (arith, all, fits) in
      All-cons (λ (run : Run). run.count ≤ most) run runs first (runs_within most runs others)

  roomy_runs : (runs : List Run) → sum_by (λ (run : Run). run.count) runs ≤ MAX_LOCALS_HOOKED → AreRoomyRuns runs
  roomy_runs runs fits = record {
    few = fits;
    each = All-weaker (λ (run : Run). run.count ≤ MAX_LOCALS_HOOKED) (λ (run : Run). run.count + 2 < 2 ^ 32)
        (λ run is. omega (arith, is)) runs (runs_within MAX_LOCALS_HOOKED runs fits);
  }

  insertable : (f : Func) → IsTypedFunc m f → count_of_locals f ≤ MAX_LOCALS_HOOKED → IsInsertable m f
  insertable f typed locals =
      let at_most : length (func_indices m) ≤ list_limit = omega (arith, few) in
      record {
        typed = typed;
        runs = roomy_runs f.locals locals;
        calls = subst (λ body. All (λ i. IsTrue (is_call_within list_limit i)) body) typed.is_body.written
            (All-append (λ i. IsTrue (is_call_within list_limit i)) (flat typed.nest) (End ∷ [])
            (calls_within list_limit (body_context m typed.ty f) typed.nest [] _ at_most typed.typed)
            (All-cons (λ i. IsTrue (is_call_within list_limit i)) End [] refl (All-nil (λ i. IsTrue (is_call_within list_limit i)))));
      }

  pub insertable_funcs : IsValid m → IsShort m → All (IsInsertable m) m.funcs
  insertable_funcs valid short k d less =
      insertable (slice_index_or m.funcs k d) (valid.bodies k d less) (few_locals m short.quantities k d less)

  -- ---- the module

  pub low_numbers : IsValid m → IsShort m → HasLowNumbers m
  low_numbers valid short = record {
    types = short.types;
    funcs = few;
    exports = low_exports valid.outside.exports;
    elems = low_elems valid.outside.elems;
    start = low_start m.start valid.outside.start;
  }
