-- Instrumented functions have encodings.
use Rattle.std.proofs.Common.{◌≡◌, ℕ, ◌+◌, ◌<◌, ◌≤◌, ◌^◌, List, [], ◌∷◌, ◌++◌, length, Option, Some, None, true, IsTrue, refl, ap, ◌∙◌, subst, arith}
use Rattle.std.specs.Prelude.{flat_map, nat_lt, slice_get, sum_by, All}
use Rattle.std.specs.List.{AllByRecursion}
use Rattle.std.proofs.lemmas.Bool.Decides.{nat_tests}
use Rattle.std.proofs.lemmas.List.Elements.{All-from_recursion, recursion_from_All}
use Rattle.base.proofs.Lists.{all_at, joined_all}
use Rattle.wasm_syntax.specs.declared.limits.TheConstants.{MAX_PARAMETERS}
use Rattle.wasm_syntax.specs.declared.forms.Form.{Form}
use Rattle.wasm_syntax.specs.declared.values.ValType.{ValType}
use Rattle.wasm_syntax.specs.declared.signatures.FuncType.{FuncType}
use Rattle.wasm_syntax.specs.declared.instructions.Instr.{Instr}
use Rattle.wasm_syntax.specs.declared.instructions.Instr.TheVariants.{Block, Call, End, GlobalGet, GlobalSet, Load, Store}
use Rattle.wasm_syntax.specs.declared.modules.Run.{Run}
use Rattle.wasm_syntax.specs.declared.modules.Func.{Func}
use Rattle.wasm_syntax.specs.declared.modules.Module.{Module}
use Rattle.wasm_syntax.specs.Encoding.Encodable.{FitsBlockType, FitsBody, FitsFunc, FitsFuncType, FitsInstr, FitsLocals, FitsU32, FitsValType}
use Rattle.wasm_syntax.specs.Index.{imported_funcs, type_at}
use Rattle.wasm_syntax.specs.Laws.{BodiesAreRead}
use Rattle.wasm_syntax.specs.Nest.{nest_of}
use Rattle.wasm_syntax.specs.Validity.{each_local}
use Rattle.wasm_flat.specs.Sizes.{list_limit}
use Rattle.record_replay_spec.specs.Hooks.{hook_place}
use Rattle.record_replay_spec.specs.Insertions.{Site, imports_at, inserted_after, inserted_at_end, inserted_at_enter, inserted_before}
use Rattle.record_replay_spec.specs.Instrumented.{each_func, instrumented_body, instrumented_func, renumbered, site_of, with_added_locals}
use Rattle.record_replay_spec.specs.HookLaws.{BodiesAreInstrumented}
use Rattle.hook_insert.specs.Functions.{AreRoomyRuns, IsInsertable, func_of_rounds}
use Rattle.hook_insert.specs.Rounds.{instrumented_code, is_call_within, round}
use Rattle.module_index.proofs.Counts.{locals_count}
use Rattle.hook_insert.proofs.FlatFunctions.{func_is}
use Rattle.hook_insert.proofs.Rounds.{code_of_body}
use Rattle.hook_insert.proofs.Inserted.{HasReported, HoldsOfKinds, each_after, each_at_end, each_at_enter, each_before}
use Rattle.hook_insert.proofs.EncodedLocals.{added_count, counts_fit, runs_are}
use Rattle.hook_insert.proofs.Meters.{place_less}
use Rattle.hook_insert.proofs.Parts.{low_fits}

-- ---- instructions

-- the numbers that hooks are passed for an instruction that has an encoding are words
words_reported : (form : Form) (i : Instr) → FitsInstr form i → HasReported FitsU32 i
words_reported form (Call func) fits = fits
words_reported form (Load at) fits = fits.1.1
words_reported form (Store at) fits = fits.1.1
words_reported form (GlobalGet global) fits = fits
words_reported form (GlobalSet global) fits = fits
words_reported form i fits = tt

renumbered_fits : (form : Form) (n : ℕ) (i : Instr) → FitsInstr form i → IsTrue (is_call_within list_limit i)
    → FitsInstr form (renumbered n i)
renumbered_fits form n (Call func) fits within = low_fits n func (below func within)
  where
    below : (func : ℕ) → nat_lt func list_limit ≡ true → func < list_limit
    below func h = grind (arith, nat_tests, h)
renumbered_fits form n i fits within = fits

module _ (form : Form) (s : Site) (few : imported_funcs s.m < list_limit) (own : s.func < list_limit)
    (room : s.locals + 4 < 2 ^ 32) where
  abbrev Each : List Instr → Type 0
  Each is = AllByRecursion (FitsInstr form) is

  kinds : HoldsOfKinds (FitsInstr form) FitsU32 s
  kinds = record {
    reported = λ bits q. q;
    hook = λ kind. let less = place_less kind in omega (arith, less, few);
    get = λ local there. omega (arith, there, room);
    set = λ local there. omega (arith, there, room);
    tee = omega (arith, room);
    wrapped = refl;
    extended = refl;
    bits32 = refl;
    bits64 = refl;
    own = omega (arith, own);
    small = λ n less. omega (arith, less);
  }

  round_fits : (i : Instr) → FitsInstr form i → IsTrue (is_call_within list_limit i) → Each (round s i)
  round_fits i fits within =
      joined_all (FitsInstr form) (inserted_before s i) (renumbered (imports_at s) i ∷ inserted_after s i)
      (each_before (FitsInstr form) FitsU32 s kinds i (words_reported form i fits)) (
        renumbered_fits form (imports_at s) i fits within,
        each_after (FitsInstr form) FitsU32 s kinds i (words_reported form i fits),
      )

  rounds_fit : (body : List Instr) → Each body → AllByRecursion (λ i. IsTrue (is_call_within list_limit i)) body
      → Each (flat_map (round s) body)
  rounds_fit [] fit within = tt
  rounds_fit (i ∷ body) fit within =
      joined_all (FitsInstr form) (round s i) (flat_map (round s) body) (round_fits i fit.0 within.0)
      (rounds_fit body fit.1 within.1)

  block_fits : (results : List ValType) → AllByRecursion FitsValType results → FitsBlockType (slice_get results 0)
  block_fits [] fit = tt
  block_fits (ty ∷ types) fit = fit.0

  code_fits : (ty : FuncType) (body : List Instr) → FitsFuncType ty → length ty.params ≤ s.locals → Each body
      → AllByRecursion (λ i. IsTrue (is_call_within list_limit i)) body → Each (instrumented_code s ty body)
  code_fits ty body types params fit within =
      joined_all (FitsInstr form) (inserted_at_enter s ty.params)
      (Block (slice_get ty.results 0) ∷ (flat_map (round s) body ++ (inserted_at_end s ++ End ∷ [])))
      (each_at_enter (FitsInstr form) FitsU32 s kinds ty.params params) (
        block_fits ty.results types.1,
        joined_all (FitsInstr form) (flat_map (round s) body) (inserted_at_end s ++ End ∷ []) (rounds_fit body fit within)
            (joined_all (FitsInstr form) (inserted_at_end s) (End ∷ []) (each_at_end (FitsInstr form) FitsU32 s kinds) (tt, tt)),
      )

-- ---- functions

locals_fit : BodiesAreInstrumented → (runs : List Run) → FitsLocals runs → AreRoomyRuns runs → FitsLocals (with_added_locals runs)
locals_fit bodies runs fits roomy =
    let count = added_count runs (bodies.locals runs) in
    let few = roomy.few in (
      runs_are runs fits.0,
      counts_fit runs fits.1 (recursion_from_All (λ (run : Run). run.count + 2 < 2 ^ 32) runs roomy.each),
      omega (arith, count, few),
    )

module _ (read : BodiesAreRead) (bodies : BodiesAreInstrumented) (form : Form) (m : Module)
    (few : imported_funcs m < list_limit) (types : AllByRecursion FitsFuncType m.types)
    (params : All (λ (ty : FuncType). length ty.params ≤ MAX_PARAMETERS) m.types) where
  type_fits : (at : ℕ) (ty : FuncType) → type_at m at ≡ Some ty → FitsFuncType ty
  type_fits at ty is = all_at FitsFuncType m.types at ty (All-from_recursion FitsFuncType m.types types) is

  params_few : (at : ℕ) (ty : FuncType) → type_at m at ≡ Some ty → length ty.params ≤ MAX_PARAMETERS
  params_few at ty is = all_at (λ (t : FuncType). length t.params ≤ MAX_PARAMETERS) m.types at ty params is

  body_fits : (index : ℕ) (f : Func) → index < list_limit → FitsFunc form f → (can : IsInsertable m f)
      → FitsBody form (func_of_rounds m index can.typed.ty f).body
  body_fits index f low fits can =
      let ty : FuncType = can.typed.ty in
      let count = locals_count f.locals in
      let locals = can.runs.few in
      let own = params_few f.ty ty can.typed.has_type in
      record {
        instructions =
            code_fits form (site_of m index can.typed.ty f) few low (omega (arith, count, locals, own)) can.typed.ty f.body
            (type_fits f.ty can.typed.ty can.typed.has_type) (omega arith) fits.2.instructions
            (recursion_from_All (λ i. IsTrue (is_call_within list_limit i)) f.body can.calls);
        nest = instrumented_body (site_of m index can.typed.ty f) can.typed.ty can.typed.nest;
        is_body = record {
          nested = bodies.nested (site_of m index can.typed.ty f) can.typed.ty can.typed.nest can.typed.is_body.nested;
          written =
              code_of_body (site_of m index can.typed.ty f) can.typed.ty can.typed.nest
              ∙ ap (instrumented_code (site_of m index can.typed.ty f) can.typed.ty) can.typed.is_body.written;
        };
      }

  func_fits : (index : ℕ) (f : Func) → index < list_limit → FitsFunc form f → IsInsertable m f
      → FitsFunc form (instrumented_func m index f (type_at m f.ty) (nest_of f.body))
  func_fits index f low fits can =
      subst (FitsFunc form) (func_is read m index can.typed.ty f can.typed can.typed.has_type)
      (fits.0, locals_fit bodies f.locals fits.1 can.runs, body_fits index f low fits can)

  pub funcs_fit : (index : ℕ) (funcs : List Func) → index + length funcs ≤ list_limit → AllByRecursion (FitsFunc form) funcs
      → AllByRecursion (IsInsertable m) funcs
      → AllByRecursion (FitsFunc form) (each_func m (instrumented_func m) index funcs)
  funcs_fit index [] low fit can = tt
  funcs_fit index (f ∷ funcs) low fit can =
      (func_fits index f (omega (arith, low)) fit.0 can.0, funcs_fit (index + 1) funcs (omega (arith, low)) fit.1 can.1)
