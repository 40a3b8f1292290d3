-- Parts of instrumented modules: the types of hooks, locals, results, globals.
use Rattle.std.proofs.Common.{◌≡◌, ℕ, zero, suc, ◌+◌, ◌≤◌, List, [], ◌∷◌, ◌++◌, length, map, reverse, Some, Bool, true, false, cond, IsTrue, slice_get, All, refl, ap, ◌∙◌, arith}
use Rattle.std.specs.List.{AllByRecursion, cons_option}
use Rattle.std.proofs.lemmas.List.Elements.{recursion_from_All, All-from_recursion, All-append, All-nil, All-map, All-weaker}
use Rattle.std.proofs.lemmas.Option.{none-some}
use Rattle.base.proofs.Lists.{get_after_by, all_at}
use Rattle.wasm_syntax.specs.declared.values.ValType.{ValType}
use Rattle.wasm_syntax.specs.declared.values.ValType.TheVariants.{I32, I64, F32, F64}
use Rattle.wasm_syntax.specs.declared.signatures.GlobalType.{GlobalType}
use Rattle.wasm_syntax.specs.declared.instructions.Instr.{Instr}
use Rattle.wasm_syntax.specs.declared.modules.Module.{Module}
use Rattle.wasm_syntax.specs.declared.modules.Import.{Import}
use Rattle.wasm_syntax.specs.declared.modules.ImportKind.{ImportKind}
use Rattle.wasm_syntax.specs.declared.modules.ImportKind.TheVariants as import
use Rattle.wasm_syntax.specs.declared.modules.Run.{Run}
use Rattle.wasm_syntax.specs.declared.modules.Global.{Global}
use Rattle.wasm_syntax.specs.Alike.{same_type}
use Rattle.wasm_syntax.specs.Encoding.Forms.{IsCoreInstr}
use Rattle.wasm_syntax.specs.Index.{of_kind, global_import, imported_globals, all_globals}
use Rattle.wasm_syntax.specs.Typing.{is_number, is_block_type, results_of}
use Rattle.wasm_syntax.specs.Validity.{IsFuncType, IsImport, IsGlobal, IsValidOutside}
use Rattle.record_replay_spec.specs.Instrumented.{with_added_locals, locals_of, other_locals, hook_types}
use Rattle.instrumented_module_laws.specs.Laws.{HasWordOffset}
use Rattle.instrumented_module_laws.proofs.Nests.{IsReported}

-- ---- the types of hooks

abbrev pub AreNumbersEach : List ValType → Type 0
AreNumbersEach types = AllByRecursion (λ t. IsTrue (is_number t)) types

hook_type_good : (params : List ValType) → AreNumbersEach params
    → IsFuncType (record { params = params; results = [] })
hook_type_good params numbers =
    record {
      params = All-from_recursion (λ t. IsTrue (is_number t)) params numbers;
      results = All-nil (λ t. IsTrue (is_number t));
      one_result = omega arith;
    }

pub hook_types_good : All IsFuncType hook_types
hook_types_good =
    All-from_recursion IsFuncType hook_types (
      hook_type_good (I32 ∷ I64 ∷ []) (refl, (refl, tt)),
      (
        hook_type_good (I32 ∷ []) (refl, tt),
        (
          hook_type_good [] tt,
          (
            hook_type_good (I32 ∷ I32 ∷ I32 ∷ []) (refl, (refl, (refl, tt))),
            (hook_type_good (I32 ∷ I32 ∷ I32 ∷ I64 ∷ []) (refl, (refl, (refl, (refl, tt)))), tt),
          ),
        ),
      ),
    )

-- ---- locals

abbrev pub added : List ValType
added = I32 ∷ I32 ∷ I64 ∷ F32 ∷ F64 ∷ []

abbrev pub AreNumberRuns : List Run → Type 0
AreNumberRuns runs = AllByRecursion (λ run. IsTrue (is_number run.ty)) runs

last_numbers : (last : Run) (b : Bool) → IsTrue (is_number last.ty)
    → AreNumberRuns (cond b (locals_of (last.count + 2) I32 ∷ other_locals) (last ∷ locals_of 2 I32 ∷ other_locals))
last_numbers last true h = (refl, (refl, (refl, (refl, tt))))
last_numbers last false h = (h, (refl, (refl, (refl, (refl, tt)))))

pub numbers_added : (runs : List Run) → AreNumberRuns runs → AreNumberRuns (with_added_locals runs)
numbers_added [] h = (refl, (refl, (refl, (refl, tt))))
numbers_added (last ∷ []) h = last_numbers last (same_type last.ty I32) h.0
numbers_added (run ∷ next ∷ runs) h = (h.0, numbers_added (next ∷ runs) h.1)

-- an item of those that are added after a list
pub added_at : (own : List ValType) (first place x : ℕ) (t : ValType) → first ≡ length own → x ≡ first + place
    → slice_get added place ≡ Some t → slice_get (own ++ added) x ≡ Some t
added_at own first place x t e is there =
    let at : x ≡ length own + place = omega (arith, e, is) in get_after_by own added x place at ∙ there

-- ---- results of a body

pub block_results : (results : List ValType) → length results ≤ 1 → results_of (slice_get results 0) ≡ reverse results
block_results [] few = refl
block_results (t ∷ []) few = refl
block_results (t ∷ u ∷ types) few = absurd (omega (arith, few))

pub block_type_good : (results : List ValType) → All (λ t. IsTrue (is_number t)) results
    → IsTrue (is_block_type (slice_get results 0))
block_type_good [] h = refl
block_type_good (t ∷ types) h = all_at (λ t. IsTrue (is_number t)) (t ∷ types) 0 t h refl

pub body_labels : (label results : List ValType) → label ≡ results → (l : ℕ) (x : List ValType)
    → slice_get (results ∷ []) l ≡ Some x → slice_get (label ∷ results ∷ []) l ≡ Some x
body_labels label results e zero x h = ap Some e ∙ h
body_labels label results e (suc l) x h = absurd (none-some x h)

-- ---- instructions that hooks report

pub reported_all : (is : List Instr) → AllByRecursion IsCoreInstr is → AllByRecursion HasWordOffset is
    → AllByRecursion IsReported is
reported_all [] core words = tt
reported_all (i ∷ is) core words = ((core.0, words.0), reported_all is core.1 words.1)

-- ---- globals

imported_numbers : (m : Module) (imports : List Import) → AllByRecursion (λ i. IsImport m i.kind) imports
    → AllByRecursion (λ (g : GlobalType). IsTrue (is_number g.ty)) (of_kind global_import imports)
imported_numbers m [] h = tt
imported_numbers m (i ∷ imports) h = by i.kind h.0 (imported_numbers m imports h.1)
  where
    by : (kind : ImportKind) → IsImport m kind
        → AllByRecursion (λ (g : GlobalType). IsTrue (is_number g.ty)) (of_kind global_import imports)
        → AllByRecursion (λ (g : GlobalType). IsTrue (is_number g.ty))
        (cons_option (global_import kind) (of_kind global_import imports))
    by (import.Func t) own later = later
    by (import.Table limits) own later = later
    by (import.Memory limits) own later = later
    by (import.Global ty) own later = (own, later)

pub global_numbers : (m : Module) → IsValidOutside m → All (λ (g : GlobalType). IsTrue (is_number g.ty)) (all_globals m)
global_numbers m outside =
    All-append (λ (g : GlobalType). IsTrue (is_number g.ty)) (imported_globals m) (map (λ (g : Global). g.ty) m.globals)
    (All-from_recursion (λ (g : GlobalType). IsTrue (is_number g.ty)) (imported_globals m)
    (imported_numbers m m.imports (recursion_from_All (λ i. IsImport m i.kind) m.imports outside.imports)))
    (All-map (λ (g : GlobalType). IsTrue (is_number g.ty)) (λ (g : Global). g.ty) m.globals
    (All-weaker (IsGlobal m) (λ (g : Global). IsTrue (is_number g.ty.ty)) (λ g h. h.number) m.globals outside.globals))
