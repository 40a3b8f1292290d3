-- Locals with the added ones after them are fewer than 2^32, in runs as the encoding has them.
use Rattle.std.proofs.Common.{◌≡◌, ◌≢◌, ℕ, ◌+◌, ◌<◌, ◌≤◌, ◌^◌, List, [], ◌∷◌, ◌++◌, length, Bool, true, false, cond, refl, sym, ap, ◌∙◌, subst, arith}
use Rattle.std.specs.Prelude.{sum_by}
use Rattle.std.specs.List.{AllByRecursion}
use Rattle.std.proofs.lemmas.List.{length-append}
use Rattle.wasm_syntax.specs.declared.values.ValType.{ValType}
use Rattle.wasm_syntax.specs.declared.values.ValType.TheVariants.{I32, I64, F32, F64}
use Rattle.wasm_syntax.specs.declared.modules.Run.{Run}
use Rattle.wasm_syntax.specs.Alike.{same_type}
use Rattle.wasm_syntax.specs.Encoding.Encodable.{FitsLocals, FitsRun}
use Rattle.wasm_syntax.specs.Encoding.Sections.{AreRuns}
use Rattle.wasm_syntax.specs.Validity.{each_local}
use Rattle.wasm_syntax.proofs.ValTypes.{type_own}
use Rattle.record_replay_spec.specs.Instrumented.{locals_of, other_locals, with_added_locals}
use Rattle.record_replay_spec.specs.HookLaws.{BodiesAreInstrumented}
use Rattle.hook_insert.specs.Functions.{AreRoomyRuns}
use Rattle.module_index.proofs.Counts.{locals_count}

differ : (a b : ValType) → same_type a b ≡ false → a ≢ b
differ a b test same = absurd (no (sym (type_own a) ∙ ap (λ t. same_type a t) same ∙ test))
  where
    no : true ≡ false → ⊥
    no h = cc

-- ---- runs

others_are : (count : ℕ) (ty : ValType) → 0 < count → ty ≢ I64 → AreRuns (locals_of count ty ∷ other_locals)
others_are count ty some other =
    (some, other, (omega arith, differ I64 F32 refl, (omega arith, differ F32 F64 refl, omega arith)))

numbers_are : (last : Run) → 0 < last.count → last.ty ≢ I32 → AreRuns (last ∷ locals_of 2 I32 ∷ other_locals)
numbers_are last some other = (some, other, others_are 2 I32 (omega arith) (differ I32 I64 refl))

last_are : (last : Run) (b : Bool) → same_type last.ty I32 ≡ b → 0 < last.count
    → AreRuns (cond b (locals_of (last.count + 2) I32 ∷ other_locals) (last ∷ locals_of 2 I32 ∷ other_locals))
last_are last true test some = others_are (last.count + 2) I32 (omega arith) (differ I32 I64 refl)
last_are last false test some = numbers_are last some (differ last.ty I32 test)

-- a run in front of runs that begin with another type stays a run of its own
front_are : (run next : Run) (runs : List Run) → 0 < run.count → run.ty ≢ next.ty → AreRuns (with_added_locals (next ∷ runs))
    → AreRuns (run ∷ with_added_locals (next ∷ runs))
front_are run next [] some other are = by (same_type next.ty I32) refl are
  where
    by : (b : Bool) → same_type next.ty I32 ≡ b
        → AreRuns (cond b (locals_of (next.count + 2) I32 ∷ other_locals) (next ∷ locals_of 2 I32 ∷ other_locals))
        → AreRuns (run ∷ cond b (locals_of (next.count + 2) I32 ∷ other_locals) (next ∷ locals_of 2 I32 ∷ other_locals))
    by true test are = (some, subst (λ t. run.ty ≢ t) (same next.ty test) other, are)
      where
        same : (t : ValType) → same_type t I32 ≡ true → t ≡ I32
        same I32 h = refl
        same t h = cc
    by false test are = (some, other, are)
front_are run next (later ∷ runs) some other are = (some, other, are)

pub runs_are : (runs : List Run) → AreRuns runs → AreRuns (with_added_locals runs)
runs_are [] are = others_are 2 I32 (omega arith) (differ I32 I64 refl)
runs_are (last ∷ []) are = last_are last (same_type last.ty I32) refl are
runs_are (run ∷ next ∷ runs) are = front_are run next runs are.0 are.1 (runs_are (next ∷ runs) are.2)

-- ---- counts

others_fit : (count : ℕ) → count < 2 ^ 32 → AllByRecursion FitsRun (locals_of count I32 ∷ other_locals)
others_fit count few = ((few, tt), ((omega arith, tt), ((omega arith, tt), ((omega arith, tt), tt))))

last_fit : (last : Run) (b : Bool) → FitsRun last → last.count + 2 < 2 ^ 32
    → AllByRecursion FitsRun (cond b (locals_of (last.count + 2) I32 ∷ other_locals) (last ∷ locals_of 2 I32 ∷ other_locals))
last_fit last true fits few = others_fit (last.count + 2) few
last_fit last false fits few = (fits, others_fit 2 (omega arith))

pub counts_fit : (runs : List Run) → AllByRecursion FitsRun runs → AllByRecursion (λ (run : Run). run.count + 2 < 2 ^ 32) runs
    → AllByRecursion FitsRun (with_added_locals runs)
counts_fit [] fit few = others_fit 2 (omega arith)
counts_fit (last ∷ []) fit few = last_fit last (same_type last.ty I32) fit.0 few.0
counts_fit (run ∷ next ∷ runs) fit few = (fit.0, counts_fit (next ∷ runs) fit.1 few.1)

-- five more
pub added_count : (runs : List Run) → each_local (with_added_locals runs) ≡ each_local runs ++ I32 ∷ I32 ∷ I64 ∷ F32 ∷ F64 ∷ []
    → sum_by (λ (run : Run). run.count) (with_added_locals runs) ≡ sum_by (λ (run : Run). run.count) runs + 5
added_count runs is =
    let a = locals_count (with_added_locals runs) in
    let b = locals_count runs in
    let c : length (each_local (with_added_locals runs)) ≡ length (each_local runs ++ I32 ∷ I32 ∷ I64 ∷ F32 ∷ F64 ∷ []) = ap length is in
    let d = length-append (each_local runs) (I32 ∷ I32 ∷ I64 ∷ F32 ∷ F64 ∷ []) in
    omega (arith, a, b, c, d)
