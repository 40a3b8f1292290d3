-- Other functions in the originals' places: the first check that differs fails.
use Rattle.std.specs.Prelude.{◌≡◌, List, [], ◌∷◌, codes}
use Rattle.base.specs.declared.opcodes.TheConstants.{I32_ADD, I32_SUB}
use Rattle.wasm_syntax.specs.declared.instructions.Instr.TheVariants.{Call, End, Numeric, Return}
use Rattle.wasm_syntax.specs.declared.modules.Func.{Func}
use Rattle.replay_module_spec.specs.Effects.{i32_const}
use Rattle.worked_histories.specs.Build.{func, i32}
use Rattle.worked_replay_modules.specs.Cases.{fill_past_case, two_answers_case}
use Rattle.worked_replay_modules.specs.Tests.{lines_of_result}
use Rattle.worked_guards.specs.Tests.{counts, print_guard, with_others}

-- a subtraction in place of the sum
abbrev pub subtracting : List Func
subtracting = func 0 [] (Call 0 ∷ Call 0 ∷ Numeric I32_SUB ∷ End ∷ []) ∷ []

-- a constant in place of the second call
abbrev pub short_of_a_call : List Func
short_of_a_call = func 0 [] (Call 0 ∷ i32_const 7 ∷ Numeric I32_ADD ∷ End ∷ []) ∷ []

-- a return before the call of the import, and one before the trap
abbrev pub early_return : List Func
early_return = func 0 [] (Return ∷ End ∷ []) ∷ []

abbrev pub late_return : List Func
late_return = func 0 [] (Call 0 ∷ Return ∷ End ∷ []) ∷ []

-- the wrong result is shown, and then a trap outside; the check of the result fails
pub record SubtractionIsFound : Type 0 where
  pub shows : lines_of_result (print_guard two_answers_case (with_others two_answers_case subtracting) 600)
      ≡ codes "host-call 1" ∷ codes "step 1 0 ->" ∷ codes "import-call 0" ∷ codes "import-return 0 i32:00000005"
      ∷ codes "step 1 1 ->" ∷ codes "import-call 0" ∷ codes "import-return 0 i32:00000007"
      ∷ codes "step 1 2 i32:00000005 i32:00000007 -> i32:fffffffe" ∷ codes "host-return 1 i32:fffffffe"
      ∷ codes "host-trap" ∷ codes "host-trapped" ∷ []
  pub counts : counts two_answers_case (with_others two_answers_case subtracting) 600 ≡ i32 4 ∷ i32 3 ∷ i32 5 ∷ []

-- the return of a call by the host is where a call of the import is due
pub record MissingCallIsFound : Type 0 where
  pub shows : lines_of_result (print_guard two_answers_case (with_others two_answers_case short_of_a_call) 600)
      ≡ codes "host-call 1" ∷ codes "step 1 0 ->" ∷ codes "import-call 0" ∷ codes "import-return 0 i32:00000005"
      ∷ codes "step 1 1 -> i32:00000007"
      ∷ codes "step 1 2 i32:00000005 i32:00000007 -> i32:0000000c" ∷ codes "host-return 1 i32:0000000c"
      ∷ codes "host-trap" ∷ codes "host-trapped" ∷ []
  pub counts : counts two_answers_case (with_others two_answers_case short_of_a_call) 600
      ≡ i32 2 ∷ i32 1 ∷ i32 5 ∷ []

-- where the recorded run traps, a return before its call of the import fails the first check, and one behind it comes
-- past the last word
pub record MissingTrapIsFound : Type 0 where
  pub early : counts fill_past_case (with_others fill_past_case early_return) 600 ≡ i32 1 ∷ i32 0 ∷ i32 1 ∷ []
  pub late : counts fill_past_case (with_others fill_past_case late_return) 600 ≡ i32 2 ∷ i32 1 ∷ i32 1 ∷ []

-- all of these
pub record DifferencesAreSeen : Type 0 where
  pub subtraction : SubtractionIsFound
  pub missing_call : MissingCallIsFound
  pub missing_trap : MissingTrapIsFound
