-- Tapes and plans that are not those of a run: their replay modules show another history, make other changes, or call
-- an import more or fewer times.
use Rattle.std.specs.Prelude.{◌≡◌, ℕ, [], ◌∷◌, length, map, Some, false}
use Rattle.wasm_syntax.specs.declared.modules.Module.{Module}
use Rattle.host_script.specs.declared.scripts.Address.TheVariants.{Fixed}
use Rattle.host_script.specs.declared.scripts.Action.TheVariants.{Write, SetTable, Grow as GrowBy}
use Rattle.host_script.specs.declared.scripts.Script.{Script}
use Rattle.trace_model.specs.declared.tapes.Effect.TheVariants.{Bytes}
use Rattle.trace_model.specs.declared.tapes.Tape.{Tape}
use Rattle.replay_module_spec.specs.declared.plans.Plan.{Plan}
use Rattle.replay_module_spec.specs.Plans.{plan_of}
use Rattle.replay_run_spec.specs.Steps.{AreWithinBound}
use Rattle.worked_histories.specs.Modules.{two_answers, overwrite, grow_access, nested_call, table_entry}
use Rattle.worked_histories.specs.Scripts.{five_seven, does, calls_back}
use Rattle.worked_replay_modules.specs.Tapes.{calls_one, ends_work, five, seven, calls_two, two, four_then_one, tape, one_return, one_return_then_trap, early_effects_tape}
use Rattle.worked_replay_modules.specs.Tests.{print_plan, lines_of_result, script_lines, same_lines, changes_made, steps_made}

-- the replay module of a plan shows another history than the script's
abbrev pub ShowsAnother : Module → Script → Plan → Type 0
ShowsAnother m script plan =
    same_lines (lines_of_result (print_plan m script plan 100)) (script_lines m script) ≡ false

-- the replay module of a tape shows another history than the script's
abbrev pub TapeShowsAnother : Module → Script → Tape → Type 0
TapeShowsAnother m script tape = ShowsAnother m script (plan_of 1 tape)

-- the tape with one of two answers left out
abbrev pub one_answer : Tape
one_answer = tape (calls_one ∷ five ∷ ends_work ∷ [])

-- the tape with a third answer
abbrev pub three_answers : Tape
three_answers = tape (calls_one ∷ five ∷ seven ∷ five ∷ ends_work ∷ [])

-- the two answers are exchanged
abbrev pub ExchangedAnswers : Type 0
ExchangedAnswers = TapeShowsAnother two_answers five_seven (tape (calls_one ∷ seven ∷ five ∷ ends_work ∷ []))

-- an answer is left out
abbrev pub MissingAnswer : Type 0
MissingAnswer = TapeShowsAnother two_answers five_seven one_answer

-- one byte is wrong
abbrev pub WrongByte : Type 0
WrongByte =
    TapeShowsAnother overwrite (does (Write (Fixed 8) (0xAA ∷ 0xBB ∷ 0xCC ∷ 0xDD ∷ [])))
    (one_return (Bytes 10 (0xCC ∷ 0xDE ∷ []) ∷ []))

-- only the first byte is written
abbrev pub FirstByteAlone : Type 0
FirstByteAlone =
    TapeShowsAnother overwrite (does (Write (Fixed 8) (0xAA ∷ 0xBB ∷ 0xCC ∷ 0xDD ∷ [])))
    (one_return (Bytes 10 (0xCC ∷ []) ∷ []))

-- a growth that an access sees is dropped
abbrev pub MissingGrowth : Type 0
MissingGrowth = TapeShowsAnother grow_access (does (GrowBy 1)) (one_return [])

-- the entry is not set
abbrev pub MissingEntry : Type 0
MissingEntry = TapeShowsAnother table_entry (does (SetTable 0 (Some 3))) (one_return_then_trap [])

-- the calls of the import are in the order in which they return
abbrev pub ExchangedCalls : Type 0
ExchangedCalls =
    ShowsAnother nested_call calls_back
    (record {
      begin = calls_one ∷ ends_work ∷ [];
      imports = ((two ∷ []) ∷ (calls_two ∷ four_then_one ∷ []) ∷ []) ∷ [];
    })

-- the segments of the nested call belong to its own activation
abbrev pub MergedCalls : Type 0
MergedCalls =
    ShowsAnother nested_call calls_back
    (record {
      begin = calls_one ∷ ends_work ∷ [];
      imports = ((calls_two ∷ two ∷ four_then_one ∷ []) ∷ []) ∷ [];
    })

-- effects before the nested call are made in another stretch
abbrev pub EarlyEffects : Type 0
EarlyEffects =
    changes_made nested_call calls_back early_effects_tape 100 ≡
    [] ∷ (Bytes 0 (4 ∷ []) ∷ []) ∷ [] ∷ [] ∷ [] ∷ []

-- ---- runs that call an import more or fewer times than their tape

-- the run makes `calls` calls of the import, each of them within the bound of steps
pub record MakesCalls (tape : Tape) (calls : ℕ) : Type 0 where
  pub count : map length (steps_made two_answers five_seven tape 100) ≡ calls ∷ []
  pub steps : AreWithinBound (plan_of 1 tape).imports (steps_made two_answers five_seven tape 100)

-- the run makes a second call, which the tape does not have
abbrev pub CallPastTape : Type 0
CallPastTape = MakesCalls one_answer 2

-- the run does not make the third call of the tape
abbrev pub CallNotMade : Type 0
CallNotMade = MakesCalls three_answers 2

-- all statements on wrong tapes and plans hold
pub record WrongReplays : Type 0 where
  pub exchanged_answers : ExchangedAnswers
  pub missing_answer : MissingAnswer
  pub wrong_byte : WrongByte
  pub first_byte_alone : FirstByteAlone
  pub missing_growth : MissingGrowth
  pub missing_entry : MissingEntry
  pub exchanged_calls : ExchangedCalls
  pub merged_calls : MergedCalls
  pub early_effects : EarlyEffects
  pub call_past_tape : CallPastTape
  pub call_not_made : CallNotMade
