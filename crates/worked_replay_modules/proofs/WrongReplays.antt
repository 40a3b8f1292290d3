-- Tapes and plans that are not those of a run, computed.
use Rattle.std.proofs.Common.{◌≡◌, ℕ, [], ◌∷◌, length, map, true, refl}
use Rattle.std.specs.Fmt.{digits}
use Rattle.trace_model.specs.declared.tapes.Tape.{Tape}
use Rattle.replay_module_spec.specs.Plans.{plan_of}
use Rattle.replay_run_spec.specs.Steps.{are_within_bound}
use Rattle.replay_run_spec.specs.Laws.{BoundsAreTested}
use Rattle.worked_histories.specs.Modules.{two_answers}
use Rattle.worked_histories.specs.Scripts.{five_seven}
use Rattle.worked_replay_modules.specs.Tests.{steps_made}
use Rattle.worked_replay_modules.specs.WrongReplays.{WrongReplays, ExchangedAnswers, MissingAnswer, WrongByte, FirstByteAlone, MissingGrowth, MissingEntry, ExchangedCalls, MergedCalls, EarlyEffects, one_answer, three_answers, MakesCalls, CallPastTape, CallNotMade}

pub exchanged_answers : ExchangedAnswers
unfolding digits
exchanged_answers = refl

pub missing_answer : MissingAnswer
unfolding digits
missing_answer = refl

pub wrong_byte : WrongByte
unfolding digits
wrong_byte = refl

pub first_byte_alone : FirstByteAlone
unfolding digits
first_byte_alone = refl

pub missing_growth : MissingGrowth
unfolding digits
missing_growth = refl

pub missing_entry : MissingEntry
unfolding digits
missing_entry = refl

pub exchanged_calls : ExchangedCalls
unfolding digits
exchanged_calls = refl

pub merged_calls : MergedCalls
unfolding digits
merged_calls = refl

pub early_effects : EarlyEffects
unfolding digits
early_effects = refl

module _ (bounds : BoundsAreTested) where
  within_bound : (tape : Tape) (calls : ℕ)
      → map length (steps_made two_answers five_seven tape 100) ≡ calls ∷ []
      → are_within_bound (plan_of 1 tape).imports (steps_made two_answers five_seven tape 100) ≡ true
      → MakesCalls tape calls
  within_bound tape calls count tested =
      record {
        count = count;
        steps = (bounds (plan_of 1 tape).imports (steps_made two_answers five_seven tape 100)).0 tested;
      }

  call_past_tape : CallPastTape
  call_past_tape = within_bound one_answer 2 refl refl

  call_not_made : CallNotMade
  call_not_made = within_bound three_answers 2 refl refl

  pub wrong_replays : WrongReplays
  wrong_replays =
      record {
        exchanged_answers = exchanged_answers;
        missing_answer = missing_answer;
        wrong_byte = wrong_byte;
        first_byte_alone = first_byte_alone;
        missing_growth = missing_growth;
        missing_entry = missing_entry;
        exchanged_calls = exchanged_calls;
        merged_calls = merged_calls;
        early_effects = early_effects;
        call_past_tape = call_past_tape;
        call_not_made = call_not_made;
      }
