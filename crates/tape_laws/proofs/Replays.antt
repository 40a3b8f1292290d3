-- The claim that a tape's run replays the scripted run: with the needed segments, from a store that holds what the
-- window reads first, it has the same outcome and the same history.
use Rattle.std.proofs.Common.{◌≡◌, ℕ, suc, List, [], ◌∷◌, refl, ap}
use Rattle.wasm_syntax.specs.declared.modules.Module.{Module}
use Rattle.base.specs.declared.outcomes.Outcome.{Outcome}
use Rattle.history_spec.specs.declared.entries.Entry.{Entry}
use Rattle.history_spec.specs.Code.{Code, code_of}
use Rattle.history_spec.specs.Configuration.{InModule}
use Rattle.record_replay_spec.specs.TapeRun.{TapeConfig, Plays, Over, TapeResult, tape_result, tape_after, tape_step, tape_steps}
use Rattle.record_replay_spec.specs.ObservedStepLaws.{ObservedStepsAreAlike}
use Rattle.type_safety.specs.Heights.{Heights}
use Rattle.tape_laws.proofs.Claims.{Claim}
use Rattle.tape_laws.proofs.Closed.{tape_place, IsClosed}
use Rattle.tape_laws.proofs.Ready.{when_ready, HoldsByStep, holds_closed}

-- from this result on, the tape's run reaches an outcome, with this history
pub record Shows (code : Code) (t : TapeResult) (history : List Entry) (outcome : Outcome) : Type 0 where
  pub count : ℕ
  pub is : tape_after t.entries (tape_steps code count t.next) ≡ tape_result history (Over outcome)

abbrev pub replays : Claim
replays = when_ready Shows

-- one step of the tape's run
shows_step : (code : Code) (t : TapeConfig) (history : List Entry) (outcome : Outcome)
    → Shows code (tape_step code t) history outcome → Shows code (tape_result [] (Plays t)) history outcome
shows_step code t history outcome r = record { count = suc r.count; is = r.is }

shows_by_step : (code : Code) → HoldsByStep code Shows
shows_by_step code =
    record {
      over = λ entries outcome. record { count = 0; is = refl };
      entry = λ t history outcome entry r. record { count = r.count; is = ap (tape_after (entry ∷ [])) r.is };
      instruction = λ frame below counts came other segments.
          shows_step code (tape_place (InModule frame ∷ below) counts came other segments);
      segment = λ known seen store stack counts came other segment segments history outcome sizes of reads holds need.
          shows_step code (tape_place stack counts came other (segment ∷ segments)) history outcome;
    }

pub replays_closed : ObservedStepsAreAlike → (m : Module) (heights : Heights) → IsClosed replays m heights
replays_closed alike m heights = holds_closed alike m heights Shows (shows_by_step (code_of m))
