-- The claim that in a tape's run beside a scripted run each effect that gives a size gives a greater one.
use Rattle.std.proofs.Common.{◌≡◌, ℕ, zero, suc, List, [], ◌∷◌, subst}
use Rattle.wasm_syntax.specs.declared.modules.Module.{Module}
use Rattle.base.specs.declared.outcomes.Outcome.{Outcome}
use Rattle.trace_model.specs.declared.tapes.Segment.{Segment}
use Rattle.history_spec.specs.declared.entries.Entry.{Entry}
use Rattle.history_spec.specs.Store.{Store}
use Rattle.history_spec.specs.Code.{Code, code_of}
use Rattle.history_spec.specs.Configuration.{Activation, InModule, InMain, InImport}
use Rattle.record_replay_spec.specs.TapeRun.{TapeConfig, Plays, Over, TapeResult, tape_result, tape_step, tape_steps}
use Rattle.record_replay_spec.specs.ObservedStepLaws.{ObservedStepsAreAlike}
use Rattle.type_safety.specs.Heights.{Heights}
use Rattle.generated_code_laws.specs.EffectLaws.{AllGrowSizes}
use Rattle.tape_laws.proofs.Ready.{when_ready, HoldsByStep, holds_closed}
use Rattle.generated_code_laws.specs.Playable.{GrowsNext}
use Rattle.tape_laws.proofs.Claims.{Claim}
use Rattle.tape_laws.proofs.Closed.{IsClosed, tape_place}
use Rattle.replay_theorem.proofs.Growths.{needed_grow}

-- from this result on, if the host's part is next, the segment's effects grow each size that they give
abbrev pub Grows : Code → TapeResult → Type 0
Grows code t =
    (k : ℕ) (c : TapeConfig) → (tape_steps code k t.next).next ≡ Plays c
    → GrowsNext c.config.store c.config.stack c.left

abbrev pub grows : Claim
grows = when_ready (λ code t history outcome. Grows code t)

-- one step of the tape's run
grows_step : (code : Code) (t : TapeConfig) → GrowsNext t.config.store t.config.stack t.left
    → Grows code (tape_step code t) → Grows code (tape_result [] (Plays t))
grows_step code t here later zero c is =
    let same : t ≡ c = cc in
    subst (λ (c : TapeConfig). GrowsNext c.config.store c.config.stack c.left) same here
grows_step code t here later (suc k) c is = later k c is

grows_over : (code : Code) (entries : List Entry) (outcome : Outcome) → Grows code (tape_result entries (Over outcome))
grows_over code entries outcome zero c is = cc
grows_over code entries outcome (suc k) c is = cc

next_grows : (store : Store) (stack : List Activation) (segment : Segment) (later : List Segment)
    → AllGrowSizes store segment.effects → GrowsNext store stack (segment ∷ later)
next_grows store [] segment later grow = grow
next_grows store (InModule frame ∷ below) segment later grow = tt
next_grows store (InMain actions ∷ below) segment later grow = grow
next_grows store (InImport import args actions end ∷ below) segment later grow = grow

grows_by_step : (code : Code) → HoldsByStep code (λ code t history outcome. Grows code t)
grows_by_step code =
    record {
      over = grows_over code;
      entry = λ t history outcome entry g. g;
      instruction = λ frame below counts came other segments history outcome.
          grows_step code (tape_place (InModule frame ∷ below) counts came other segments) tt;
      segment = λ known seen store stack counts came other segment segments history outcome sizes of reads holds need.
          grows_step code (tape_place stack counts came other (segment ∷ segments))
          (next_grows other stack segment segments
          (needed_grow known seen store sizes of reads other holds segment.effects need));
    }

pub grows_closed : ObservedStepsAreAlike → (m : Module) (heights : Heights) → IsClosed grows m heights
grows_closed alike m heights =
    holds_closed alike m heights (λ code t history outcome. Grows code t) (grows_by_step (code_of m))
