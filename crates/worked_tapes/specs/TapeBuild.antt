-- Short names for the parts of tapes and of the statements on them.
use Rattle.std.specs.Prelude.{◌≡◌, ℕ, List, [], ◌∷◌, None, Result, Ok, Err}
use Rattle.wasm_syntax.specs.declared.modules.Module.{Module}
use Rattle.host_script.specs.declared.scripts.LinkFault.{LinkFault}
use Rattle.host_script.specs.declared.scripts.Script.{Script}
use Rattle.base.specs.declared.outcomes.Outcome.{Outcome}
use Rattle.trace_model.specs.declared.tapes.Origin.{Origin}
use Rattle.trace_model.specs.declared.tapes.Origin.TheVariants.{Begin, Import, Back}
use Rattle.trace_model.specs.declared.tapes.Next.{Next}
use Rattle.trace_model.specs.declared.tapes.Next.TheVariants.{Call, Return, End}
use Rattle.trace_model.specs.declared.tapes.Effect.{Effect}
use Rattle.trace_model.specs.declared.tapes.Segment.{Segment}
use Rattle.trace_model.specs.Weight.{tape_weight}
use Rattle.history_spec.specs.declared.entries.Entry.{Entry}
use Rattle.history_spec.specs.Store.{Store}
use Rattle.history_spec.specs.Code.{code_of}
use Rattle.history_spec.specs.Run.{Run, all_one, run_from, program_of, start_in_store}
use Rattle.record_replay_spec.specs.Observations.{Observation, run_observations}
use Rattle.record_replay_spec.specs.Needed.{IsNeededTape, opening_store, IsNeededOfRun}
use Rattle.record_replay_spec.specs.TapeRun.{TapeProgress, TapeResult, Over, tape_result, tape_run}

-- ---- tapes

abbrev pub segment : Origin → List Effect → Next → Segment
segment origin effects next = record { origin = origin; effects = effects; next = next }

-- function 1 is called, and its one call of the import has these effects and returns nothing; then the function traps
abbrev pub changes_then_traps : List Effect → List Segment
changes_then_traps effects = segment Begin [] (Call 1 []) ∷ segment (Import 0) effects (Return None) ∷ []

-- function 1 is called, and its one call of the import has these effects and returns nothing; then the function
-- returns
abbrev pub changes : List Effect → List Segment
changes effects =
    segment Begin [] (Call 1 []) ∷ segment (Import 0) effects (Return None) ∷ segment Back [] End ∷ []

-- ---- runs

-- a property of the store in which a run begins, if linking succeeds
abbrev pub IfOpened : Result Store LinkFault → (Store → Type 0) → Type 0
IfOpened (Ok store) holds = holds store
IfOpened (Err fault) holds = ⊥

-- the number of steps that are computed: more than any of the runs takes
abbrev pub max_steps : ℕ
max_steps = 100

-- the scripted run
abbrev pub scripted_run : Module → Script → Store → Run
scripted_run m script store = run_from (program_of m script) all_one (start_in_store m script store) max_steps

-- the run of a tape
abbrev pub run_of_tape : Module → Store → List Segment → TapeResult
run_of_tape m store segments = tape_run (code_of m) store segments max_steps

-- ---- statements

-- the run of the tape has the history of the scripted run, and this outcome
abbrev pub Replays : Module → Script → List Segment → Outcome → Type 0
Replays m script segments outcome =
    IfOpened (opening_store m script) (λ store.
    run_of_tape m store segments ≡ tape_result (scripted_run m script store).history (Over outcome))

-- the scripted run needs exactly these segments, of this weight, and their run has the scripted run's history and this
-- outcome
pub record Needs (m : Module) (script : Script) (segments : List Segment) (weight : ℕ) (outcome : Outcome)
    : Type 0 where
  pub needed : IsNeededOfRun m script segments
  pub weighs : tape_weight (record { segments = segments }) ≡ weight
  pub replays : Replays m script segments outcome

-- the observations of the scripted run
abbrev pub Observes : Module → Script → List Observation → Type 0
Observes m script seen =
    IfOpened (opening_store m script) (λ store.
    run_observations (program_of m script) (start_in_store m script store) max_steps ≡ seen)

-- the run of the tape has these entries, and then this progress: it is over, disagrees or finds no rule
abbrev pub Comes : Module → Script → List Segment → List Entry → TapeProgress → Type 0
Comes m script segments entries progress =
    IfOpened (opening_store m script) (λ store. run_of_tape m store segments ≡ tape_result entries progress)

-- the segments are not the needed tape of the scripted run
abbrev pub IsNotNeededOf : Module → Script → List Segment → Type 0
IsNotNeededOf m script segments =
    IfOpened (opening_store m script) (λ store.
    IsNeededTape (program_of m script) (start_in_store m script store) store segments → ⊥)
