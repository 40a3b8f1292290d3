-- Claims that hold of a whole run if they hold of its parts.
use Rattle.std.specs.Prelude.{◌≡◌, ℕ, List, [], ◌∷◌, ◌++◌, Option}
use Rattle.wasm_syntax.specs.declared.values.Val.{Val}
use Rattle.wasm_syntax.specs.declared.signatures.FuncType.{FuncType}
use Rattle.wasm_syntax.specs.declared.modules.Module.{Module}
use Rattle.base.specs.declared.outcomes.Outcome.{Outcome}
use Rattle.base.specs.declared.outcomes.Outcome.TheVariants.{Trapped}
use Rattle.trace_model.specs.declared.tapes.Origin.{Origin}
use Rattle.trace_model.specs.declared.tapes.Next.{Next}
use Rattle.trace_model.specs.declared.tapes.Segment.{Segment}
use Rattle.history_spec.specs.declared.entries.Entry.{Entry}
use Rattle.history_spec.specs.declared.entries.Entry.TheVariants.{Step, Trap}
use Rattle.history_spec.specs.declared.entries.TrapKind.{TrapKind}
use Rattle.history_spec.specs.Store.{Store}
use Rattle.history_spec.specs.Code.{Code, Definition, code_of}
use Rattle.history_spec.specs.Configuration.{Frame, Activation, InModule}
use Rattle.history_spec.specs.Instruction.{Control, Did, Traps, execute}
use Rattle.history_spec.specs.Step.{after_entries, after_control}
use Rattle.record_replay_spec.specs.Observations.{Observation, Begins, Ends}
use Rattle.record_replay_spec.specs.Known.{Known, known_after_all}
use Rattle.record_replay_spec.specs.Windows.{window}
use Rattle.record_replay_spec.specs.TapeRun.{program_awaiting, TapeConfig, Plays, Over, TapeResult, tape_result, tape_after, after_step, after_next, after_segment, tape_step_of}
use Rattle.record_replay_spec.specs.Changes.{with_changes}
use Rattle.record_replay_spec.specs.Executions.{in_store}
use Rattle.record_replay_spec.specs.ObservedStepLaws.{observed}
use Rattle.type_safety.specs.Configurations.{IsGoing, scope}
use Rattle.type_safety.specs.Frames.{IsFrame}
use Rattle.type_safety.specs.Heights.{Heights}
use Rattle.type_safety.specs.Stores.{IsStore}
use Rattle.tape_laws.proofs.Stores.{maxima}
use Rattle.tape_laws.proofs.Relation.{IsKnownOf, IsReadOf, AreSeen}
use Rattle.tape_laws.proofs.Claims.{Claim}

-- control is before an instruction of a well-typed activation, in a store that fits what is known
pub record IsBeforeInstruction (m : Module) (heights : Heights) (known : Known) (store : Store)
    (frame : Frame) : Type 0 where
  pub ty : FuncType
  pub body : Definition
  pub typed : IsFrame (scope m heights frame.func ty body) [] frame
  pub going : IsGoing frame.at.rest
  pub is : IsStore m store
  pub of : IsKnownOf known store
  pub seen : AreSeen known store (observed store frame)

-- the tape's run at a configuration
abbrev pub tape_place : List Activation → List ℕ → Origin → Store → List Segment → TapeConfig
tape_place stack counts came store segments =
    record {
      config = record { store = store; stack = stack; counts = counts };
      left = segments;
      came = came;
    }

abbrev pub tape_at : List Activation → List ℕ → Origin → Store → List Segment → TapeResult
tape_at stack counts came store segments = tape_result [] (Plays (tape_place stack counts came store segments))

-- if observations remain, entries remain
pub data IsMore (left : List Observation) (history : List Entry) : Type 0 where
  NoneLeft : (is : left ≡ []) → IsMore left history
  OneMore : (entry : Entry) (rest : List Entry) (is : history ≡ entry ∷ rest) → IsMore left history

module _ (claim : Claim) (m : Module) (heights : Heights) where
  abbrev code : Code
  code = code_of m

  -- a claim on the tape's run from each store and segments with which the tape's run may go on
  abbrev pub Goes : Known → (store : Store) → List Observation → (Store → List Segment → TapeResult) → List Entry
      → Outcome → Type 0
  Goes known store left tape history outcome =
      (other : Store) (segments : List Segment) → maxima other ≡ maxima store → claim.ready known left other segments
      → claim.comes code (tape other segments) history outcome

  -- a claim on the tape's run holds before a segment of the host if it holds after it
  abbrev pub HoldsBeforeSegment : Type 0
  HoldsBeforeSegment =
      (known : Known) (store : Store) (came : Origin) (next : Next) (left : List Observation) (history : List Entry)
      (outcome : Outcome) (stack : List Activation) (counts : List ℕ)
      → ((t : TapeConfig) → tape_step_of code stack t ≡ after_segment code t.config t.left t.came)
      → IsStore m store → IsKnownOf known store → IsReadOf known (window left) store → IsMore left history
      → Goes known store left (λ other segments. after_next code other counts stack segments came next) history outcome
      → Goes known store (Begins came ∷ Ends next ∷ left) (tape_at stack counts came) history outcome

  module _ (known : Known) (store : Store) (frame : Frame) (below : List Activation) (counts : List ℕ)
      (came : Origin) where
    -- a claim holds before an instruction that traps
    abbrev pub HoldsBeforeTrap : Type 0
    HoldsBeforeTrap =
        (kind : TrapKind) (operands : List Val) (found : Option ℕ)
        → execute code store frame ≡ Traps kind operands found
        → Goes known store (observed store frame ++ []) (tape_at (InModule frame ∷ below) counts came)
        (Trap frame.func frame.at.number kind operands found ∷ []) Trapped

    -- a claim holds before an instruction that completes, if it holds after it
    abbrev pub HoldsBeforeStep : Type 0
    HoldsBeforeStep =
        (operands results : List Val) (found : Option ℕ) (control : Control) (later : List Observation)
        (history : List Entry) (outcome : Outcome)
        → execute code store frame ≡ Did operands results found control
        → IsReadOf (known_after_all known (observed store frame)) (window later)
        (with_changes store (observed store frame))
        → Goes (known_after_all known (observed store frame)) (with_changes store (observed store frame)) later
        (λ other segments. after_step segments came
        (after_entries (Step frame.func frame.at.number operands results found ∷ [])
        (after_control (program_awaiting code)
        (record { store = other; stack = InModule frame ∷ below; counts = counts }) frame below
        (in_store other control))))
        (Step frame.func frame.at.number operands results found ∷ history) outcome
        → Goes known store (observed store frame ++ later) (tape_at (InModule frame ∷ below) counts came)
        (Step frame.func frame.at.number operands results found ∷ history) outcome

  -- a claim that holds after an entry, a segment of the host or an instruction holds before it
  pub record IsClosed : Type 0 where
    pub entry : (t : TapeResult) (history : List Entry) (outcome : Outcome) (entry : Entry)
        → claim.comes code t history outcome
        → claim.comes code (tape_after (entry ∷ []) t) (entry ∷ history) outcome
    pub over : (known : Known) (other : Store) (segments : List Segment) (entries : List Entry) (outcome : Outcome)
        → claim.ready known [] other segments
        → claim.comes code (tape_result entries (Over outcome)) (entries ++ []) outcome
    pub segment : HoldsBeforeSegment
    pub trap : (known : Known) (store : Store) (frame : Frame) (below : List Activation) (counts : List ℕ)
        (came : Origin) → IsBeforeInstruction m heights known store frame
        → HoldsBeforeTrap known store frame below counts came
    pub step : (known : Known) (store : Store) (frame : Frame) (below : List Activation) (counts : List ℕ)
        (came : Origin) → IsBeforeInstruction m heights known store frame
        → HoldsBeforeStep known store frame below counts came
