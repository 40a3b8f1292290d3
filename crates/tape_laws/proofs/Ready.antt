-- Claims on the run of a tape that has the kept segments, from a store that holds what the window reads first: such a
-- claim holds of the whole run if it holds step by step.
use Rattle.std.proofs.Common.{◌≡◌, ℕ, List, [], ◌∷◌, ◌++◌, sym, ap, ◌∙◌, subst}
use Rattle.wasm_syntax.specs.declared.modules.Module.{Module}
use Rattle.base.specs.declared.outcomes.Outcome.{Outcome}
use Rattle.base.specs.declared.outcomes.Outcome.TheVariants.{Trapped}
use Rattle.trace_model.specs.declared.tapes.Origin.{Origin}
use Rattle.trace_model.specs.declared.tapes.Segment.{Segment}
use Rattle.history_spec.specs.declared.entries.Entry.{Entry}
use Rattle.history_spec.specs.declared.entries.Entry.TheVariants.{Step, Trap}
use Rattle.history_spec.specs.Store.{Store}
use Rattle.history_spec.specs.Code.{Code, code_of}
use Rattle.history_spec.specs.Configuration.{Frame, Activation, InModule, Config}
use Rattle.history_spec.specs.Instruction.{execute}
use Rattle.history_spec.specs.Step.{after_entries, after_instruction}
use Rattle.record_replay_spec.specs.Observations.{Observation}
use Rattle.record_replay_spec.specs.Known.{Known, known_after_all}
use Rattle.record_replay_spec.specs.Windows.{window}
use Rattle.record_replay_spec.specs.Needed.{AreNeeded}
use Rattle.record_replay_spec.specs.Alike.{same_origin}
use Rattle.record_replay_spec.specs.Kept.{AreKeptSegments}
use Rattle.record_replay_spec.specs.TapeRun.{program_awaiting, Over, TapeResult, tape_result, tape_after, tape_step, after_step, after_next, after_effects, after_segment_if}
use Rattle.record_replay_spec.specs.Changes.{with_changes}
use Rattle.record_replay_spec.specs.Executions.{Shares, IsExecutedAlike, IsDoneAlike}
use Rattle.record_replay_spec.specs.StoreAnswers.{AnswersAlike}
use Rattle.record_replay_spec.specs.ObservedStepLaws.{ObservedStepsAreAlike, observed}
use Rattle.type_safety.specs.Heights.{Heights}
use Rattle.tape_laws.proofs.Stores.{maxima}
use Rattle.tape_laws.proofs.Relation.{IsKnownOf, IsReadOf, Holds}
use Rattle.tape_laws.proofs.Activities.{HasSizes}
use Rattle.tape_laws.proofs.StepItems.{same_maxima_all, read_of_all, held_answers_all, holds_after_all, of_same_kind, nothing_read}
use Rattle.tape_laws.proofs.LastWrites.{only_last_writes}
use Rattle.tape_laws.proofs.HostStores.{sizes_of, whole_pages_of}
use Rattle.tape_laws.proofs.Activity.{activity}
use Rattle.tape_laws.proofs.Claims.{Claim}
use Rattle.tape_laws.proofs.Closed.{IsBeforeInstruction, tape_place, tape_at, HoldsBeforeSegment, HoldsBeforeTrap, HoldsBeforeStep, IsClosed}
use Rattle.tape_laws.proofs.Parts.{window_after, needed_after, own_origin, same_control}

-- a claim on the result of the tape's run, if the store and the segments are those that the rest of the run needs
abbrev pub when_ready : (Code → TapeResult → List Entry → Outcome → Type 0) → Claim
when_ready comes =
    record {
      ready = λ known left other segments. Holds known (window left) other × AreKeptSegments known left segments;
      comes = comes;
    }

-- A claim holds if the run is over, and before an entry; and it holds before a step of the tape's run if it holds
-- after that step: an instruction, or a segment with the effects that the window needs.
pub record HoldsByStep (code : Code) (comes : Code → TapeResult → List Entry → Outcome → Type 0) : Type 0 where
  pub over : (entries : List Entry) (outcome : Outcome)
      → comes code (tape_result entries (Over outcome)) (entries ++ []) outcome
  pub entry : (t : TapeResult) (history : List Entry) (outcome : Outcome) (entry : Entry)
      → comes code t history outcome → comes code (tape_after (entry ∷ []) t) (entry ∷ history) outcome
  pub instruction : (frame : Frame) (below : List Activation) (counts : List ℕ) (came : Origin) (other : Store)
      (segments : List Segment) (history : List Entry) (outcome : Outcome)
      → comes code (tape_step code (tape_place (InModule frame ∷ below) counts came other segments)) history outcome
      → comes code (tape_at (InModule frame ∷ below) counts came other segments) history outcome
  pub segment : (known : Known) (seen : List Observation) (store : Store) (stack : List Activation) (counts : List ℕ)
      (came : Origin) (other : Store) (segment : Segment) (segments : List Segment) (history : List Entry)
      (outcome : Outcome)
      → HasSizes store → IsKnownOf known store → IsReadOf known seen store → Holds known [] other
      → AreNeeded known seen segment.effects
      → comes code (tape_step code (tape_place stack counts came other (segment ∷ segments))) history outcome
      → comes code (tape_at stack counts came other (segment ∷ segments)) history outcome

pub own_shares : (code : Code) → Shares code code
own_shares code = record { types = λ t ty h. h; signatures = λ func ty h. h }

module _ (alike : ObservedStepsAreAlike) (m : Module) (heights : Heights)
    (comes : Code → TapeResult → List Entry → Outcome → Type 0) (by_step : HoldsByStep (code_of m) comes) where
  abbrev code : Code
  code = code_of m

  abbrev claim : Claim
  claim = when_ready comes

  -- ---- a segment of the host

  after_its_segment : HoldsBeforeSegment claim m heights
  after_its_segment known store came next left history outcome stack counts takes is of reads more goes other [] same
      ready =
      absurd ready.1
  after_its_segment known store came next left history outcome stack counts takes is of reads more goes other
      (segment ∷ segments) same ready =
      let needed = ready.1 in
      let done =
      activity known (window left) store (sizes_of m store is) of reads other ready.0 same segment.effects
      needed.0.changes in
      let here = tape_place stack counts came other (segment ∷ segments) in
      by_step.segment known (window left) store stack counts came other segment segments history outcome
      (sizes_of m store is) of reads ready.0 needed.0.changes
      (subst (λ t. comes code t history outcome)
      (sym
      (takes here
      ∙ ap (λ b. after_segment_if b code here.config segment segments came)
      (ap (λ o. same_origin o came) needed.0.begins ∙ own_origin came)
      ∙ ap (after_effects code here.config segments came segment.next) done.1
      ∙ ap (after_next code done.0 counts stack segments came) needed.0.leaves))
      (goes done.0 segments done.3 (done.2, needed.1)))

  -- ---- an instruction

  module _ (known : Known) (store : Store) (frame : Frame) (below : List Activation) (counts : List ℕ) (came : Origin)
      (before : IsBeforeInstruction m heights known store frame) where
    abbrev items : List Observation
    items = observed store frame

    module _ (later : List Observation)
        (real : IsReadOf (known_after_all known items) (window later) (with_changes store items))
        (other : Store) (same : maxima other ≡ maxima store)
        (holds : Holds known (window (items ++ later)) other) where
      held : Holds known (items ++ window later) other
      held = subst (λ w. Holds known w other) (window_after known store items later before.seen) holds

      -- the other store answers what the step observes
      answering : AnswersAlike store other items
      answering =
          record {
            kind = of_same_kind store other same known (items ++ window later) before.of
                (read_of_all (window later) known store items before.seen real) held;
            whole = whole_pages_of store (sizes_of m store before.is);
            answers = held_answers_all (window later) known store items other before.seen
                (only_last_writes store frame.values frame.at.rest) before.of same real held;
          }

      second : IsExecutedAlike code store other items frame (execute code store frame) (execute code other frame)
      second = alike code code store other frame (own_shares code) answering

    trap : HoldsBeforeTrap claim m heights known store frame below counts came
    trap kind operands found e other segments same ready =
        let same_trap = subst
        (λ first. IsExecutedAlike code store other items frame first (execute code other frame)) e
        (second [] (nothing_read _ _) other same ready.0) in
        let now : Config = record { store = other; stack = InModule frame ∷ below; counts = counts } in
        let entries : List Entry = Trap frame.func frame.at.number kind operands found ∷ [] in
        by_step.instruction frame below counts came other segments entries Trapped
        (subst (λ t. comes code t entries Trapped)
        (sym
        (ap (λ x. after_step segments came (after_instruction (program_awaiting code) now frame below x)) same_trap))
        (by_step.over entries Trapped))

    step : HoldsBeforeStep claim m heights known store frame below counts came
    step operands results found control later history outcome e real goes other segments same ready =
        let done : IsDoneAlike code store other items frame operands results found control (execute code other frame) =
        subst (λ first. IsExecutedAlike code store other items frame first (execute code other frame)) e
        (second later real other same ready.0) in
        let now : Config = record { store = other; stack = InModule frame ∷ below; counts = counts } in
        let own : Entry = Step frame.func frame.at.number operands results found in
        let after = with_changes other items in
        by_step.instruction frame below counts came other segments (own ∷ history) outcome
        (subst (λ t. comes code t (own ∷ history) outcome)
        (sym
        (ap (λ x. after_step segments came (after_instruction (program_awaiting code) now frame below x)) done.same
        ∙ ap (λ s. after_step segments came (after_entries (own ∷ []) s))
        (same_control code other after counts frame below control done.second_store.changed)))
        (goes after segments
        (same_maxima_all other items ∙ same ∙ sym (same_maxima_all store items)) (
          holds_after_all (window later) known store items other before.seen before.of same real
              done.second_store.possible (held later real other same ready.0),
          needed_after known store items later segments before.seen ready.1,
        )))

  pub holds_closed : IsClosed claim m heights
  holds_closed =
      record {
        entry = by_step.entry;
        over = λ known other segments entries outcome ready. by_step.over entries outcome;
        segment = after_its_segment;
        trap = trap;
        step = step;
      }
