-- The claim that a tape's run differs from the scripted run if something is removed from the tape.
use Rattle.std.proofs.Common.{◌≡◌, ℕ, suc, ◌*◌, ◌≤◌, List, [], ◌∷◌, ◌++◌, length, ◌<◌, Option, Some, None, All, slice_get, refl, sym, ap, ◌∙◌, subst, arith, inl, inr}
use Rattle.std.specs.Prelude.{◌≢◌, ◌⊎◌, IfSome}
use Rattle.std.specs.List.{AllByRecursion}
use Rattle.std.proofs.lemmas.Option.{none-some}
use Rattle.wasm_syntax.specs.declared.limits.TheConstants.{PAGE_SIZE}
use Rattle.wasm_syntax.specs.declared.modules.Module.{Module}
use Rattle.wasm_syntax.proofs.JoinedLists.{both_parts}
use Rattle.wasm_syntax.specs.declared.signatures.Limits.{Limits}
use Rattle.wasm_syntax.specs.Index.{all_memories}
use Rattle.wasm_syntax.specs.Validity.{IsValid}
use Rattle.trace_model.specs.declared.tapes.Origin.{Origin}
use Rattle.trace_model.specs.declared.tapes.Segment.{Segment}
use Rattle.history_spec.specs.declared.entries.Entry.{Entry}
use Rattle.history_spec.specs.declared.entries.Entry.TheVariants.{Step, Trap}
use Rattle.history_spec.specs.Store.{Store, Memory}
use Rattle.history_spec.specs.Instantiation.{memory_length, table_length}
use Rattle.history_spec.specs.Code.{Code, code_of}
use Rattle.history_spec.specs.Configuration.{Frame, Activation, InModule, Config}
use Rattle.history_spec.specs.Instruction.{Control, Goes as GoesOn, Calls, Returns, Execution, Did, Traps, NoRule, execute}
use Rattle.history_spec.specs.Step.{after_entries, after_instruction}
use Rattle.record_replay_spec.specs.Observations.{Observation, Begins, Ends}
use Rattle.record_replay_spec.specs.Known.{Known, byte_of, entry_of, pages_of, known_after}
use Rattle.record_replay_spec.specs.Windows.{window, first_byte, first_entry, first_global, found_pages, found_entries}
use Rattle.record_replay_spec.specs.Needed.{AreNeeded}
use Rattle.record_replay_spec.specs.Alike.{same_origin}
use Rattle.record_replay_spec.specs.Kept.{AreKeptSegments}
use Rattle.record_replay_spec.specs.TapeRun.{program_awaiting, TapeConfig, Plays, Disagrees, TapeResult, tape_result, tape_after, tape_step, tape_steps, after_step, after_next, after_effects, after_segment_if, store_after_effects}
use Rattle.record_replay_spec.specs.Changes.{with_change, with_changes}
use Rattle.record_replay_spec.specs.Executions.{in_store, left_store, IsExecutedAlike, IsDoneAlike}
use Rattle.record_replay_spec.specs.StoreAnswers.{SameKind, AnswersAll}
use Rattle.record_replay_spec.specs.ObservedStepLaws.{ObservedStepsAreAlike, observed}
use Rattle.record_replay_spec.specs.Unshown.{first_copied}
use Rattle.record_replay_spec.specs.ShownStepLaws.{shown, HasBytes, ShownStepsAreAnswered}
use Rattle.type_safety.specs.Configurations.{IsTypedCode, scope}
use Rattle.type_safety.specs.Heights.{Heights}
use Rattle.type_safety.specs.Laws.{InstructionsHaveRules}
use Rattle.type_safety.specs.Frames.{Scope}
use Rattle.type_safety.specs.Results.{IsControl, HasRule}
use Rattle.type_safety.specs.Stores.{MayBeMemory, IsStore}
use Rattle.tape_laws.specs.Dropped.{IsAnother, DisagreesEarly, HasAnother, AreLeft, AreLeftSegments}
use Rattle.tape_laws.proofs.Stores.{IsHere, Maxima, maxima}
use Rattle.tape_laws.proofs.Effects.{AreDone}
use Rattle.tape_laws.proofs.Activity.{activity}
use Rattle.tape_laws.proofs.Held.{whole_pages}
use Rattle.tape_laws.proofs.Relation.{IsKnownOf, IsReadOf, Holds, AreSeen}
use Rattle.tape_laws.proofs.StepItems.{same_maxima_all, same_pages, same_entries}
use Rattle.tape_laws.proofs.LastWrites.{only_last_writes}
use Rattle.tape_laws.proofs.HostStores.{sizes_of, whole_pages_of, types_same}
use Rattle.tape_laws.proofs.Claims.{Claim}
use Rattle.tape_laws.proofs.Closed.{IsBeforeInstruction, tape_at, IsMore, NoneLeft, OneMore, HoldsBeforeSegment, HoldsBeforeTrap, HoldsBeforeStep, IsClosed}
use Rattle.tape_laws.proofs.Parts.{window_after, needed_after, own_origin, same_control}
use Rattle.tape_laws.proofs.DroppedStores.{HoldsLess, answers_unshown}
use Rattle.tape_laws.proofs.DroppedSteps.{less_after_all, answered_holds}
use Rattle.tape_laws.proofs.DroppedEffects.{effects_done}
use Rattle.tape_laws.proofs.DroppedActivity.{less_needed, none_left, all_left, pages_between, entries_between, known_length, known_count}
use Rattle.tape_laws.proofs.DroppedTypes.{IsBetween, either_of, store_typed}
use Rattle.tape_laws.proofs.DroppedEntries.{AreShown, Same, Apart, rules_shown, entry_first}
use Rattle.tape_laws.proofs.Ready.{own_shares}
use Rattle.tape_laws.proofs.Trails.{IsOfCore}

-- ---- runs that differ

-- from this result on, the tape's run differs from the history
abbrev pub IsOther : Code → TapeResult → List Entry → Type 0
IsOther code t history = IsAnother (λ count. tape_after t.entries (tape_steps code count t.next)) history

other_after : (code : Code) (t : TapeResult) (history : List Entry) (entry : Entry) → IsOther code t history
    → IsOther code (tape_after (entry ∷ []) t) (entry ∷ history)
other_after code t history entry (DisagreesEarly count shown missing more is disagrees) =
    DisagreesEarly count (entry ∷ shown) missing more (ap (λ l. entry ∷ l) is)
    (ap (tape_after (entry ∷ [])) disagrees)
other_after code t history entry (HasAnother count shown own other more after is has apart) =
    HasAnother count (entry ∷ shown) own other more after (ap (λ l. entry ∷ l) is) (ap (λ l. entry ∷ l) has) apart

-- one step of the tape's run
other_step : (code : Code) (t : TapeConfig) (history : List Entry) → IsOther code (tape_step code t) history
    → IsOther code (tape_result [] (Plays t)) history
other_step code t history (DisagreesEarly count shown missing more is disagrees) =
    DisagreesEarly (suc count) shown missing more is disagrees
other_step code t history (HasAnother count shown own other more after is has apart) =
    HasAnother (suc count) shown own other more after is has apart

-- ---- the claim

-- The observations are those of a module of the form Core, the segments are what is left of the needed ones, and the
-- store holds at each place what the window reads first, or lacks it; something was removed from the segments, or the
-- store lacks something.
pub record IsLacking (m : Module) (known : Known) (left : List Observation) (store : Store)
    (segments : List Segment) : Type 0 where
  pub core : AllByRecursion IsOfCore left
  pub whole : List Segment
  pub needed : AreKeptSegments known left whole
  pub are_left : AreLeftSegments left whole segments
  pub holds : HoldsLess known (window left) store
  pub typed : IsStore m store
  pub lacks : segments ≡ whole → Holds known (window left) store → ⊥

abbrev pub lacks : Module → Claim
lacks m = record { ready = IsLacking m; comes = λ code t history outcome. IsOther code t history }

-- a store that lacks nothing of an empty window holds what is known
holds_known : (known : Known) (store : Store) → HoldsLess known [] store → Holds known [] store
holds_known known store less = answered_holds known store [] tt less

-- the segments that are left, after the observations of an instruction
left_after : (known : Known) (store : Store) (seen later : List Observation) (segments left : List Segment)
    → AreSeen known store seen → AreLeftSegments (seen ++ later) segments left → AreLeftSegments later segments left
left_after known store [] later segments left are h = h
left_after known store (o ∷ seen) later segments left are h =
    left_after (known_after known o) (with_change store o) seen later segments left are.1
    (one o are.0.here segments left h)
  where
    one : (o : Observation) → IsHere store o → (segments left : List Segment)
        → AreLeftSegments (o ∷ seen ++ later) segments left → AreLeftSegments (seen ++ later) segments left
    one (Begins origin) here segments left h = absurd here
    one (Ends next) here segments left h = absurd here
    one o here segments left h = h

-- ---- a claim that is closed

pages_known : (known : ℕ) (store : Store) → memory_length store.memory ≡ known * PAGE_SIZE
    → pages_of store.memory ≡ known
pages_known known store = go store.memory
  where
    go : (o : Option Memory) → memory_length o ≡ known * PAGE_SIZE → pages_of o ≡ known
    go None h = let none : 0 ≡ known * 65536 = h in omega (arith, none)
    go (Some m) h = whole_pages (length m.bytes) known h

has_bytes_of : (m : Module) (store : Store) → IsStore m store → HasBytes store
has_bytes_of m store is =
    record {
      bytes = go (all_memories m) store.memory is.memory;
      whole = whole_pages_of store (sizes_of m store is);
    }
  where
    go : (limits : List Limits) (o : Option Memory) → MayBeMemory limits o
        → IfSome o (λ memory. All (λ byte. byte < 256) memory.bytes)
    go limits None h = tt
    go [] (Some memory) h = absurd h
    go (l ∷ limits) (Some memory) h = h.bytes

module _ (alike : ObservedStepsAreAlike) (answered : ShownStepsAreAnswered) (rules : InstructionsHaveRules)
    (m : Module) (heights : Heights) (valid : IsValid m) (typed : IsTypedCode m heights) where
  abbrev code : Code
  code = code_of m

  -- ---- a segment of the host

  module _ (known : Known) (store : Store) (left : List Observation) (is : IsStore m store)
      (of : IsKnownOf known store) (reads : IsReadOf known (window left) store) (other : Store)
      (same : maxima other ≡ maxima store) (other_is : IsStore m other) (holds : Holds known [] other)
      (segment some : Segment) (needed : AreNeeded known (window left) segment.effects)
      (are : AreLeft (window left) segment.effects some.effects) where
    -- effects left of effects that nothing needs can be performed
    done_where_none : left ≡ [] → store_after_effects some.effects other ≡ None → ⊥
    done_where_none none e =
        let empty : window left ≡ [] = ap window none in
        let need = subst (λ w. AreNeeded known w segment.effects) empty needed in
        let real = subst (λ w. IsReadOf known w store) empty reads in
        let effects = none_left known segment.effects some.effects need
        (subst (λ w. AreLeft w segment.effects some.effects) empty are) in
        let done = activity known [] store (sizes_of m store is) of real other holds same segment.effects need in
        none-some done.0 (sym e ∙ ap (λ l. store_after_effects l other) effects ∙ done.1)

    module _ (after : Store) (e : store_after_effects some.effects other ≡ Some after) where
      done : AreDone other some.effects after
      done = effects_done some.effects other after (sizes_of m other other_is).whole are.nonempty e

      less : HoldsLess known (window left) after
      less =
          less_needed known (window left) store (sizes_of m store is) of reads other holds same segment.effects
          some.effects needed are after done

      all : Holds known (window left) after → some.effects ≡ segment.effects
      all =
          all_left known (window left) store (sizes_of m store is) of reads other holds same segment.effects
          some.effects needed are after done

      between : IsBetween other store after
      between =
          record {
            size = (size less.pages).0;
            long = (size less.pages).1;
            more = (size less.pages).2;
            fits = (size less.pages).3;
            more_entries = (count less.entries).0;
            fits_entries = (count less.entries).1;
          }
        where
          pages_of_other : pages_of other.memory ≡ known.pages
          pages_of_other =
              pages_known known.pages other
              (known_length known (window left) store (sizes_of m store is) of reads other holds same segment.effects
              some.effects needed are after done)

          entries_of_other : table_length other.table ≡ known.entries
          entries_of_other =
              known_count known (window left) store (sizes_of m store is) of reads other holds same segment.effects
              some.effects needed are after done

          pages : (known.pages ≤ found_pages known.pages (window left))
              × (found_pages known.pages (window left) ≤ pages_of store.memory)
          pages =
              pages_between known (window left) store (sizes_of m store is) of reads other holds same
              segment.effects some.effects needed are after done

          entries : (known.entries ≤ found_entries known.entries (window left))
              × (found_entries known.entries (window left) ≤ table_length store.table)
          entries =
              entries_between known (window left) store (sizes_of m store is) of reads other holds same
              segment.effects some.effects needed are after done

          size : (memory_length after.memory ≡ found_pages known.pages (window left) * PAGE_SIZE)
              ⊎ (memory_length after.memory ≡ known.pages * PAGE_SIZE)
              → (n : ℕ) × (memory_length after.memory ≡ n * PAGE_SIZE) × (pages_of other.memory ≤ n)
              × (n ≤ pages_of store.memory)
          size (inl h) =
              let low = pages.0 in
              (found_pages known.pages (window left), h, omega (arith, pages_of_other, low), pages.1)
          size (inr h) = (known.pages, h, omega (arith, pages_of_other), of.pages)

          count : (table_length after.table ≡ found_entries known.entries (window left))
              ⊎ (table_length after.table ≡ known.entries)
              → (table_length other.table ≤ table_length after.table)
              × (table_length after.table ≤ table_length store.table)
          count (inl h) =
              let low = entries.0 in
              let high = entries.1 in
              (omega (arith, entries_of_other, low, h), omega (arith, h, high))
          count (inr h) =
              let high = of.entries in
              (omega (arith, entries_of_other, h), omega (arith, h, high))

      after_is : IsStore m after
      after_is =
          store_typed m store other after is other_is done.same same
          (λ at.
          either_of (first_byte (window left) at) (known.byte at) (byte_of store.memory at) (byte_of other.memory at)
          (byte_of after.memory at) (first_copied (window left) at ≡ None) (reads.byte at) (holds.byte at)
          (less.byte at))
          (λ at.
          either_of (first_entry (window left) at) (known.entry at) (entry_of store.table at)
          (entry_of other.table at) (entry_of after.table at) (Unit {0}) (reads.entry at) (holds.entry at)
          (less.entry at))
          (λ at.
          either_of (first_global (window left) at) (known.global at) (slice_get store.globals at)
          (slice_get other.globals at) (slice_get after.globals at) (Unit {0}) (reads.global at) (holds.global at)
          (less.global at))
          between

  after_its_segment : HoldsBeforeSegment (lacks m) m heights
  after_its_segment known store came next left history outcome stack counts takes is of reads more goes other
      segments same ready =
      go ready.whole segments ready.needed ready.are_left ready.lacks
    where
      holds : Holds known [] other
      holds = holds_known known other ready.holds

      go : (whole segments : List Segment) → AreKeptSegments known (Begins came ∷ Ends next ∷ left) whole
          → AreLeftSegments (Begins came ∷ Ends next ∷ left) whole segments
          → (segments ≡ whole → Holds known [] other → ⊥)
          → IsOther code (tape_at stack counts came other segments) history
      go [] segments needed are lacking = absurd needed
      go (segment ∷ whole) [] needed are lacking = absurd are
      go (segment ∷ whole) (some ∷ segments) needed are lacking =
          other_step code (record { config = config; left = some ∷ segments; came = came }) history
          (subst (λ t. IsOther code t history)
          (sym
          (takes (record { config = config; left = some ∷ segments; came = came })
          ∙ ap (λ b. after_segment_if b code config some segments came)
          (ap (λ o. same_origin o came) (are.0.begins ∙ needed.0.begins) ∙ own_origin came)))
          (by (store_after_effects some.effects other) refl))
        where
          config : Config
          config = record { store = other; stack = stack; counts = counts }

          early : IsMore left history → store_after_effects some.effects other ≡ None
              → IsOther code (tape_result [] Disagrees) history
          early (OneMore entry rest is) e = DisagreesEarly 0 [] entry rest is refl
          early (NoneLeft none) e =
              absurd
              (done_where_none known store left is of reads other same ready.typed holds segment some
              needed.0.changes are.0.changes none e)

          by : (o : Option Store) → store_after_effects some.effects other ≡ o
              → IsOther code (after_effects code config segments came some.next o) history
          by None e = early more e
          by (Some after) e =
              subst (λ n. IsOther code (after_next code after counts stack segments came n) history)
              (sym (are.0.leaves ∙ needed.0.leaves))
              (goes after segments (d.same ∙ same)
              (record {
                core = ready.core.1.1;
                whole = whole;
                needed = needed.1;
                are_left = are.1;
                holds =
                    less known store left is of reads other same ready.typed holds segment some needed.0.changes
                    are.0.changes after e;
                typed =
                    after_is known store left is of reads other same ready.typed holds segment some
                    needed.0.changes are.0.changes after e;
                lacks = λ rest held. lacking (both rest held) holds;
              }))
            where
              d : AreDone other some.effects after
              d =
                  done known store left is of reads other same ready.typed holds segment some needed.0.changes
                  are.0.changes after e

              both : segments ≡ whole → Holds known (window left) after → some ∷ segments ≡ segment ∷ whole
              both rest held =
                  let effects = all known store left is of reads other same ready.typed holds segment some
                  needed.0.changes are.0.changes after e held in
                  (λ i. record { origin = are.0.begins i; effects = effects i; next = are.0.leaves i } ∷ rest i)

  -- ---- an instruction

  module _ (known : Known) (store : Store) (frame : Frame) (below : List Activation) (counts : List ℕ) (came : Origin)
      (before : IsBeforeInstruction m heights known store frame) where
    abbrev items : List Observation
    items = observed store frame

    abbrev here : Scope
    here = scope m heights frame.func before.ty before.body

    first_rule : HasRule here (execute code store frame)
    first_rule =
        rules m heights store frame before.ty before.body valid typed before.is before.typed before.going

    has_entry : (e : Execution) → HasRule here e → shown frame e ≢ []
    has_entry (Did operands results found control) rule h = cc
    has_entry (Traps kind operands found) rule h = cc
    has_entry NoRule rule h = absurd rule

    module _ (other : Store) (segments : List Segment) (same : maxima other ≡ maxima store) (later : List Observation)
        (ready : IsLacking m known (items ++ later) other segments) where
      abbrev now : Config
      now = record { store = other; stack = InModule frame ∷ below; counts = counts }

      second_rule : HasRule here (execute code other frame)
      second_rule =
          rules m heights other frame before.ty before.body valid typed ready.typed before.typed before.going

      kind : SameKind store other
      kind =
          record {
            memory = same_pages store other same store.memory other.memory (ap (λ (x : Maxima). x.pages) same);
            table = same_entries store other same store.table other.table (ap (λ (x : Maxima). x.entries) same);
            globals = λ x ty h. types_same m store other before.is ready.typed x ∙ h;
          }

      holds : HoldsLess known (items ++ window later) other
      holds = subst (λ w. HoldsLess known w other) (window_after known store items later before.seen) ready.holds

      held_before : Holds known (items ++ window later) other → Holds known (window (items ++ later)) other
      held_before held =
          subst (λ w. Holds known w other) (sym (window_after known store items later before.seen)) held

      core_parts : AllByRecursion IsOfCore items × AllByRecursion IsOfCore later
      core_parts = both_parts IsOfCore items later ready.core

      -- if the instruction shows the same in the other store, that store answers what is observed
      answers : shown frame (execute code other frame) ≡ shown frame (execute code store frame)
          → AnswersAll other items
      answers h =
          answered code store other frame kind (has_bytes_of m store before.is) (has_bytes_of m other ready.typed)
          (has_entry (execute code store frame) first_rule) h
          (answers_unshown known items (window later) other holds core_parts.0)

      second : AnswersAll other items
          → IsExecutedAlike code store other items frame (execute code store frame) (execute code other frame)
      second h =
          alike code code store other frame (own_shares code)
          (record {
            kind = kind;
            whole = whole_pages_of store (sizes_of m store before.is);
            answers = h;
          })

      -- if the instruction shows another entry in the other store, the run differs
      apart_first : (entry own : Entry) (history more : List Entry)
          → shown frame (execute code other frame) ≡ own ∷ [] → own ≢ entry → history ≡ entry ∷ more
          → IsOther code (tape_at (InModule frame ∷ below) counts came other segments) history
      apart_first entry own history more has apart is =
          let first = entry_first frame (program_awaiting code) now below (execute code other frame) own has in
          other_step code (record { config = now; left = segments; came = came }) history
          (HasAnother 0 [] entry own more (first.0 ++ []) is (ap (λ (l : List Entry). l ++ []) first.1) apart)

    trap : HoldsBeforeTrap (lacks m) m heights known store frame below counts came
    trap kind operands found e other segments same ready =
        go (rules_shown frame here (execute code store frame) (execute code other frame) first_rule
        (second_rule other segments same [] ready))
      where
        history : List Entry
        history = Trap frame.func frame.at.number kind operands found ∷ []

        go : AreShown (shown frame (execute code store frame)) (shown frame (execute code other frame))
            → IsOther code (tape_at (InModule frame ∷ below) counts came other segments) history
        go (Apart entry own is has apart) =
            apart_first other segments same [] ready entry own history [] has apart
            (sym (ap (shown frame) e) ∙ is)
        go (Same is) =
            absurd
            (ready.lacks
            (left_after known store items [] ready.whole segments before.seen ready.are_left)
            (held_before other segments same [] ready
            (answered_holds known other items (answers other segments same [] ready is)
            (holds other segments same [] ready))))

    -- the store that the instruction leaves is well typed
    typed_after : (other after : Store) (control : Control) → IsStore m other
        → IsControl here (in_store after control) → left_store other (in_store after control) ≡ after
        → IsStore m after
    typed_after other after (GoesOn store next) is rule left = rule.0
    typed_after other after (Calls waiting func args) is rule left = subst (IsStore m) left is
    typed_after other after (Returns results) is rule left = subst (IsStore m) left is

    step : HoldsBeforeStep (lacks m) m heights known store frame below counts came
    step operands results found control later history outcome e real goes other segments same ready =
        go (rules_shown frame here (execute code store frame) (execute code other frame) first_rule
        (second_rule other segments same later ready))
      where
        own : Entry
        own = Step frame.func frame.at.number operands results found

        config : Config
        config = record { store = other; stack = InModule frame ∷ below; counts = counts }

        after : Store
        after = with_changes other items

        go : AreShown (shown frame (execute code store frame)) (shown frame (execute code other frame))
            → IsOther code (tape_at (InModule frame ∷ below) counts came other segments) (own ∷ history)
        go (Apart entry shows is has apart) =
            apart_first other segments same later ready entry shows (own ∷ history) history has apart
            (ap (λ (l : List Entry). l ++ history) (sym (ap (shown frame) e) ∙ is))
        go (Same is) =
            let all = answers other segments same later ready is in
            let done : IsDoneAlike code store other items frame operands results found control
            (execute code other frame) =
            subst (λ first. IsExecutedAlike code store other items frame first (execute code other frame)) e
            (second other segments same later ready all) in
            let rule = subst (HasRule here) done.same (second_rule other segments same later ready) in
            let kept = less_after_all (window later) known store items other before.seen
            (only_last_writes store frame.values frame.at.rest) all done.second_store.possible same real
            (holds other segments same later ready) in
            let r = goes after segments
            (same_maxima_all other items ∙ same ∙ sym (same_maxima_all store items))
            (record {
              core = (core_parts other segments same later ready).1;
              whole = ready.whole;
              needed = needed_after known store items later ready.whole before.seen ready.needed;
              are_left = left_after known store items later ready.whole segments before.seen ready.are_left;
              holds = kept.0;
              typed = typed_after other after control ready.typed rule done.second_store.changed;
              lacks = λ rest held.
                  ready.lacks rest (held_before other segments same later ready (kept.1 held));
            }) in
            other_step code (record { config = config; left = segments; came = came }) (own ∷ history)
            (subst (λ t. IsOther code t (own ∷ history))
            (sym
            (ap (λ x. after_step segments came (after_instruction (program_awaiting code) config frame below x))
            done.same
            ∙ ap (λ s. after_step segments came (after_entries (own ∷ []) s))
            (same_control code other after counts frame below control done.second_store.changed)))
            r)

  pub lacks_closed : IsClosed (lacks m) m heights
  lacks_closed =
      record {
        entry = λ t history outcome entry. other_after code t history entry;
        over = λ known other segments entries outcome ready.
            absurd (ready.lacks ready.are_left (holds_known known other ready.holds));
        segment = after_its_segment;
        trap = trap;
        step = step;
      }
