-- The events that hooks report of a step's observations, and what the log knows after them.
use Rattle.std.proofs.Common.{◌≡◌, ℕ, List, [], ◌∷◌, ◌++◌, Option, Some, None, Bool, true, false, cond, ◌&&◌, nat_eq, slice_get, refl, sym, ap, ◌∙◌, subst, inl}
use Rattle.std.specs.Prelude.{◌⊎◌}
use Rattle.std.proofs.lemmas.List.{append-nil}
use Rattle.wasm_syntax.specs.declared.values.Val.{Val}
use Rattle.wasm_syntax.specs.declared.signatures.GlobalType.{GlobalType}
use Rattle.base.specs.declared.outcomes.Outcome.{Outcome}
use Rattle.base.specs.declared.outcomes.Outcome.TheVariants.{Ended, Trapped, HostTrapped}
use Rattle.base.proofs.Options.{or_none}
use Rattle.trace_model.specs.declared.events.Event.{Event}
use Rattle.trace_model.specs.declared.events.Event.TheVariants.{Enter, Leave, Pre, Post, Grow, Seen, Table, Bytes, Entry, Global}
use Rattle.trace_model.specs.declared.tapes.Effect.TheVariants as effects
use Rattle.history_spec.specs.Store.{Store}
use Rattle.record_replay_spec.specs.Observations.{Observation, Begins, Ends, Reads, Copies, Writes, Reaches, Resizes, ReadsEntry, WritesEntry, ReachesEntry, ResizesTable, ReadsGlobal, WritesGlobal}
use Rattle.record_replay_spec.specs.Known.{Known, pages_of}
use Rattle.record_replay_spec.specs.Alike.{same_option, same_value}
use Rattle.record_replay_spec.proofs.Alike.{own_value}
use Rattle.tape_laws.proofs.Items.{pages_there}
use Rattle.tape_laws.proofs.Relation.{IsSeen}
use Rattle.record_replay_spec.specs.Needed.{effect_pages, effect_entries, effect_byte, effect_entry, effect_global}
use Rattle.record_replay_spec.specs.Hooks.{renumber, original}
use Rattle.record_replay_spec.specs.Logs.{LogState, unless, all_observed_events}
use Rattle.record_replay_spec.specs.LogTapes.{Finds, LogFrame, is_trapped_call, event_marks, marks_from}
use Rattle.tape_laws.specs.ReportedObservations.{is_mutable, reported_observation}
use Rattle.tape_laws.proofs.Trails.{IsOfCore}
use Rattle.tape_laws.proofs.Agrees.{AreFindsOf, marks_of}
use Rattle.tape_laws.proofs.AllowedEvents.{IsAllowed, AreAllowed, all_allowed}
use Rattle.tape_laws.proofs.AllFinds.{reads_found, copies_found, reaches_found, resizes_found, reaches_entry_found, writes_found, writes_global_found, entry_found}
use Rattle.tape_laws.proofs.FirstBytes.{finds_of}
use Rattle.tape_laws.proofs.ObservedFinds.{IsReportedKnown, IsNoticed, none_reported, reported_place}

-- ---- events that find something

-- the event finds something of a window
abbrev pub IsFind : Event → Type 0
IsFind event = IsAllowed true event

abbrev pub AreFinds : List Event → Type 0
AreFinds events = AreAllowed true events

pub events_find : (n : ℕ) (state : LogState) (seen : List Observation) → AreFinds (all_observed_events n state seen)
events_find n state seen = (all_allowed true n state seen (inl refl)).0

not_trapped : (outcome : Outcome) (event : Event) (later : List Event) → IsFind event
    → is_trapped_call outcome event later ≡ false
not_trapped outcome (Enter func args) later h = absurd h
not_trapped outcome (Leave func) later h = absurd h
not_trapped outcome (Pre callee) later h = absurd h
not_trapped outcome (Post result) later h = absurd h
not_trapped outcome (Grow pages) later h = absurd h
not_trapped Ended event later h = refl
not_trapped Trapped event later h = refl
not_trapped HostTrapped event later h = refl

-- the marks of events that find something are what they find
pub marks_of_finds : (n : ℕ) (outcome : Outcome) (frames : List LogFrame) (size : ℕ) (events later : List Event)
    → AreFinds events
    → marks_from n outcome frames size (events ++ later)
    ≡ marks_of (finds_of size events) ++ marks_from n outcome frames size later
marks_of_finds n outcome frames size [] later h = refl
marks_of_finds n outcome frames size (Seen ∷ events) later h =
    ap (λ b. cond b [] (event_marks n frames frames size Seen) ++ marks_from n outcome frames size (events ++ later))
    (not_trapped outcome Seen (events ++ later) h.0)
    ∙ ap (λ l. Finds (effects.Grow size) ∷ l) (marks_of_finds n outcome frames size events later h.1)
marks_of_finds n outcome frames size (Table entries ∷ events) later h =
    ap
    (λ b. cond b [] (event_marks n frames frames size (Table entries))
    ++ marks_from n outcome frames size (events ++ later))
    (not_trapped outcome (Table entries) (events ++ later) tt)
    ∙ ap (λ l. Finds (effects.Table entries) ∷ l) (marks_of_finds n outcome frames size events later h.1)
marks_of_finds n outcome frames size (Bytes address bytes ∷ events) later h =
    ap
    (λ b. cond b [] (event_marks n frames frames size (Bytes address bytes))
    ++ marks_from n outcome frames size (events ++ later))
    (not_trapped outcome (Bytes address bytes) (events ++ later) tt)
    ∙ ap (λ l. Finds (effects.Bytes address bytes) ∷ l) (marks_of_finds n outcome frames size events later h.1)
marks_of_finds n outcome frames size (Entry index func ∷ events) later h =
    ap
    (λ b. cond b [] (event_marks n frames frames size (Entry index func))
    ++ marks_from n outcome frames size (events ++ later))
    (not_trapped outcome (Entry index func) (events ++ later) tt)
    ∙ ap (λ l. Finds (effects.Entry index func) ∷ l) (marks_of_finds n outcome frames size events later h.1)
marks_of_finds n outcome frames size (Global global value ∷ events) later h =
    ap
    (λ b. cond b [] (event_marks n frames frames size (Global global value))
    ++ marks_from n outcome frames size (events ++ later))
    (not_trapped outcome (Global global value) (events ++ later) tt)
    ∙ ap (λ l. Finds (effects.Global global value) ∷ l) (marks_of_finds n outcome frames size events later h.1)
marks_of_finds n outcome frames size (Enter func args ∷ events) later h = absurd h.0
marks_of_finds n outcome frames size (Leave func ∷ events) later h = absurd h.0
marks_of_finds n outcome frames size (Pre callee ∷ events) later h = absurd h.0
marks_of_finds n outcome frames size (Post result ∷ events) later h = absurd h.0
marks_of_finds n outcome frames size (Grow pages ∷ events) later h = absurd h.0

-- ---- what the log keeps

-- the log knows what the run knows; immutable globals have their known values; and the noticed size is the real one,
-- which the last growth reported, or which is known
pub record Keeps (n : ℕ) (globals : List GlobalType) (known : Known) (store : Store) (state : LogState)
    (size : ℕ) : Type 0 where
  pub reported : IsReportedKnown n known state.known
  pub immutable : (at : ℕ) → is_mutable (slice_get globals at) ≡ false → known.global at ≡ slice_get store.globals at
  pub real : state.noticed ≡ pages_of store.memory
  pub size_reported : (size ≡ state.noticed) ⊎ (known.pages ≡ state.noticed)

module _ (n : ℕ) (globals : List GlobalType) (back : (func : ℕ) → original n (renumber n func) ≡ Some func)
    (size : ℕ) where
  -- what is found of a global, if it is reported unless it is known
  global_place : (known : Known) (x : ℕ) (value : Val) (b : Bool) → same_option same_value (known.global x) (Some value) ≡ b
      → AreFindsOf known (ReadsGlobal x value) (finds_of size (unless b (Global x value)))
  global_place known x value b same =
      record {
        pages = none_reported size effect_pages (Global x value) refl b;
        entries = none_reported size effect_entries (Global x value) refl b;
        byte = λ at. none_reported size (effect_byte at) (Global x value) refl b;
        entry = λ at. none_reported size (effect_entry at) (Global x value) refl b;
        global = reported_place size (same_option same_value) known.global x (Some value) effect_global (Global x value)
            (λ at. or_none (cond (nat_eq x at) (Some (Some value)) None)) b same;
      }

  -- a read of a mutable global finds what the read needs
  global_found : (known : Known) (state : LogState) (x : ℕ) (value : Val) → IsReportedKnown n known state.known
      → AreFindsOf known (ReadsGlobal x value)
      (finds_of size (all_observed_events n state (ReadsGlobal x value ∷ [])))
  global_found known state x value reported =
      subst
      (λ b. AreFindsOf known (ReadsGlobal x value) (finds_of size (unless b (Global x value) ++ [])))
      (sym (ap (λ k. same_option same_value k (Some value)) (reported.global x)))
      (subst (λ events. AreFindsOf known (ReadsGlobal x value) (finds_of size events))
      (sym (append-nil (unless (same_option same_value (known.global x) (Some value)) (Global x value))))
      (global_place known x value (same_option same_value (known.global x) (Some value)) refl))

  -- a read of an immutable global, which has the known value, finds nothing
  immutable_found : (known : Known) (x : ℕ) (value : Val) → known.global x ≡ Some value
      → AreFindsOf known (ReadsGlobal x value) []
  immutable_found known x value same =
      global_place known x value true (ap (λ k. same_option same_value k (Some value)) same ∙ own_value value)

  module _ (known : Known) (store : Store) (state : LogState) (kept : Keeps n globals known store state size) where
    noticed_at : (found : ℕ) → pages_of store.memory ≡ found → IsNoticed state.noticed size known.pages found
    noticed_at found is = record { is_real = kept.real ∙ is; is_reported = kept.size_reported }

    -- what hooks report of an observation finds what the observation needs
    pub reported_finds : (o : Observation) → IsSeen known store o → IsOfCore o
        → AreFindsOf known o (finds_of size (all_observed_events n state (reported_observation n globals o)))
    reported_finds (Begins origin) seen core = absurd seen.here
    reported_finds (Ends next) seen core = absurd seen.here
    reported_finds (Reads address bytes) seen core = reads_found n size known state kept.reported address bytes
    reported_finds (Copies address bytes) seen core = copies_found n size known state kept.reported address bytes
    reported_finds (Writes address bytes) seen core = writes_found n size known state kept.reported address bytes
    reported_finds (Reaches «end» found) seen core =
        reaches_found n size known state kept.reported «end» found (noticed_at found seen.found)
    reported_finds (Resizes found left) seen core =
        resizes_found n size known state kept.reported found left
        (noticed_at found (pages_there store.memory found seen.here seen.answers))
    reported_finds (ReadsEntry index func) seen core = entry_found n size known state kept.reported index func back
    reported_finds (WritesEntry index func) seen core = absurd core
    reported_finds (ReachesEntry index found) seen core =
        reaches_entry_found n size known state kept.reported index found
    reported_finds (ResizesTable found left func) seen core = absurd core
    reported_finds (ReadsGlobal x value) seen core = by (is_mutable (slice_get globals x)) refl
      where
        by : (b : Bool) → is_mutable (slice_get globals x) ≡ b
            → AreFindsOf known (ReadsGlobal x value)
            (finds_of size (all_observed_events n state (cond b (ReadsGlobal x value ∷ []) [])))
        by true e = global_found known state x value kept.reported
        by false e = immutable_found known x value (kept.immutable x e ∙ seen.answers)
    reported_finds (WritesGlobal x value) seen core = writes_global_found n size known state kept.reported x value
