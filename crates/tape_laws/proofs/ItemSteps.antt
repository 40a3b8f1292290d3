-- A step's observations keep what the log keeps, and their events agree with what the window needs of them.
use Rattle.std.proofs.Common.{◌≡◌, ℕ, ◌*◌, List, [], ◌∷◌, ◌++◌, Option, Some, None, Bool, true, false, cond, nat_eq, nat_le, slice_get, refl, sym, ap, ◌∙◌, subst, arith, inr}
use Rattle.std.specs.Prelude.{◌⊎◌, option_map, unwrap_or}
use Rattle.std.specs.List.{AllByRecursion}
use Rattle.std.specs.Option.{option_or}
use Rattle.std.proofs.lemmas.Bool.Decides.{nat_tests}
use Rattle.std.proofs.lemmas.List.{append_assoc}
use Rattle.wasm_syntax.specs.declared.limits.TheConstants.{PAGE_SIZE}
use Rattle.wasm_syntax.specs.declared.values.Val.{Val}
use Rattle.wasm_syntax.specs.declared.signatures.GlobalType.{GlobalType}
use Rattle.base.specs.declared.outcomes.Outcome.{Outcome}
use Rattle.trace_model.specs.declared.events.Event.{Event}
use Rattle.history_spec.specs.Store.{Store}
use Rattle.record_replay_spec.specs.Observations.{Observation, Begins, Ends, Reaches, Resizes, ReadsEntry, WritesEntry, ResizesTable, ReadsGlobal}
use Rattle.record_replay_spec.specs.Known.{Known, pages_of, read_global, written_global, carried_byte, carried_entry, carried_global, pages_after, entries_after, known_after, known_after_all}
use Rattle.record_replay_spec.specs.Windows.{window}
use Rattle.record_replay_spec.specs.Changes.{with_change, with_changes}
use Rattle.tape_laws.proofs.Items.{known_of_after, read_of_before, change, touched_global}
use Rattle.tape_laws.proofs.Places.{part_after}
use Rattle.tape_laws.proofs.Relation.{IsSeen, AreSeen}
use Rattle.tape_laws.proofs.Stores.{IsHere}
use Rattle.tape_laws.specs.RealReads.{IsKnownOf, IsReadOf}
use Rattle.record_replay_spec.specs.Hooks.{renumber, original}
use Rattle.record_replay_spec.specs.Logs.{LogState, observed_events, log_after, log_after_all, all_observed_events}
use Rattle.record_replay_spec.specs.LogTapes.{LogFrame, marks_from}
use Rattle.tape_laws.specs.ReportedObservations.{is_mutable, reported_observation, reported_observations}
use Rattle.tape_laws.proofs.Trails.{IsOfCore}
use Rattle.tape_laws.proofs.Agrees.{IsOfStore, Agrees, agrees_observation}
use Rattle.tape_laws.proofs.FirstBytes.{finds_of}
use Rattle.tape_laws.proofs.ItemEvents.{Keeps, events_find, marks_of_finds, reported_finds}
use Rattle.tape_laws.proofs.ObservedFinds.{IsReportedKnown}
use Rattle.tape_laws.proofs.Settled.{settled, seen_pages}

-- ---- what is known

module _ (n : ℕ) where
  -- the log knows what the run knows after an observation that hooks report unchanged
  reported_alike : (known : Known) (state : Known) (o : Observation) → ((at : ℕ) → carried_entry at o ≡ None)
      → IsReportedKnown n known state → IsReportedKnown n (known_after known o) (known_after state o)
  reported_alike known state o none reported =
      record {
        byte = λ at. ap (unwrap_or (carried_byte at o)) (reported.byte at);
        entry = λ at.
            ap (λ c. unwrap_or c (state.entry at)) (none at) ∙ reported.entry at
            ∙ sym (ap (λ c. option_map (renumber n) (unwrap_or c (known.entry at))) (none at));
        global = λ at. ap (unwrap_or (carried_global at o)) (reported.global at);
        pages = ap (λ p. pages_after p o) reported.pages;
        entries = ap (λ e. entries_after e o) reported.entries;
      }

  reported_entry : (known : Known) (state : Known) (index : ℕ) (func : Option ℕ) → IsReportedKnown n known state
      → IsReportedKnown n (known_after known (ReadsEntry index func))
      (known_after state (ReadsEntry index (option_map (renumber n) func)))
  reported_entry known state index func reported =
      record {
        byte = reported.byte;
        entry = λ at. go at (nat_eq index at);
        global = reported.global;
        pages = reported.pages;
        entries = reported.entries;
      }
    where
      go : (at : ℕ) (b : Bool)
          → unwrap_or (option_or (cond b (Some (option_map (renumber n) func)) None) None) (state.entry at)
          ≡ option_map (renumber n) (unwrap_or (option_or (cond b (Some func) None) None) (known.entry at))
      go at true = refl
      go at false = reported.entry at

  reported_immutable : (known : Known) (state : Known) (x : ℕ) (value : Val) → known.global x ≡ Some value
      → IsReportedKnown n known state → IsReportedKnown n (known_after known (ReadsGlobal x value)) state
  reported_immutable known state x value same reported =
      record {
        byte = reported.byte;
        entry = reported.entry;
        global = λ at. reported.global at ∙ go at (nat_eq x at) refl;
        pages = reported.pages;
        entries = reported.entries;
      }
    where
      go : (at : ℕ) (b : Bool) → nat_eq x at ≡ b
          → known.global at
          ≡ unwrap_or (option_or (cond b (Some (Some value)) None) None) (known.global at)
      go at true e =
          let here : x ≡ at = grind (arith, nat_tests, e) in
          sym (ap known.global here) ∙ same
      go at false e = refl

module _ (n : ℕ) (globals : List GlobalType) (size : ℕ) (known : Known) (store : Store) (state : LogState)
    (kept : Keeps n globals known store state size) where
  abbrev after : Observation → LogState
  after o = log_after_all state (reported_observation n globals o)

  reported_after : (o : Observation) → IsSeen known store o → IsOfCore o
      → IsReportedKnown n (known_after known o) (after o).known
  reported_after (Begins origin) seen core = absurd seen.here
  reported_after (Ends next) seen core = absurd seen.here
  reported_after (ReadsEntry index func) seen core = reported_entry n known state.known index func kept.reported
  reported_after (WritesEntry index func) seen core = absurd core
  reported_after (ResizesTable found left func) seen core = absurd core
  reported_after (ReadsGlobal x value) seen core = by (is_mutable (slice_get globals x)) refl
    where
      by : (b : Bool) → is_mutable (slice_get globals x) ≡ b
          → IsReportedKnown n (known_after known (ReadsGlobal x value))
          (log_after_all state (cond b (ReadsGlobal x value ∷ []) [])).known
      by true e = reported_alike n known state.known (ReadsGlobal x value) (λ at. refl) kept.reported
      by false e = reported_immutable n known state.known x value (kept.immutable x e ∙ seen.answers) kept.reported
  reported_after o seen core = reported_alike n known state.known o (λ at. refl) kept.reported

  -- the noticed size is the real one, which was reported or is known
  pub record IsSized (o : Observation) : Type 0 where
    pub real : (after o).noticed ≡ pages_of (with_change store o).memory
    pub size_reported : (size ≡ (after o).noticed) ⊎ ((known_after known o).pages ≡ (after o).noticed)

  sized : (o : Observation) → IsSeen known store o → IsOfCore o → IsSized o
  sized (Begins origin) seen core = absurd seen.here
  sized (Ends next) seen core = absurd seen.here
  sized (WritesEntry index func) seen core = absurd core
  sized (ResizesTable found left func) seen core = absurd core
  sized (Reaches «end» found) seen core =
      by (nat_le «end» (known.pages * PAGE_SIZE)) refl
    where
      noticed_is : (b : Bool) → nat_le «end» (known.pages * PAGE_SIZE) ≡ b
          → (after (Reaches «end» found)).noticed ≡ cond b state.noticed found
      noticed_is b e =
          ap
          (λ p. cond (cond (nat_le «end» (p * PAGE_SIZE)) false true)
          (cond (nat_le «end» (p * PAGE_SIZE)) p found) state.noticed) kept.reported.pages
          ∙ ap (λ t. cond (cond t false true) (cond t known.pages found) state.noticed) e ∙ same b
        where
          same : (b : Bool) → cond (cond b false true) (cond b known.pages found) state.noticed ≡ cond b state.noticed found
          same true = refl
          same false = refl

      by : (b : Bool) → nat_le «end» (known.pages * PAGE_SIZE) ≡ b → IsSized (Reaches «end» found)
      by true e =
          record {
            real = noticed_is true e ∙ kept.real;
            size_reported =
                subst
                (λ noticed. (size ≡ noticed) ⊎ (cond (nat_le «end» (known.pages * PAGE_SIZE)) known.pages found ≡ noticed))
                (sym (noticed_is true e))
                (subst (λ t. (size ≡ state.noticed) ⊎ (cond t known.pages found ≡ state.noticed)) (sym e)
                kept.size_reported);
          }
      by false e =
          record {
            real = noticed_is false e ∙ sym seen.found;
            size_reported =
                inr
                (ap (λ t. cond t known.pages found) e ∙ sym (noticed_is false e));
          }
  sized (Resizes found left) seen core =
      record {
        real = sym
            ((change known store (Resizes found left) seen).pages
            ∙ seen_pages known store (Resizes found left) seen tt);
        size_reported = inr refl;
      }
  sized (ReadsGlobal x value) seen core =
      record {
        real = noticed_is (is_mutable (slice_get globals x)) ∙ kept.real;
        size_reported =
            subst (λ noticed. (size ≡ noticed) ⊎ (known.pages ≡ noticed))
            (sym (noticed_is (is_mutable (slice_get globals x)))) kept.size_reported;
      }
    where
      noticed_is : (b : Bool) → (log_after_all state (cond b (ReadsGlobal x value ∷ []) [])).noticed ≡ state.noticed
      noticed_is true = refl
      noticed_is false = refl
  sized o seen core =
      record { real = kept.real ∙ sym (change known store o seen).pages; size_reported = kept.size_reported }

  pub keeps_after : (o : Observation) → IsSeen known store o → IsOfCore o
      → Keeps n globals (known_after known o) (with_change store o) (after o) size
  keeps_after o seen core =
      let s = sized o seen core in
      record {
        reported = reported_after o seen core;
        immutable = λ at i.
            part_after (λ x. x) (read_global at o) (written_global at o) (slice_get store.globals at)
            (slice_get (with_change store o).globals at) (known.global at) (touched_global known store o seen at)
            (kept.immutable at i);
        real = s.real;
        size_reported = s.size_reported;
      }

-- ---- several observations

of_store : (store : Store) (o : Observation) → IsHere store o → IsOfStore o
of_store store (Begins origin) here = absurd here
of_store store (Ends next) here = absurd here
of_store store o here = tt

pub after_both : (state : LogState) (first second : List Observation)
    → log_after_all state (first ++ second) ≡ log_after_all (log_after_all state first) second
after_both state [] second = refl
after_both state (o ∷ first) second = after_both (log_after state o) first second

pub events_both : (n : ℕ) (state : LogState) (first second : List Observation)
    → all_observed_events n state (first ++ second)
    ≡ all_observed_events n state first ++ all_observed_events n (log_after_all state first) second
events_both n state [] second = refl
events_both n state (o ∷ first) second =
    ap (λ l. observed_events n state o ++ l) (events_both n (log_after state o) first second)
    ∙ sym
    (append_assoc (observed_events n state o) (all_observed_events n (log_after state o) first)
    (all_observed_events n (log_after_all (log_after state o) first) second))

module _ (n : ℕ) (globals : List GlobalType) (back : (func : ℕ) → original n (renumber n func) ≡ Some func)
    (size : ℕ) where
  -- observations keep what the log keeps
  pub keeps_after_all : (known : Known) (store : Store) (state : LogState) (items : List Observation)
      → Keeps n globals known store state size → AreSeen known store items → AllByRecursion IsOfCore items
      → Keeps n globals (known_after_all known items) (with_changes store items)
      (log_after_all state (reported_observations n globals items)) size
  keeps_after_all known store state [] kept are core = kept
  keeps_after_all known store state (o ∷ items) kept are core =
      subst (λ s. Keeps n globals (known_after_all known (o ∷ items)) (with_changes store (o ∷ items)) s size)
      (sym (after_both state (reported_observation n globals o) (reported_observations n globals items)))
      (keeps_after_all (known_after known o) (with_change store o) (log_after_all state (reported_observation n globals o))
      items (keeps_after n globals size known store state kept o are.0 core.0) are.1 core.1)

  -- the reported events of observations agree with what the observations need
  pub agrees_all : (outcome : Outcome) (frames : List LogFrame) (known : Known) (store : Store) (state : LogState)
      (items left : List Observation) (later : List Event)
      → Keeps n globals known store state size → IsKnownOf known store → AreSeen known store items
      → AllByRecursion IsOfCore items
      → IsReadOf (known_after_all known items) (window left) (with_changes store items)
      → Agrees (known_after_all known items) left (marks_from n outcome frames size later)
      → Agrees known (items ++ left)
      (marks_from n outcome frames size (all_observed_events n state (reported_observations n globals items) ++ later))
      × IsReadOf known (window (items ++ left)) store
  agrees_all outcome frames known store state [] left later kept of are core real agrees = (agrees, real)
  agrees_all outcome frames known store state (o ∷ items) left later kept of are core real agrees =
      let now = log_after_all state (reported_observation n globals o) in
      let rest = agrees_all outcome frames (known_after known o) (with_change store o) now items left later
      (keeps_after n globals size known store state kept o are.0 core.0) (known_of_after known store o are.0 of) are.1
      core.1 real agrees in
      let events = all_observed_events n state (reported_observation n globals o) in
      let more = all_observed_events n now (reported_observations n globals items) ++ later in (
        subst (λ marks. Agrees known (o ∷ items ++ left) marks)
            (sym
            (ap (λ l. marks_from n outcome frames size (l ++ later))
            (events_both n state (reported_observation n globals o) (reported_observations n globals items))
            ∙ ap (marks_from n outcome frames size)
            (append_assoc events (all_observed_events n now (reported_observations n globals items)) later)
            ∙ marks_of_finds n outcome frames size events more
            (events_find n state (reported_observation n globals o))))
            (agrees_observation known o (items ++ left) (finds_of size events)
            (marks_from n outcome frames size more) (of_store store o are.0.here)
            (reported_finds n globals back size known store state kept o are.0 core.0)
            (settled known store o (window (items ++ left)) are.0 rest.1) rest.0),
        subst (λ w. IsReadOf known w store) (sym (windowed o are.0.here))
            (read_of_before known store o are.0 (window (items ++ left)) rest.1),
      )
    where
      windowed : (o : Observation) → IsHere store o → window (o ∷ items ++ left) ≡ o ∷ window (items ++ left)
      windowed (Begins origin) here = absurd here
      windowed o here = refl
