-- The relation between the remaining observations of a run and the remaining marks of its log.
use Rattle.std.proofs.Common.{◌≡◌, ℕ, ◌*◌, List, [], ◌∷◌, ◌++◌, map, Option, Some, None, Bool, true, false, cond, nat_eq, nat_le, nat_lt, refl, sym, ap, ◌∙◌, subst, arith}
use Rattle.std.specs.Prelude.{unwrap_or}
use Rattle.std.specs.Option.{option_or}
use Rattle.std.proofs.lemmas.Bool.Decides.{nat_tests}
use Rattle.base.proofs.Options.{or_none}
use Rattle.wasm_syntax.specs.declared.limits.TheConstants.{PAGE_SIZE}
use Rattle.wasm_syntax.specs.declared.values.Val.{Val}
use Rattle.trace_model.specs.declared.tapes.Origin.{Origin}
use Rattle.trace_model.specs.declared.tapes.Next.{Next}
use Rattle.trace_model.specs.declared.tapes.Effect.{Effect}
use Rattle.trace_model.specs.declared.tapes.Segment.{Segment}
use Rattle.record_replay_spec.specs.Observations.{Observation, Begins, Ends, Reaches, Resizes, ReachesEntry, ResizesTable}
use Rattle.record_replay_spec.specs.Known.{Known, read_byte, written_byte, carried_byte, read_entry, written_entry, carried_entry, read_global, written_global, carried_global, pages_after, entries_after, known_after}
use Rattle.record_replay_spec.specs.Alike.{same_option, same_value}
use Rattle.record_replay_spec.specs.Windows.{window, unless_some, first_byte, first_entry, first_global, found_pages, found_entries}
use Rattle.record_replay_spec.specs.Needed.{needed, effect_byte, effect_entry, effect_global, effect_pages, effect_entries, Given, SameGiven, needed_by}
use Rattle.record_replay_spec.specs.Kept.{AreKeptSegments}
use Rattle.record_replay_spec.proofs.OneList.{just_of_same, same_reversed}
use Rattle.record_replay_spec.specs.LogTapes.{Mark, Finds, Begins as BeginsMark, Ends as EndsMark, window_finds, first_some, first_given, AreLogSegments}

-- ---- the relation

-- what is found of a window is exactly what the window needs
abbrev pub AreNeededFinds : Known → (window : List Observation) → (finds : List Effect) → Type 0
AreNeededFinds known window finds = SameGiven (first_given finds) (needed_by known window)

-- the window finds what it needs, and the segments that the marks give are those that the observations need
pub record Agrees (known : Known) (left : List Observation) (marks : List Mark) : Type 0 where
  pub finds : AreNeededFinds known (window left) (window_finds marks)
  pub to_log : (segments : List Segment) → AreKeptSegments known left segments → AreLogSegments marks segments
  pub from_log : (segments : List Segment) → AreLogSegments marks segments → AreKeptSegments known left segments

-- ---- what is found of one observation

-- the number of pages that an observation needs
abbrev pub needed_pages_at : (known : ℕ) → Observation → Option ℕ
needed_pages_at known (Reaches end found) =
    cond (nat_le end (known * PAGE_SIZE)) None (needed nat_eq known (Some found))
needed_pages_at known (Resizes found left) = needed nat_eq known (Some found)
needed_pages_at known o = None

-- the number of entries that an observation needs
abbrev pub needed_entries_at : (known : ℕ) → Observation → Option ℕ
needed_entries_at known (ReachesEntry index found) =
    cond (nat_lt index known) None (needed nat_eq known (Some found))
needed_entries_at known (ResizesTable found left func) = needed nat_eq known (Some found)
needed_entries_at known o = None

-- what is found of an observation is what the observation by itself needs
pub record AreFindsOf (known : Known) (o : Observation) (finds : List Effect) : Type 0 where
  pub pages : first_some effect_pages finds ≡ needed_pages_at known.pages o
  pub entries : first_some effect_entries finds ≡ needed_entries_at known.entries o
  pub byte : (at : ℕ) → first_some (effect_byte at) finds ≡ needed nat_eq (known.byte at) (read_byte at o)
  pub entry : (at : ℕ)
      → first_some (effect_entry at) finds ≡ needed (same_option nat_eq) (known.entry at) (read_entry at o)
  pub global : (at : ℕ)
      → first_some (effect_global at) finds ≡ needed (same_option same_value) (known.global at) (read_global at o)

-- ---- what is settled: the window after an observation needs nothing of what that touched or saw

-- an observation sees the number of pages, or of entries
abbrev pub SeesPages : (known : ℕ) → Observation → Type 0
SeesPages known (Reaches end found) = nat_le end (known * PAGE_SIZE) ≡ false
SeesPages known (Resizes found left) = Unit {0}
SeesPages known o = ⊥

abbrev pub SeesEntries : (known : ℕ) → Observation → Type 0
SeesEntries known (ReachesEntry index found) = nat_lt index known ≡ false
SeesEntries known (ResizesTable found left func) = Unit {0}
SeesEntries known o = ⊥

pub record IsSettled (known : Known) (o : Observation) (window : List Observation) : Type 0 where
  pub pages : SeesPages known.pages o
      → needed nat_eq (pages_after known.pages o) (Some (found_pages (pages_after known.pages o) window)) ≡ None
  pub entries : SeesEntries known.entries o
      → needed nat_eq (entries_after known.entries o) (Some (found_entries (entries_after known.entries o) window))
      ≡ None
  pub byte : (at x : ℕ) → carried_byte at o ≡ Some x → needed nat_eq x (first_byte window at) ≡ None
  pub entry : (at : ℕ) (x : Option ℕ) → carried_entry at o ≡ Some x
      → needed (same_option nat_eq) x (first_entry window at) ≡ None
  pub global : (at : ℕ) (x : Option Val) → carried_global at o ≡ Some x
      → needed (same_option same_value) x (first_global window at) ≡ None

-- ---- one place, and a size

-- what is found of an observation and of the window after it is what both need
in_front : {X : Type 0} (same : X → X → Bool) (known : X) (read written later : Option X)
    → ((x : X) → option_or read written ≡ Some x → needed same x later ≡ None)
    → option_or (needed same known read) (needed same (unwrap_or (option_or read written) known) later)
    ≡ needed same known (option_or read (unless_some written later))
in_front same known (Some x) written later settled =
    ap (option_or (needed same known (Some x))) (settled x refl) ∙ or_none (needed same known (Some x))
in_front same known None (Some z) later settled = settled z refl
in_front same known None None later settled = refl

-- a size that an access finds if a test fails
size_in_front : (b : Bool) (known found : ℕ) (size : ℕ → ℕ)
    → (b ≡ false → needed nat_eq (cond b known found) (Some (size (cond b known found))) ≡ None)
    → option_or (cond b None (needed nat_eq known (Some found)))
    (needed nat_eq (cond b known found) (Some (size (cond b known found))))
    ≡ needed nat_eq known (Some (cond b (size known) found))
size_in_front true known found size settled = refl
size_in_front false known found size settled =
    ap (option_or (needed nat_eq known (Some found))) (settled refl) ∙ or_none (needed nat_eq known (Some found))

resized_in_front : (known found left size : ℕ) → needed nat_eq left (Some size) ≡ None
    → option_or (needed nat_eq known (Some found)) (needed nat_eq left (Some size)) ≡ needed nat_eq known (Some found)
resized_in_front known found left size settled =
    ap (option_or (needed nat_eq known (Some found))) settled ∙ or_none (needed nat_eq known (Some found))

-- what an observation and the window after it need of a size, if the window needs nothing once the observation sees it
abbrev InFront : (sees : Type 0) → (known after : ℕ) → (own : Option ℕ) → (later all : ℕ) → Type 0
InFront sees known after own later all =
    (sees → needed nat_eq after (Some later) ≡ None)
    → option_or own (needed nat_eq after (Some later)) ≡ needed nat_eq known (Some all)

pages_in_front : (known : ℕ) (o : Observation) (window : List Observation)
    → InFront (SeesPages known o) known (pages_after known o) (needed_pages_at known o)
    (found_pages (pages_after known o) window) (found_pages known (o ∷ window))
pages_in_front known (Reaches end found) window settled =
    size_in_front (nat_le end (known * PAGE_SIZE)) known found (λ size. found_pages size window) settled
pages_in_front known (Resizes found left) window settled =
    resized_in_front known found left (found_pages left window) (settled tt)
pages_in_front known o window settled = refl

entries_in_front : (known : ℕ) (o : Observation) (window : List Observation)
    → InFront (SeesEntries known o) known (entries_after known o) (needed_entries_at known o)
    (found_entries (entries_after known o) window) (found_entries known (o ∷ window))
entries_in_front known (ReachesEntry index found) window settled =
    size_in_front (nat_lt index known) known found (λ size. found_entries size window) settled
entries_in_front known (ResizesTable found left func) window settled =
    resized_in_front known found left (found_entries left window) (settled tt)
entries_in_front known o window settled = refl

-- ---- marks

-- effects as marks of what is found
abbrev pub marks_of : List Effect → List Mark
marks_of finds = map Finds finds

finds_of_marks : (finds : List Effect) (marks : List Mark)
    → window_finds (marks_of finds ++ marks) ≡ finds ++ window_finds marks
finds_of_marks [] marks = refl
finds_of_marks (effect ∷ finds) marks = ap (λ l. effect ∷ l) (finds_of_marks finds marks)

segments_of_marks : (finds : List Effect) (marks : List Mark) (segments : List Segment)
    → AreLogSegments (marks_of finds ++ marks) segments ≡ AreLogSegments marks segments
segments_of_marks [] marks segments = refl
segments_of_marks (effect ∷ finds) marks segments = segments_of_marks finds marks segments

one : {X : Type 0} (o all first more : Option X) → all ≡ option_or first more
    → option_or o all ≡ option_or (option_or o first) more
one None all first more h = h
one (Some x) all first more h = refl

pub first_of_both : {A X : Type 0} (part : A → Option X) (items more : List A)
    → first_some part (items ++ more) ≡ option_or (first_some part items) (first_some part more)
first_of_both part [] more = refl
first_of_both part (item ∷ items) more = one (part item) _ _ _ (first_of_both part items more)

-- ---- the relation is kept

-- an observation of the store, not of an activity of the host
abbrev pub IsOfStore : Observation → Type 0
IsOfStore (Begins origin) = ⊥
IsOfStore (Ends next) = ⊥
IsOfStore o = Unit {0}

-- the relation holds before an observation, with what is found of it
pub agrees_observation : (known : Known) (o : Observation) (later : List Observation) (finds : List Effect)
    (marks : List Mark) → IsOfStore o → AreFindsOf known o finds → IsSettled known o (window later)
    → Agrees (known_after known o) later marks → Agrees known (o ∷ later) (marks_of finds ++ marks)
agrees_observation known o later finds marks of own settled agrees =
    record {
      finds = subst (λ w. AreNeededFinds known w (window_finds (marks_of finds ++ marks))) (sym (windowed o of))
          (subst (λ l. AreNeededFinds known (o ∷ window later) l) (sym (finds_of_marks finds marks)) found);
      to_log = λ segments h.
          subst (λ T. T) (sym (segments_of_marks finds marks segments))
          (agrees.to_log segments (kept o of segments h));
      from_log = λ segments h.
          keeps o of segments (agrees.from_log segments (subst (λ T. T) (segments_of_marks finds marks segments) h));
    }
  where
    windowed : (o : Observation) → IsOfStore o → window (o ∷ later) ≡ o ∷ window later
    windowed (Begins origin) of = absurd of
    windowed o of = refl

    kept : (o : Observation) → IsOfStore o → (segments : List Segment) → AreKeptSegments known (o ∷ later) segments
        → AreKeptSegments (known_after known o) later segments
    kept (Begins origin) of segments h = absurd of
    kept o of segments h = h

    keeps : (o : Observation) → IsOfStore o → (segments : List Segment)
        → AreKeptSegments (known_after known o) later segments → AreKeptSegments known (o ∷ later) segments
    keeps (Begins origin) of segments h = absurd of
    keeps o of segments h = h

    both : {X : Type 0} (part : Effect → Option X) (first rest : Option X) → first_some part finds ≡ first
        → first_some part (window_finds marks) ≡ rest
        → first_some part (finds ++ window_finds marks) ≡ option_or first rest
    both part first rest f r =
        first_of_both part finds (window_finds marks) ∙ ap (λ a. option_or a (first_some part (window_finds marks))) f
        ∙ ap (option_or first) r

    found : AreNeededFinds known (o ∷ window later) (finds ++ window_finds marks)
    found =
        record {
          pages = both effect_pages _ _ own.pages agrees.finds.pages
              ∙ pages_in_front known.pages o (window later) settled.pages;
          entries = both effect_entries _ _ own.entries agrees.finds.entries
              ∙ entries_in_front known.entries o (window later) settled.entries;
          byte = λ at. both (effect_byte at) _ _ (own.byte at) (agrees.finds.byte at)
              ∙ in_front nat_eq (known.byte at) (read_byte at o) (written_byte at o) (first_byte (window later) at)
              (settled.byte at);
          entry = λ at. both (effect_entry at) _ _ (own.entry at) (agrees.finds.entry at)
              ∙ in_front (same_option nat_eq) (known.entry at) (read_entry at o) (written_entry at o)
              (first_entry (window later) at) (settled.entry at);
          global = λ at. both (effect_global at) _ _ (own.global at) (agrees.finds.global at)
              ∙ in_front (same_option same_value) (known.global at) (read_global at o) (written_global at o)
              (first_global (window later) at) (settled.global at);
        }

-- an empty window needs no size
nothing_needed : (known : ℕ) → needed nat_eq known (Some known) ≡ None
nothing_needed known =
    let p : nat_eq known known ≡ true = grind (arith, nat_tests) in
    ap (λ b. cond b None (Some known)) p

no_finds : (known : Known) → AreNeededFinds known [] []
no_finds known =
    record {
      pages = sym (nothing_needed known.pages);
      entries = sym (nothing_needed known.entries);
      byte = λ at. refl;
      entry = λ at. refl;
      global = λ at. refl;
    }

-- the relation holds if nothing remains
pub agrees_over : (known : Known) → Agrees known [] []
agrees_over known = record { finds = no_finds known; to_log = there; from_log = back }
  where
    there : (segments : List Segment) → AreKeptSegments known [] segments → AreLogSegments [] segments
    there [] h = tt
    there (segment ∷ segments) h = h

    back : (segments : List Segment) → AreLogSegments [] segments → AreKeptSegments known [] segments
    back [] h = tt
    back (segment ∷ segments) h = h

-- the relation holds before an activity of the host
pub agrees_activity : (known : Known) (origin : Origin) (next : Next) (left : List Observation) (marks : List Mark)
    → Agrees known left marks
    → Agrees known (Begins origin ∷ Ends next ∷ left) (BeginsMark origin ∷ EndsMark next ∷ marks)
agrees_activity known origin next left marks agrees =
    record { finds = no_finds known; to_log = there; from_log = back }
  where
    finds : Given
    finds = first_given (window_finds marks)

    needs : Given
    needs = needed_by known (window left)

    there : (segments : List Segment) → AreKeptSegments known (Begins origin ∷ Ends next ∷ left) segments
        → AreLogSegments (BeginsMark origin ∷ EndsMark next ∷ marks) segments
    there [] h = h
    there (segment ∷ segments) h = (
      record {
        begins = h.0.begins;
        leaves = h.0.leaves;
        changes =
            just_of_same needs finds segment.effects (same_reversed finds needs agrees.finds) h.0.changes;
      },
      agrees.to_log segments h.1,
    )

    back : (segments : List Segment) → AreLogSegments (BeginsMark origin ∷ EndsMark next ∷ marks) segments
        → AreKeptSegments known (Begins origin ∷ Ends next ∷ left) segments
    back [] h = h
    back (segment ∷ segments) h = (
      record {
        begins = h.0.begins;
        leaves = h.0.leaves;
        changes = just_of_same finds needs segment.effects agrees.finds h.0.changes;
      },
      agrees.from_log segments h.1,
    )
