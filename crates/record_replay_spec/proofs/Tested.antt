-- Segments that pass the test are needed: at places that do not occur, nothing is given and nothing needed.
use Rattle.std.proofs.Common.{◌≡◌, ℕ, suc, ◌-◌, ◌≤◌, List, [], ◌∷◌, ◌++◌, Option, Some, None, Bool, true, false, cond, ◌&&◌, ◌||◌, nat_eq, nat_le, slice_get, ⊎_elim, refl, sym, ap, ◌∙◌, subst, arith}
use Rattle.std.specs.List.{list_all}
use Rattle.std.specs.Option.{option_or}
use Rattle.std.proofs.lemmas.Bool.{eqb-true}
use Rattle.std.proofs.lemmas.Bool.Decides.{nat_tests}
use Rattle.base.proofs.Booleans.{and_parts, or_cases, same_either}
use Rattle.trace_model.specs.declared.tapes.Effect.{Effect}
use Rattle.trace_model.specs.declared.tapes.Effect.TheVariants.{Bytes, Entry, Global}
use Rattle.trace_model.specs.declared.tapes.Next.{Next}
use Rattle.trace_model.specs.declared.tapes.Origin.{Origin}
use Rattle.trace_model.specs.declared.tapes.Segment.{Segment}
use Rattle.record_replay_spec.specs.Observations.{Observation, Begins, Ends, Reads, Copies, ReadsEntry, ReadsGlobal}
use Rattle.record_replay_spec.specs.Known.{Known, byte_among, read_byte, written_byte, read_entry, written_entry, read_global, written_global, last_some, known_after}
use Rattle.record_replay_spec.specs.Alike.{same_option, same_value, same_origin, same_next}
use Rattle.record_replay_spec.specs.Windows.{unless_some, first_read, window}
use Rattle.record_replay_spec.specs.Needed.{needed, effect_byte, effect_entry, effect_global, effect_pages, effect_entries, Given, GiveJust, needed_by, AreNeeded}
use Rattle.record_replay_spec.specs.NeededTest.{all_of, addresses_from, read_addresses, read_entries, read_globals, effect_addresses, entries_set, globals_set, gives, give_just, are_needed, are_needed_segments}
use Rattle.record_replay_spec.specs.Kept.{AreKeptSegments}
use Rattle.record_replay_spec.specs.Laws.{TestedSegmentsAreNeeded}
use Rattle.record_replay_spec.proofs.Kept.{needed_segments_are_kept}
use Rattle.record_replay_spec.proofs.Alike.{option_same, value_same, origin_same, next_same}

-- ---- places that occur

-- a number is one of a list
abbrev pub is_among : ℕ → List ℕ → Bool
is_among at [] = false
is_among at (x ∷ xs) = nat_eq x at || is_among at xs

pub passes_among : (test : ℕ → Bool) (xs : List ℕ) (at : ℕ) → list_all test xs ≡ true → is_among at xs ≡ true
    → test at ≡ true
passes_among test [] at all among = cc
passes_among test (x ∷ xs) at all among =
    let p = and_parts (test x) (list_all test xs) all in
    ⊎_elim (λ same. subst (λ y. test y ≡ true) (eqb-true x at same) p.0)
    (λ later. passes_among test xs at p.1 later)
    (or_cases (nat_eq x at) (is_among at xs) among)

neither : (a b : Bool) → (a || b) ≡ false → (a ≡ false) × (b ≡ false)
neither true b h = cc
neither false b h = (refl, h)

pub not_among : (at : ℕ) (xs ys : List ℕ) → is_among at (xs ++ ys) ≡ false
    → (is_among at xs ≡ false) × (is_among at ys ≡ false)
not_among at [] ys h = (refl, h)
not_among at (x ∷ xs) ys h =
    let p = neither (nat_eq x at) (is_among at (xs ++ ys)) h in
    let q = not_among at xs ys p.1 in
    (ap (λ b. b || is_among at xs) p.0 ∙ q.0, q.1)

-- ---- other places give nothing

pub last_none : {A X : Type 0} (part : A → Option X) (places : A → List ℕ) (at : ℕ)
    → ((item : A) → is_among at (places item) ≡ false → part item ≡ None)
    → (items : List A) → is_among at (all_of places items) ≡ false → last_some part items ≡ None
last_none part places at each [] h = refl
last_none part places at each (item ∷ later) h =
    let p = not_among at (places item) (all_of places later) h in
    ap (λ r. option_or r (part item)) (last_none part places at each later p.1) ∙ each item p.0

unless_none : {X : Type 0} (a b : Option X) → b ≡ None → unless_some a b ≡ None
unless_none (Some x) b h = refl
unless_none None b h = h

first_none : {X : Type 0} (read written : Observation → Option X) (places : Observation → List ℕ) (at : ℕ)
    → ((o : Observation) → is_among at (places o) ≡ false → read o ≡ None)
    → (window : List Observation) → is_among at (all_of places window) ≡ false
    → first_read read written window ≡ None
first_none read written places at each [] h = refl
first_none read written places at each (o ∷ later) h =
    let p = not_among at (places o) (all_of places later) h in
    ap (λ r. option_or r (unless_some (written o) (first_read read written later))) (each o p.0)
    ∙ unless_none (written o) (first_read read written later) (first_none read written places at each later p.1)

-- at addresses after the first byte of a run are the rest of its bytes
pub byte_later : (address byte : ℕ) (bytes : List ℕ) (at : ℕ) → nat_eq address at ≡ false
    → byte_among address (byte ∷ bytes) at ≡ byte_among (suc address) bytes at
byte_later address byte bytes at h = go (nat_le address at) refl
  where
    go : (b : Bool) → nat_le address at ≡ b
        → byte_among address (byte ∷ bytes) at ≡ byte_among (suc address) bytes at
    go true p =
        let less : suc address ≤ at = grind (arith, nat_tests, p, h) in
        let q : nat_le (suc address) at ≡ true = grind (arith, nat_tests, less) in
        let e : at - address ≡ suc (at - suc address) = omega (arith, less) in
        ap (λ b. cond b (slice_get (byte ∷ bytes) (at - address)) None) p
        ∙ ap (λ n. slice_get (byte ∷ bytes) n) e
        ∙ sym (ap (λ b. cond b (slice_get bytes (at - suc address)) None) q)
    go false p =
        let q : nat_le (suc address) at ≡ false = grind (arith, nat_tests, p) in
        ap (λ b. cond b (slice_get (byte ∷ bytes) (at - address)) None) p
        ∙ sym (ap (λ b. cond b (slice_get bytes (at - suc address)) None) q)

byte_none : (at address : ℕ) (bytes : List ℕ) → is_among at (addresses_from address bytes) ≡ false
    → byte_among address bytes at ≡ None
byte_none at address [] h = same_either (nat_le address at) None
byte_none at address (byte ∷ bytes) h =
    let p = neither (nat_eq address at) (is_among at (addresses_from (suc address) bytes)) h in
    byte_later address byte bytes at p.0 ∙ byte_none at (suc address) bytes p.1

single_none : {X : Type 0} (at x : ℕ) (y : X) → is_among at (x ∷ []) ≡ false → cond (nat_eq x at) (Some y) None ≡ None
single_none at x y h = ap (λ b. cond b (Some y) None) (neither (nat_eq x at) false h).0

byte_unread : (at : ℕ) (o : Observation) → is_among at (read_addresses o) ≡ false → read_byte at o ≡ None
byte_unread at (Reads address bytes) h = byte_none at address bytes h
byte_unread at (Copies address bytes) h = byte_none at address bytes h
byte_unread at o h = refl

entry_unread : (at : ℕ) (o : Observation) → is_among at (read_entries o) ≡ false → read_entry at o ≡ None
entry_unread at (ReadsEntry index func) h = single_none at index func h
entry_unread at o h = refl

global_unread : (at : ℕ) (o : Observation) → is_among at (read_globals o) ≡ false → read_global at o ≡ None
global_unread at (ReadsGlobal global value) h = single_none at global (Some value) h
global_unread at o h = refl

pub byte_unchanged : (at : ℕ) (e : Effect) → is_among at (effect_addresses e) ≡ false → effect_byte at e ≡ None
byte_unchanged at (Bytes address bytes) h = byte_none at address bytes h
byte_unchanged at e h = refl

pub entry_unchanged : (at : ℕ) (e : Effect) → is_among at (entries_set e) ≡ false → effect_entry at e ≡ None
entry_unchanged at (Entry index func) h = single_none at index func h
entry_unchanged at e h = refl

pub global_unchanged : (at : ℕ) (e : Effect) → is_among at (globals_set e) ≡ false → effect_global at e ≡ None
global_unchanged at (Global global value) h = single_none at global (Some value) h
global_unchanged at e h = refl

-- ---- at each place effects give what is given

-- what is given at places of one kind: by the test if the place occurs, and otherwise nothing
everywhere : {X : Type 0} (same : X → X → Bool) → ((x y : X) → same x y ≡ true → x ≡ y)
    → (part : ℕ → Effect → Option X) (changed : Effect → List ℕ)
    → ((at : ℕ) (e : Effect) → is_among at (changed e) ≡ false → part at e ≡ None)
    → (given : ℕ → Option X) (places : List ℕ) → ((at : ℕ) → is_among at places ≡ false → given at ≡ None)
    → (effects : List Effect) → gives same part given (all_of changed effects ++ places) effects ≡ true
    → (at : ℕ) → last_some (part at) effects ≡ given at
everywhere same sound part changed unchanged given places none effects all at =
    go (is_among at (all_of changed effects ++ places)) refl
  where
    go : (b : Bool) → is_among at (all_of changed effects ++ places) ≡ b → last_some (part at) effects ≡ given at
    go true among =
        option_same same sound (last_some (part at) effects) (given at)
        (passes_among (λ at. same_option same (last_some (part at) effects) (given at))
        (all_of changed effects ++ places) at all among)
    go false past =
        let p = not_among at (all_of changed effects) places past in
        last_none (part at) changed at (unchanged at) effects p.0 ∙ sym (none at p.1)

-- nothing is given except at some addresses, entries and globals
pub record IsGivenAt (given : Given) (addresses entries globals : List ℕ) : Type 0 where
  pub byte : (at : ℕ) → is_among at addresses ≡ false → given.byte at ≡ None
  pub entry : (at : ℕ) → is_among at entries ≡ false → given.entry at ≡ None
  pub global : (at : ℕ) → is_among at globals ≡ false → given.global at ≡ None

pub just_by_test : (given : Given) (addresses entries globals : List ℕ) → IsGivenAt given addresses entries globals
    → (effects : List Effect) → give_just given addresses entries globals effects ≡ true → GiveJust given effects
just_by_test given addresses entries globals is effects h =
    let p = and_parts _ _ h in
    let q = and_parts _ _ p.0 in
    let r = and_parts _ _ q.0 in
    let s = and_parts _ _ r.0 in
    let t = and_parts _ _ s.0 in
    let u = and_parts _ _ t.0 in
    record {
      ordered = u.0;
      nonempty = u.1;
      pages = option_same nat_eq eqb-true (last_some effect_pages effects) given.pages t.1;
      entries = option_same nat_eq eqb-true (last_some effect_entries effects) given.entries s.1;
      byte =
          everywhere nat_eq eqb-true effect_byte effect_addresses byte_unchanged given.byte addresses is.byte effects r.1;
      entry =
          everywhere (same_option nat_eq) (option_same nat_eq eqb-true) effect_entry entries_set entry_unchanged
          given.entry entries is.entry effects q.1;
      global =
          everywhere (same_option same_value) (option_same same_value value_same) effect_global globals_set
          global_unchanged given.global globals is.global effects p.1;
    }

effects_needed : (known : Known) (window : List Observation) (effects : List Effect)
    → are_needed known window effects ≡ true → AreNeeded known window effects
effects_needed known sights =
    just_by_test (needed_by known sights) (all_of read_addresses sights) (all_of read_entries sights)
    (all_of read_globals sights)
    (record {
      byte = λ at past.
          ap (needed nat_eq (known.byte at))
          (first_none (read_byte at) (written_byte at) read_addresses at (byte_unread at) sights past);
      entry = λ at past.
          ap (needed (same_option nat_eq) (known.entry at))
          (first_none (read_entry at) (written_entry at) read_entries at (entry_unread at) sights past);
      global = λ at past.
          ap (needed (same_option same_value) (known.global at))
          (first_none (read_global at) (written_global at) read_globals at (global_unread at) sights past);
    })

-- the first segment of a list that passes the test, if the rest passes
pub front_by_test : {Changes Rest : Type 0} (segment : Segment) (origin : Origin) (next : Next) (changes rest : Bool)
    → (changes ≡ true → Changes) → (rest ≡ true → Rest)
    → (same_origin segment.origin origin && same_next segment.next next && changes && rest) ≡ true
    → (segment.origin ≡ origin) × (segment.next ≡ next) × Changes × Rest
front_by_test segment origin next changes rest all later h =
    let p = and_parts _ _ h in
    let q = and_parts _ _ p.0 in
    let r = and_parts _ _ q.0 in
    (origin_same segment.origin origin r.0, next_same segment.next next r.1, all q.1, later p.1)

kept_by_test : (known : Known) (seen : List Observation) (segments : List Segment)
    → are_needed_segments known seen segments ≡ true → AreKeptSegments known seen segments
kept_by_test known [] [] h = tt
kept_by_test known [] (segment ∷ segments) h = cc
kept_by_test known (Begins origin ∷ Ends next ∷ later) (segment ∷ segments) h =
    let front =
    front_by_test segment origin next (are_needed known (window later) segment.effects)
    (are_needed_segments known later segments) (effects_needed known (window later) segment.effects)
    (kept_by_test known later segments) h
    in
    (record { begins = front.0; leaves = front.1; changes = front.2 }, front.3)
kept_by_test known (Begins origin ∷ later) segments h = cc
kept_by_test known (o ∷ later) segments h =
    kept_by_test (known_after known o) later segments h

pub tested_segments_are_needed : TestedSegmentsAreNeeded
tested_segments_are_needed opening observations segments h =
    (needed_segments_are_kept opening observations segments).1 (kept_by_test opening observations segments h)
