-- Entries and globals that are found, and taken.
use Rattle.std.proofs.Common.{◌≡◌, ◌≢◌, ℕ, zero, suc, ◌-◌, ◌<◌, ◌≤◌, List, [], ◌∷◌, ◌++◌, length, map, Option, Some, None, Bool, true, false, cond, nat_eq, nat_lt, replicate, slice_get, slice_index_or, slice_set, option_map, option_and_then, refl, sym, ap, ◌∙◌, arith}
use Rattle.std.specs.Prelude.{unwrap_or}
use Rattle.std.specs.Option.{option_or}
use Rattle.std.proofs.lemmas.Bool.{eqb-true}
use Rattle.std.proofs.lemmas.Bool.Decides.{nat_tests}
use Rattle.std.proofs.lemmas.List.{append-nil, length-append, length-replicate, length-set, get_or-set_same, get_or-set_other}
use Rattle.std.proofs.lemmas.Option.{slice_get-get_or, slice_get_within}
use Rattle.base.proofs.Booleans.{own_number}
use Rattle.base.proofs.Options.{or_none}
use Rattle.wasm_syntax.specs.declared.values.Val.{Val}
use Rattle.trace_model.specs.declared.events.Event.{Event}
use Rattle.trace_model.specs.declared.events.Event.TheVariants.{Table, Entry, Global}
use Rattle.trace_model.specs.Sink.{TookAlso}
use Rattle.trace_model.proofs.SinkLemmas.{took_none, took_same}
use Rattle.record_replay_spec.specs.Observations.{ReachesEntry, ReadsEntry, ReadsGlobal, WritesGlobal}
use Rattle.record_replay_spec.specs.Hooks.{original}
use Rattle.record_replay_spec.specs.Alike.{same_option, same_value}
use Rattle.record_replay_spec.proofs.Alike.{option_same, value_same, own_value, option_differs, option_agrees}
use Rattle.record_replay_spec.specs.Logs.{LogState, unless, all_observed_events}
use Rattle.shadow_tables.specs.Tables.{Tables}
use Rattle.recorder.specs.Known.{ReportsTables}
use Rattle.recorder.proofs.Kit.{with_entries, with_globals}

-- ---- the table's size

-- empty entries are like missing ones
padded : (entries : List (Option ℕ)) (count at : ℕ)
    → slice_index_or entries at None ≡ slice_index_or (entries ++ replicate count None) at None
padded [] zero at = refl
padded [] (suc count) zero = refl
padded [] (suc count) (suc at) = padded [] count at
padded (x ∷ xs) count zero = refl
padded (x ∷ xs) count (suc at) = padded xs count at

module _ {S : Type 0} (has_taken : S → S → List Event → Type 0) (n : ℕ) (tables : Tables) where
  pub reaches_known : (sink : S) (index found : ℕ) → index < length tables.entries
      → ReportsTables has_taken n tables sink (ReachesEntry index found ∷ []) tables sink
  reaches_known sink index found below memory state shows =
      let p' : nat_lt index (length tables.entries) ≡ true = grind (arith, nat_tests, below) in
      let p : nat_lt index state.known.entries ≡ true = ap (nat_lt index) shows.entries ∙ p' in (
        with_entries shows _ _ tables.entries shows.entry (ap (λ b. cond b state.known.entries found) p ∙ shows.entries),
        took_same has_taken sink sink [] (all_observed_events n state (ReachesEntry index found ∷ []))
            (sym (ap (λ b. cond b [] (unless (nat_eq found state.known.entries) (Table found)) ++ []) p))
            (took_none has_taken sink),
      )

  pub reaches_past : (sink sink' : S) (index found : ℕ) → length tables.entries ≤ index → length tables.entries ≤ found
      → TookAlso has_taken sink sink' (unless (nat_eq found (length tables.entries)) (Table found))
      → ReportsTables has_taken n tables sink (ReachesEntry index found ∷ [])
      (record tables { entries = tables.entries ++ replicate (found - length tables.entries) None }) sink'
  reaches_past sink sink' index found past more reported memory state shows =
      let p' : nat_lt index (length tables.entries) ≡ false = grind (arith, nat_tests, past) in
      let p : nat_lt index state.known.entries ≡ false = ap (nat_lt index) shows.entries ∙ p' in
      let size : found ≡ length (tables.entries ++ replicate (found - length tables.entries) None) =
      omega (
        arith,
        more,
        length-append tables.entries (replicate (found - length tables.entries) None),
        length-replicate {A = Option ℕ} (found - length tables.entries) None,
      ) in (
        with_entries shows _ _ (tables.entries ++ replicate (found - length tables.entries) None)
            (λ at. shows.entry at ∙ padded tables.entries (found - length tables.entries) at)
            (ap (λ b. cond b state.known.entries found) p ∙ size),
        took_same has_taken sink sink' _ (all_observed_events n state (ReachesEntry index found ∷ []))
            (sym
            (ap (λ b. cond b [] (unless (nat_eq found state.known.entries) (Table found)) ++ []) p
            ∙ append-nil (unless (nat_eq found state.known.entries) (Table found))
            ∙ ap (λ known. unless (nat_eq found known) (Table found)) shows.entries)) reported,
      )

-- ---- entries

pub true_false : true ≡ false → ⊥
true_false e = cc

module _ (entries : List (Option ℕ)) (index : ℕ) (func : Option ℕ) (below : index < length entries) where
  abbrev known : Option ℕ
  known = slice_index_or entries index None

  there : slice_get entries index ≡ Some known
  there = slice_get-get_or entries index None below

  differs_test : slice_get entries index ≢ Some func → same_option nat_eq known func ≡ false
  differs_test apart = option_differs nat_eq eqb-true own_number known func (λ e. apart (there ∙ ap Some e))

  same_test : (slice_get entries index ≢ Some func → ⊥) → same_option nat_eq known func ≡ true
  same_test same = option_agrees nat_eq eqb-true own_number known func (λ apart. same (λ e. apart (inner (sym there ∙ e))))
    where
      inner : Some known ≡ Some func → known ≡ func
      inner e = cc

module _ {S : Type 0} (has_taken : S → S → List Event → Type 0) (n : ℕ) (tables : Tables) (index : ℕ) (func : Option ℕ)
    (below : index < length tables.entries) where
  events_by : (state : LogState) → (b : Bool) → same_option nat_eq (state.known.entry index) func ≡ b
      → all_observed_events n state (ReadsEntry index func ∷ [])
      ≡ unless b (Entry index (option_and_then (original n) func)) ++ []
  events_by state b p = ap (λ t. unless t (Entry index (option_and_then (original n) func)) ++ []) p

  pub finds_entry : (sink sink' : S) (callee : Option ℕ) → option_and_then (original n) func ≡ callee
      → slice_get tables.entries index ≢ Some func → TookAlso has_taken sink sink' (Entry index callee ∷ [])
      → ReportsTables has_taken n tables sink (ReadsEntry index func ∷ [])
      (record tables { entries = slice_set tables.entries index func }) sink'
  finds_entry sink sink' callee is apart reported memory state shows =
      let p : same_option nat_eq (state.known.entry index) func ≡ false =
      ap (λ known. same_option nat_eq known func) (shows.entry index) ∙ differs_test tables.entries index func below apart in (
        with_entries shows _ _ (slice_set tables.entries index func) (λ at. entry at (nat_eq index at) refl)
            (shows.entries ∙ sym (length-set tables.entries index func)),
        took_same has_taken sink sink' _ (all_observed_events n state (ReadsEntry index func ∷ []))
            (ap (λ c. Entry index c ∷ []) (sym is) ∙ sym (events_by state false p)) reported,
      )
    where
      entry : (at : ℕ) (b : Bool) → nat_eq index at ≡ b
          → unwrap_or (option_or (cond b (Some func) None) None) (state.known.entry at)
          ≡ slice_index_or (slice_set tables.entries index func) at None
      entry at true p =
          let e : at ≡ index = grind (arith, nat_tests, p) in
          sym
          (ap (λ i. slice_index_or (slice_set tables.entries index func) i None) e
          ∙ get_or-set_same tables.entries index func None below)
      entry at false p =
          shows.entry at ∙ sym (get_or-set_other tables.entries index at func None (λ e. other at p e))
        where
          other : (at : ℕ) → nat_eq index at ≡ false → at ≡ index → ⊥
          other at p e = let q : nat_eq index at ≡ true = grind (arith, nat_tests, e) in true_false (sym q ∙ p)

  pub knows_entry : (sink : S) → (slice_get tables.entries index ≢ Some func → ⊥)
      → ReportsTables has_taken n tables sink (ReadsEntry index func ∷ []) tables sink
  knows_entry sink same memory state shows =
      let q = same_test tables.entries index func below same in
      let p : same_option nat_eq (state.known.entry index) func ≡ true =
      ap (λ known. same_option nat_eq known func) (shows.entry index) ∙ q in (
        with_entries shows _ _ tables.entries
            (λ at. entry (option_same nat_eq eqb-true (slice_index_or tables.entries index None) func q) at (nat_eq index at) refl) shows.entries,
        took_same has_taken sink sink _ (all_observed_events n state (ReadsEntry index func ∷ []))
            (sym (events_by state true p)) (took_none has_taken sink),
      )
    where
      entry : slice_index_or tables.entries index None ≡ func → (at : ℕ) (b : Bool) → nat_eq index at ≡ b
          → unwrap_or (option_or (cond b (Some func) None) None) (state.known.entry at)
          ≡ slice_index_or tables.entries at None
      entry is at true p =
          let e : index ≡ at = grind (arith, nat_tests, p) in
          sym is ∙ ap (λ i. slice_index_or tables.entries i None) e
      entry is at false p = shows.entry at

-- ---- globals

-- a global of a known type
module _ (globals : List Val) (global : ℕ) (value : Val)
    (typed : option_map (λ known. known.ty) (slice_get globals global) ≡ Some value.ty) where
  pub is_below : global < length globals
  is_below = go (slice_get globals global) refl typed
    where
      go : (known : Option Val) → slice_get globals global ≡ known
          → option_map (λ known. known.ty) known ≡ Some value.ty → global < length globals
      go None is h = cc
      go (Some known) is h = slice_get_within globals global known is

  -- the types stay the same if a global is set
  pub types_stay : map (λ known. known.ty) (slice_set globals global value) ≡ map (λ known. known.ty) globals
  types_stay = go globals global typed
    where
      go : (globals : List Val) (index : ℕ) → option_map (λ known. known.ty) (slice_get globals index) ≡ Some value.ty
          → map (λ known. known.ty) (slice_set globals index value) ≡ map (λ known. known.ty) globals
      go [] index h = cc
      go (x ∷ xs) zero h =
          let e : x.ty ≡ value.ty = cc in ap (λ t. t ∷ map (λ known. known.ty) xs) (sym e)
      go (x ∷ xs) (suc index) h = ap (λ types. x.ty ∷ types) (go xs index h)

-- a global after it is set; the other globals
set_here : (globals : List Val) (index : ℕ) (value : Val) → index < length globals
    → slice_get (slice_set globals index value) index ≡ Some value
set_here [] index value below = absurd (omega (arith, below))
set_here (x ∷ xs) zero value below = refl
set_here (x ∷ xs) (suc index) value below = set_here xs index value (omega (arith, below))

set_elsewhere : (globals : List Val) (index at : ℕ) (value : Val) → (index ≡ at → ⊥)
    → slice_get (slice_set globals index value) at ≡ slice_get globals at
set_elsewhere [] index at value apart = refl
set_elsewhere (x ∷ xs) zero zero value apart = absurd (apart refl)
set_elsewhere (x ∷ xs) zero (suc at) value apart = refl
set_elsewhere (x ∷ xs) (suc index) zero value apart = refl
set_elsewhere (x ∷ xs) (suc index) (suc at) value apart = set_elsewhere xs index at value (λ e. apart (ap suc e))

set_global : (globals : List Val) (index at : ℕ) (value : Val) → index < length globals → (b : Bool)
    → nat_eq index at ≡ b → (old : Option Val) → old ≡ slice_get globals at
    → unwrap_or (cond b (Some (Some value)) None) old ≡ slice_get (slice_set globals index value) at
set_global globals index at value below true p old same =
    let e : index ≡ at = grind (arith, nat_tests, p) in
    sym (ap (slice_get (slice_set globals index value)) (sym e) ∙ set_here globals index value below)
set_global globals index at value below false p old same =
    same ∙ sym (set_elsewhere globals index at value (λ e. apart e))
  where
    apart : index ≡ at → ⊥
    apart e = let q : nat_eq index at ≡ true = grind (arith, nat_tests, e) in true_false (sym q ∙ p)

module _ {S : Type 0} (has_taken : S → S → List Event → Type 0) (n : ℕ) (tables : Tables) (global : ℕ) (value : Val)
    (typed : option_map (λ known. known.ty) (slice_get tables.globals global) ≡ Some value.ty) where
  global_events : (state : LogState) → (b : Bool) → same_option same_value (state.known.global global) (Some value) ≡ b
      → all_observed_events n state (ReadsGlobal global value ∷ []) ≡ unless b (Global global value) ++ []
  global_events state b p = ap (λ t. unless t (Global global value) ++ []) p

  pub finds_global : (sink sink' : S) → slice_get tables.globals global ≢ Some value
      → TookAlso has_taken sink sink' (Global global value ∷ [])
      → ReportsTables has_taken n tables sink (ReadsGlobal global value ∷ [])
      (record tables { globals = slice_set tables.globals global value }) sink'
  finds_global sink sink' apart reported memory state shows =
      let p : same_option same_value (state.known.global global) (Some value) ≡ false =
      ap (λ known. same_option same_value known (Some value)) (shows.global global)
      ∙ option_differs same_value value_same own_value (slice_get tables.globals global) (Some value) apart in (
        with_globals shows _ (slice_set tables.globals global value) (λ at.
            ap (λ o. unwrap_or o (state.known.global at)) (or_none (cond (nat_eq global at) (Some (Some value)) None))
            ∙ set_global tables.globals global at value (is_below tables.globals global value typed) (nat_eq global at)
            refl (state.known.global at) (shows.global at)),
        took_same has_taken sink sink' _ (all_observed_events n state (ReadsGlobal global value ∷ []))
            (sym (global_events state false p)) reported,
      )

  pub knows_global : (sink : S) → (slice_get tables.globals global ≢ Some value → ⊥)
      → ReportsTables has_taken n tables sink (ReadsGlobal global value ∷ []) tables sink
  knows_global sink same memory state shows =
      let agree : same_option same_value (slice_get tables.globals global) (Some value) ≡ true =
      option_agrees same_value value_same own_value (slice_get tables.globals global) (Some value) same in
      let p : same_option same_value (state.known.global global) (Some value) ≡ true =
      ap (λ known. same_option same_value known (Some value)) (shows.global global) ∙ agree in (
        with_globals shows _ tables.globals (λ at.
            known (option_same same_value value_same (slice_get tables.globals global) (Some value) agree) at
            (nat_eq global at) refl),
        took_same has_taken sink sink _ (all_observed_events n state (ReadsGlobal global value ∷ []))
            (sym (global_events state true p)) (took_none has_taken sink),
      )
    where
      known : slice_get tables.globals global ≡ Some value → (at : ℕ) (b : Bool) → nat_eq global at ≡ b
          → unwrap_or (option_or (cond b (Some (Some value)) None) None) (state.known.global at)
          ≡ slice_get tables.globals at
      known is at true p =
          let e : global ≡ at = grind (arith, nat_tests, p) in sym is ∙ ap (slice_get tables.globals) e
      known is at false p = shows.global at

  pub writes_global : (sink : S)
      → ReportsTables has_taken n tables sink (WritesGlobal global value ∷ [])
      (record tables { globals = slice_set tables.globals global value }) sink
  writes_global sink memory state shows = (
    with_globals shows _ (slice_set tables.globals global value) (λ at.
        set_global tables.globals global at value (is_below tables.globals global value typed) (nat_eq global at) refl
        (state.known.global at) (shows.global at)),
    took_none has_taken sink,
  )
