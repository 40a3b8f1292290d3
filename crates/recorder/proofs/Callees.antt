-- Calls by the table: the entry is reached, and is read if it exists.
use Rattle.std.proofs.Common.{◌≡◌, ℕ, ◌<◌, ◌≤◌, List, [], ◌∷◌, length, Option, Some, None, Bool, true, false, cond, nat_eq, nat_lt, slice_get, slice_index_or, refl, sym, ap, ◌∙◌, subst, arith}
use Rattle.std.specs.Option.{option_flatten}
use Rattle.std.proofs.lemmas.Bool.Decides.{nat_tests}
use Rattle.std.proofs.lemmas.List.{append-nil}
use Rattle.std.proofs.lemmas.Option.{slice_get_past, slice_get-get_or}
use Rattle.trace_model.specs.declared.events.Event.{Event}
use Rattle.trace_model.specs.declared.events.Event.TheVariants.{Table as TableEvent}
use Rattle.trace_model.proofs.SinkLemmas.{took_same}
use Rattle.history_spec.specs.Store.{Store, Table}
use Rattle.history_spec.specs.Instantiation.{table_length}
use Rattle.wasm_store.specs.Calls.{entries_of_table, entries_in}
use Rattle.record_replay_spec.specs.Observations as observed
use Rattle.record_replay_spec.specs.Observations.{Observation, ReachesEntry, ReadsEntry, entry_observations}
use Rattle.record_replay_spec.specs.Known.{entry_of, entries_after}
use Rattle.record_replay_spec.specs.Hooks.{on}
use Rattle.record_replay_spec.specs.Logs.{unless, all_observed_events}
use Rattle.shadow_tables.specs.Tables.{Tables}
use Rattle.recorder.specs.Known.{ReportsTables}
use Rattle.recorder.proofs.Kit.{reports_then}

pub size_same : (store : Store) → length (entries_in store) ≡ table_length store.table
size_same store = go store.table
  where
    go : (table : Option Table) → length (entries_of_table table) ≡ table_length table
    go None = refl
    go (Some table) = refl

pub below_after : (known index found : ℕ) → index < found → index < entries_after known (ReachesEntry index found)
below_after known index found below = go (nat_lt index known) refl
  where
    go : (b : Bool) → nat_lt index known ≡ b → index < cond b known found
    go true p = grind (arith, nat_tests, p)
    go false p = below

module _ {S : Type 0} (has_taken : S → S → List Event → Type 0) (n : ℕ) (a b : Tables) (s t : S) (index : ℕ) where
  -- nothing is observed of a missing table
  reaches_none : length a.entries ≡ 0 → ReportsTables has_taken n a s (ReachesEntry index 0 ∷ []) b t
      → ReportsTables has_taken n a s [] b t
  reaches_none empty reports memory state shows =
      let reported = reports memory state shows in
      let none : state.known.entries ≡ 0 = shows.entries ∙ empty in (
        record {
          byte = reported.0.byte;
          entry = reported.0.entry;
          global = reported.0.global;
          pages = reported.0.pages;
          entries = none ∙ sym (by_test (nat_lt index state.known.entries) state.known.entries none) ∙ reported.0.entries;
          noticed = reported.0.noticed;
        },
        took_same has_taken s t (all_observed_events n state (ReachesEntry index 0 ∷ [])) []
            (append-nil (cond (nat_lt index state.known.entries) [] (unless (nat_eq 0 state.known.entries) (TableEvent 0)))
            ∙ no_events (nat_lt index state.known.entries) state.known.entries none) reported.1,
      )
    where
      by_test : (b : Bool) (known : ℕ) → known ≡ 0 → cond b known 0 ≡ 0
      by_test true known e = e
      by_test false known e = refl

      no_events : (b : Bool) (known : ℕ) → known ≡ 0 → cond b [] (unless (nat_eq 0 known) (TableEvent 0)) ≡ []
      no_events true known e = refl
      no_events false known e =
          let p : nat_eq 0 known ≡ true = grind (arith, nat_tests, e) in ap (λ b. unless b (TableEvent 0)) p

  pub callee_past : (table : Option Table) → length a.entries ≤ table_length table
      → length (entries_of_table table) ≤ index
      → ReportsTables has_taken n a s (ReachesEntry index (length (entries_of_table table)) ∷ []) b t
      → ReportsTables has_taken n a s (on table (entry_observations index)) b t
  callee_past None few past reports = reaches_none (omega (arith, few)) reports
  callee_past (Some table) few past reports =
      subst
      (λ o. ReportsTables has_taken n a s
      (ReachesEntry index (length table.entries) ∷ observed.on o (λ func. ReadsEntry index func ∷ []))
      b t)
      (sym (slice_get_past table.entries index past)) reports

  pub callee_there : (table : Option Table) (func : Option ℕ) (c : Tables) (u : S)
      → slice_get (entries_of_table table) index ≡ Some func
      → ReportsTables has_taken n a s (ReachesEntry index (length (entries_of_table table)) ∷ []) b t
      → ReportsTables has_taken n b t (ReadsEntry index func ∷ []) c u
      → ReportsTables has_taken n a s (on table (entry_observations index)) c u
  callee_there None func c u h reach reads = absurd (nothing h)
    where
      nothing : slice_get [] index ≡ Some func → ⊥
      nothing e = cc
  callee_there (Some table) func c u h reach reads =
      subst
      (λ o. ReportsTables has_taken n a s
      (ReachesEntry index (length table.entries) ∷ observed.on o (λ func. ReadsEntry index func ∷ []))
      c u)
      (sym h)
      (λ memory.
      reports_then has_taken n
      (record { memory = memory; tables = a; sink = s })
      (record { memory = memory; tables = b; sink = t })
      (record { memory = memory; tables = c; sink = u })
      (ReachesEntry index (length table.entries))
      (ReadsEntry index func ∷ []) (reach memory) (reads memory))

-- ---- entries that exist

pub not_none : (entries : List (Option ℕ)) (index : ℕ) → index < length entries → slice_get entries index ≡ None → ⊥
not_none entries index below none = apart (slice_get-get_or entries index None below)
  where
    apart : slice_get entries index ≡ Some (slice_index_or entries index None) → ⊥
    apart e = cc

pub entry_is : (table : Option Table) (index : ℕ) (func : Option ℕ)
    → slice_get (entries_of_table table) index ≡ Some func → entry_of table index ≡ func
entry_is None index func h = nothing h
  where
    nothing : slice_get [] index ≡ Some func → None ≡ func
    nothing e = cc
entry_is (Some table) index func h = ap option_flatten h
