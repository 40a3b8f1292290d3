-- The events that hooks report of one observation find exactly what that observation needs.
use Rattle.std.proofs.Common.{◌≡◌, ℕ, ◌*◌, List, [], ◌∷◌, ◌++◌, Option, Some, None, Bool, true, false, cond, nat_eq, nat_le, nat_lt, refl, sym, ap, ◌∙◌, subst}
use Rattle.std.specs.Prelude.{option_map}
use Rattle.std.proofs.lemmas.List.{append-nil}
use Rattle.base.proofs.Options.{or_none}
use Rattle.wasm_syntax.specs.declared.limits.TheConstants.{PAGE_SIZE}
use Rattle.wasm_syntax.specs.declared.values.Val.{Val}
use Rattle.trace_model.specs.declared.events.Event.TheVariants.{Seen, Table, Entry}
use Rattle.record_replay_spec.specs.Observations.{Reads, Copies, Writes, Reaches, Resizes, ReadsEntry, ReachesEntry, WritesGlobal}
use Rattle.record_replay_spec.specs.Known.{Known, byte_among}
use Rattle.record_replay_spec.specs.Alike.{same_option}
use Rattle.record_replay_spec.specs.Needed.{needed, effect_entry, effect_global, effect_pages, effect_entries, effect_byte}
use Rattle.record_replay_spec.specs.Hooks.{renumber, original}
use Rattle.record_replay_spec.specs.Logs.{LogState, differing_runs, unless, all_observed_events}
use Rattle.tape_laws.proofs.Agrees.{AreFindsOf}
use Rattle.tape_laws.proofs.FirstBytes.{finds_of, first_differing}
use Rattle.tape_laws.proofs.ObservedFinds.{IsReportedKnown, IsNoticed, none_differing, found_size, found_entries_number, same_reported_entry, original_entry, none_reported, reported_place}

module _ (n size : ℕ) (known : Known) (state : LogState) (reported : IsReportedKnown n known state.known) where
  -- bytes that are read, by a load or as the source of a copy
  bytes_found : (address : ℕ) (bytes : List ℕ)
      → AreFindsOf known (Reads address bytes) (finds_of size (differing_runs state.known.byte address bytes))
  bytes_found address bytes =
      record {
        pages = none_differing size effect_pages (λ a bs. refl) state.known.byte address bytes;
        entries = none_differing size effect_entries (λ a bs. refl) state.known.byte address bytes;
        byte = λ at. first_differing size state.known.byte address bytes at
            ∙ ap (λ k. needed nat_eq k (byte_among address bytes at)) (reported.byte at);
        entry = λ at. none_differing size (effect_entry at) (λ a bs. refl) state.known.byte address bytes;
        global = λ at. none_differing size (effect_global at) (λ a bs. refl) state.known.byte address bytes;
      }

  pub reads_found : (address : ℕ) (bytes : List ℕ)
      → AreFindsOf known (Reads address bytes) (finds_of size (all_observed_events n state (Reads address bytes ∷ [])))
  reads_found address bytes =
      subst (λ events. AreFindsOf known (Reads address bytes) (finds_of size events))
      (sym (append-nil (differing_runs state.known.byte address bytes))) (bytes_found address bytes)

  pub copies_found : (address : ℕ) (bytes : List ℕ)
      → AreFindsOf known (Copies address bytes)
      (finds_of size (all_observed_events n state (Copies address bytes ∷ [])))
  copies_found address bytes =
      let f = bytes_found address bytes in
      subst (λ events. AreFindsOf known (Copies address bytes) (finds_of size events))
      (sym (append-nil (differing_runs state.known.byte address bytes)))
      (record { pages = f.pages; entries = f.entries; byte = f.byte; entry = f.entry; global = f.global })

  -- an access of the memory, which may see the size
  pub reaches_found : («end» found : ℕ) → IsNoticed state.noticed size known.pages found
      → AreFindsOf known (Reaches «end» found)
      (finds_of size (all_observed_events n state (Reaches «end» found ∷ [])))
  reaches_found «end» found noticed =
      subst
      (λ pages. AreFindsOf known (Reaches «end» found)
      (finds_of size
      ((cond (cond (nat_le «end» (pages * PAGE_SIZE)) false true) (unless (nat_eq pages state.noticed) Seen) [] ++ [])
      ++ [])))
      (sym reported.pages)
      (go (nat_le «end» (known.pages * PAGE_SIZE)) refl)
    where
      seen : Bool
      seen = nat_eq known.pages state.noticed

      go : (b : Bool) → nat_le «end» (known.pages * PAGE_SIZE) ≡ b
          → AreFindsOf known (Reaches «end» found)
          (finds_of size ((cond (cond b false true) (unless seen Seen) [] ++ []) ++ []))
      go true p =
          record {
            pages = sym (ap (λ b. cond b None (needed nat_eq known.pages (Some found))) p);
            entries = refl;
            byte = λ at. refl;
            entry = λ at. refl;
            global = λ at. refl;
          }
      go false p =
          subst (λ events. AreFindsOf known (Reaches «end» found) (finds_of size events))
          (sym (append-nil (unless seen Seen ++ []) ∙ append-nil (unless seen Seen)))
          (record {
            pages = found_size known.pages found state.noticed size noticed
                ∙ sym (ap (λ b. cond b None (needed nat_eq known.pages (Some found))) p);
            entries = none_reported size effect_entries Seen refl seen;
            byte = λ at. none_reported size (effect_byte at) Seen refl seen;
            entry = λ at. none_reported size (effect_entry at) Seen refl seen;
            global = λ at. none_reported size (effect_global at) Seen refl seen;
          })

  pub resizes_found : (found left : ℕ) → IsNoticed state.noticed size known.pages found
      → AreFindsOf known (Resizes found left)
      (finds_of size (all_observed_events n state (Resizes found left ∷ [])))
  resizes_found found left noticed =
      subst
      (λ pages. AreFindsOf known (Resizes found left)
      (finds_of size ((unless (nat_eq pages state.noticed) Seen ++ []) ++ [])))
      (sym reported.pages)
      (subst (λ events. AreFindsOf known (Resizes found left) (finds_of size events))
      (sym (append-nil (unless seen Seen ++ []) ∙ append-nil (unless seen Seen)))
      (record {
        pages = found_size known.pages found state.noticed size noticed;
        entries = none_reported size effect_entries Seen refl seen;
        byte = λ at. none_reported size (effect_byte at) Seen refl seen;
        entry = λ at. none_reported size (effect_entry at) Seen refl seen;
        global = λ at. none_reported size (effect_global at) Seen refl seen;
      }))
    where
      seen : Bool
      seen = nat_eq known.pages state.noticed

  -- an access of the table
  pub reaches_entry_found : (index found : ℕ)
      → AreFindsOf known (ReachesEntry index found)
      (finds_of size (all_observed_events n state (ReachesEntry index found ∷ [])))
  reaches_entry_found index found =
      subst
      (λ entries. AreFindsOf known (ReachesEntry index found)
      (finds_of size (cond (nat_lt index entries) [] (unless (nat_eq found entries) (Table found)) ++ [])))
      (sym reported.entries)
      (go (nat_lt index known.entries) refl)
    where
      same : Bool
      same = nat_eq found known.entries

      go : (b : Bool) → nat_lt index known.entries ≡ b
          → AreFindsOf known (ReachesEntry index found)
          (finds_of size (cond b [] (unless same (Table found)) ++ []))
      go true p =
          record {
            pages = refl;
            entries = sym (ap (λ b. cond b None (needed nat_eq known.entries (Some found))) p);
            byte = λ at. refl;
            entry = λ at. refl;
            global = λ at. refl;
          }
      go false p =
          subst (λ events. AreFindsOf known (ReachesEntry index found) (finds_of size events))
          (sym (append-nil (unless same (Table found))))
          (record {
            pages = none_reported size effect_pages (Table found) refl same;
            entries = found_entries_number known.entries found size
                ∙ sym (ap (λ b. cond b None (needed nat_eq known.entries (Some found))) p);
            byte = λ at. none_reported size (effect_byte at) (Table found) refl same;
            entry = λ at. none_reported size (effect_entry at) (Table found) refl same;
            global = λ at. none_reported size (effect_global at) (Table found) refl same;
          })

  -- a write
  pub writes_found : (address : ℕ) (bytes : List ℕ)
      → AreFindsOf known (Writes address bytes)
      (finds_of size (all_observed_events n state (Writes address bytes ∷ [])))
  writes_found address bytes =
      record { pages = refl; entries = refl; byte = λ at. refl; entry = λ at. refl; global = λ at. refl }

  pub writes_global_found : (global : ℕ) (value : Val)
      → AreFindsOf known (WritesGlobal global value)
      (finds_of size (all_observed_events n state (WritesGlobal global value ∷ [])))
  writes_global_found global value =
      record { pages = refl; entries = refl; byte = λ at. refl; entry = λ at. refl; global = λ at. refl }

  -- a read of an entry
  pub entry_found : (index : ℕ) (func : Option ℕ) → ((f : ℕ) → original n (renumber n f) ≡ Some f)
      → AreFindsOf known (ReadsEntry index func)
      (finds_of size (all_observed_events n state (ReadsEntry index (option_map (renumber n) func) ∷ [])))
  entry_found index func back =
      subst
      (λ e. AreFindsOf known (ReadsEntry index func)
      (finds_of size
      (unless (same_option nat_eq (state.known.entry index) (option_map (renumber n) func)) (Entry index e) ++ [])))
      (sym (original_entry n back func))
      (subst
      (λ b. AreFindsOf known (ReadsEntry index func) (finds_of size (unless b (Entry index func) ++ [])))
      (sym
      (ap (λ e. same_option nat_eq e (option_map (renumber n) func)) (reported.entry index)
      ∙ same_reported_entry n (known.entry index) func))
      (subst (λ events. AreFindsOf known (ReadsEntry index func) (finds_of size events))
      (sym (append-nil (unless unreported (Entry index func))))
      (record {
        pages = none_reported size effect_pages (Entry index func) refl unreported;
        entries = none_reported size effect_entries (Entry index func) refl unreported;
        byte = λ at. none_reported size (effect_byte at) (Entry index func) refl unreported;
        entry = reported_place size (same_option nat_eq) known.entry index func effect_entry (Entry index func)
            (λ at. or_none (cond (nat_eq index at) (Some func) None)) unreported refl;
        global = λ at. none_reported size (effect_global at) (Entry index func) refl unreported;
      })))
    where
      unreported : Bool
      unreported = same_option nat_eq (known.entry index) func
