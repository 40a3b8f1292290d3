-- Entries of a table that exist, and indices past its end.
use Rattle.std.proofs.Common.{◌≡◌, ℕ, ◌≤◌, length, Option, Some, None, slice_get, refl, sym, ap, ◌∙◌}
use Rattle.std.specs.Option.{option_flatten}
use Rattle.std.proofs.lemmas.Option.{slice_get_past}
use Rattle.history_spec.specs.Store.{Store, Table}
use Rattle.wasm_store.specs.Calls.{entries_of_table, entries_in, entry_at}
use Rattle.record_replay_spec.specs.Known.{entry_of}

entry_is : (table : Option Table) (at : ℕ) → option_flatten (slice_get (entries_of_table table) at) ≡ entry_of table at
entry_is None at = refl
entry_is (Some table) at = refl

pub entry_past : (store : Store) (at : ℕ) → length (entries_in store) ≤ at → None ≡ entry_of store.table at
entry_past store at past =
    ap option_flatten (sym (slice_get_past (entries_in store) at past)) ∙ entry_is store.table at

pub entry_there : (store : Store) (at : ℕ) → option_flatten (entry_at store at) ≡ entry_of store.table at
entry_there store at = entry_is store.table at
