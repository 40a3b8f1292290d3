-- What a keeper reports and what shadows show, after observations one after another.
use Rattle.std.proofs.Common.{◌≡◌, ℕ, List, [], ◌∷◌, ◌++◌, length, Option, None, slice_get, slice_index, slice_index_or, ap}
use Rattle.std.proofs.lemmas.List.{append-nil}
use Rattle.wasm_syntax.specs.declared.values.Val.{Val}
use Rattle.trace_model.specs.declared.events.Event.{Event}
use Rattle.trace_model.proofs.SinkLemmas.{took_none, took_both, took_same}
use Rattle.record_replay_spec.specs.Observations.{Observation}
use Rattle.record_replay_spec.specs.Logs.{LogState, observed_events, all_observed_events, log_after}
use Rattle.shadow_memory.specs.Shadow.{Shadow}
use Rattle.shadow_tables.specs.Tables.{Tables}
use Rattle.recorder.specs.Known.{Keeper, Show, Reports}

module _ {S : Type 0} (has_taken : S → S → List Event → Type 0) (n : ℕ) where
  -- nothing is observed
  pub reports_none : (keeper : Keeper S) → Reports has_taken n keeper [] keeper
  reports_none keeper state shows = (shows, took_none has_taken keeper.sink)

  -- one observation, and others then
  pub reports_then : (a b c : Keeper S) (o : Observation) (later : List Observation)
      → Reports has_taken n a (o ∷ []) b → Reports has_taken n b later c → Reports has_taken n a (o ∷ later) c
  reports_then a b c o later f g state shows =
      let first = f state shows in
      let rest = g (log_after state o) first.0 in
      let joined =
      took_both has_taken a.sink b.sink c.sink (observed_events n state o ++ [])
      (all_observed_events n (log_after state o) later) first.1 rest.1
      in (
        rest.0,
        took_same has_taken a.sink c.sink _ _
            (ap (λ events. events ++ all_observed_events n (log_after state o) later)
            (append-nil (observed_events n state o)))
            joined,
      )

-- shadows show a state by its parts
pub show_by : {memory : Shadow} {tables : Tables} {state : LogState}
    → ((at : ℕ) → state.known.byte at ≡ slice_index memory.bytes at)
    → ((at : ℕ) → state.known.entry at ≡ slice_index_or tables.entries at None)
    → ((at : ℕ) → state.known.global at ≡ slice_get tables.globals at) → state.known.pages ≡ memory.known
    → state.known.entries ≡ length tables.entries → state.noticed ≡ memory.noticed → Show memory tables state
show_by bytes each_entry globals size entries seen =
    record { byte = bytes; entry = each_entry; global = globals; pages = size; entries = entries; noticed = seen }

-- other sizes are known, and another one was noticed
pub resized : {memory : Shadow} {tables : Tables} {state : LogState} → Show memory tables state
    → (pages noticed known found : ℕ) → pages ≡ known → noticed ≡ found
    → Show (record memory { known = known; noticed = found }) tables
    (record { known = record state.known { pages = pages }; noticed = noticed })
resized shows pages noticed known found same_pages same_noticed =
    show_by shows.byte shows.entry shows.global same_pages shows.entries same_noticed

-- other entries are known
pub with_entries : {memory : Shadow} {tables : Tables} {state : LogState} → Show memory tables state
    → (entry : ℕ → Option ℕ) (size : ℕ) (entries : List (Option ℕ))
    → ((at : ℕ) → entry at ≡ slice_index_or entries at None) → size ≡ length entries
    → Show memory (record tables { entries = entries })
    (record state { known = record state.known { entry = entry; entries = size } })
with_entries shows entry size entries same same_size =
    show_by shows.byte same shows.global shows.pages same_size shows.noticed

-- other globals
pub with_globals : {memory : Shadow} {tables : Tables} {state : LogState} → Show memory tables state
    → (global : ℕ → Option Val) (globals : List Val) → ((at : ℕ) → global at ≡ slice_get globals at)
    → Show memory (record tables { globals = globals })
    (record state { known = record state.known { global = global } })
with_globals shows global globals same =
    show_by shows.byte shows.entry same shows.pages shows.entries shows.noticed
