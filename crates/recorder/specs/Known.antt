-- What a recorder knows of a store, what its sink has taken, and how observations change both.
use Rattle.std.specs.Prelude.{◌≡◌, ℕ, List, length, map, None, slice_get, slice_index, slice_index_or}
use Rattle.wasm_syntax.specs.declared.values.Val.{Val}
use Rattle.wasm_syntax.specs.declared.signatures.GlobalType.{GlobalType}
use Rattle.trace_model.specs.declared.events.Event.{Event}
use Rattle.trace_model.specs.Sink.{TookAlso}
use Rattle.record_replay_spec.specs.Observations.{Observation}
use Rattle.record_replay_spec.specs.Logs.{LogState, all_observed_events, log_after_all}
use Rattle.shadow_memory.specs.Shadow.{Shadow}
use Rattle.shadow_tables.specs.Tables.{Tables}

-- known globals have their types
abbrev pub HaveTypes : List GlobalType → List Val → Type 0
HaveTypes types values = map (λ value. value.ty) values ≡ map (λ ty. ty.ty) types

-- shadows agree with the log's state: each known byte, entry and global, the sizes, and the memory size noticed
-- last
pub record Show (memory : Shadow) (tables : Tables) (state : LogState) : Type 0 where
  pub byte : (at : ℕ) → state.known.byte at ≡ slice_index memory.bytes at
  pub entry : (at : ℕ) → state.known.entry at ≡ slice_index_or tables.entries at None
  pub global : (at : ℕ) → state.known.global at ≡ slice_get tables.globals at
  pub pages : state.known.pages ≡ memory.known
  pub entries : state.known.entries ≡ length tables.entries
  pub noticed : state.noticed ≡ memory.noticed

-- the shadows of a recorder, and a sink of events
pub record Keeper (S : Type 0) : Type 0 where
  pub memory : Shadow
  pub tables : Tables
  pub sink : S

-- these observations lead from any state that a keeper shows to the state that it shows after, and its sink took
-- their events
abbrev pub Reports : {S : Type 0} → (has_taken : S → S → List Event → Type 0) → (n : ℕ) → Keeper S → List Observation
    → Keeper S → Type 0
Reports has_taken n before seen after =
    (state : LogState) → Show before.memory before.tables state
    → Show after.memory after.tables (log_after_all state seen)
    × TookAlso has_taken before.sink after.sink (all_observed_events n state seen)

-- observations of the memory lead from one keeper to the next, whatever is known of the table and of globals
abbrev pub ReportsMemory : {S : Type 0} → (has_taken : S → S → List Event → Type 0) → (before : Shadow) → S
    → List Observation → (after : Shadow) → S → Type 0
ReportsMemory has_taken before sink seen after sink' =
    (n : ℕ) (tables : Tables)
    → Reports has_taken n (record { memory = before; tables = tables; sink = sink }) seen
    (record { memory = after; tables = tables; sink = sink' })

-- observations of the table or of globals lead from one keeper to the next, whatever is known of the memory
abbrev pub ReportsTables : {S : Type 0} → (has_taken : S → S → List Event → Type 0) → (n : ℕ) → (before : Tables) → S
    → List Observation → (after : Tables) → S → Type 0
ReportsTables has_taken n before sink seen after sink' =
    (memory : Shadow)
    → Reports has_taken n (record { memory = memory; tables = before; sink = sink }) seen
    (record { memory = memory; tables = after; sink = sink' })
