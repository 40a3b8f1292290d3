-- A known state, as finite lists.
use Rattle.std.specs.Prelude.{ℕ, ◌*◌, List, Option, map, unwrap_or}
use Rattle.std.specs.List.{range_with_len}
use Rattle.wasm_syntax.specs.declared.limits.TheConstants.{PAGE_SIZE}
use Rattle.wasm_syntax.specs.declared.values.Val.{Val}
use Rattle.history_spec.specs.Code.{i32_value}
use Rattle.record_replay_spec.specs.Known.{Known}

-- what is known of memory, table and globals below their known sizes, from address and index 0 on
pub record KnownState : Type 0 where
  pub bytes : List ℕ
  pub entries : List (Option ℕ)
  pub globals : List Val

-- the known bytes below an address
abbrev pub bytes_below : (address : ℕ) → Known → List ℕ
bytes_below address known = map known.byte (range_with_len 0 address)

-- the known entries below an index
abbrev pub entries_below : (index : ℕ) → Known → List (Option ℕ)
entries_below index known = map known.entry (range_with_len 0 index)

-- the known values of the globals below an index; each of them has one in a run
abbrev pub globals_below : (index : ℕ) → Known → List Val
globals_below index known = map (λ at. unwrap_or (known.global at) (i32_value 0)) (range_with_len 0 index)

-- the known state of a module with this number of globals
abbrev pub state_of_known : (globals : ℕ) → Known → KnownState
state_of_known globals known =
    record {
      bytes = bytes_below (known.pages * PAGE_SIZE) known;
      entries = entries_below known.entries known;
      globals = globals_below globals known;
    }
