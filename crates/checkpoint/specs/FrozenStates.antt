-- The known state of what was frozen.
use Rattle.std.specs.Prelude.{ℕ, ◌*◌, List, Option, length, map, slice_index}
use Rattle.std.specs.List.{range_with_len}
use Rattle.wasm_syntax.specs.declared.limits.TheConstants.{PAGE_SIZE}
use Rattle.rest_spec.specs.KnownStates.{KnownState}
use Rattle.recorder.specs.FrozenViews.{FrozenView, original_entry}

-- the known bytes below an address; they are zero where none were frozen
abbrev pub frozen_bytes : (address : ℕ) → FrozenView → List ℕ
frozen_bytes address frozen = map (slice_index frozen.bytes) (range_with_len 0 address)

-- the known entries below an index, with the functions of the original
abbrev pub frozen_entries : (index : ℕ) → FrozenView → List (Option ℕ)
frozen_entries index frozen = map (original_entry frozen) (range_with_len 0 index)

-- the known state of what was frozen
abbrev pub state_of_frozen : FrozenView → KnownState
state_of_frozen frozen =
    record {
      bytes = frozen_bytes (frozen.pages * PAGE_SIZE) frozen;
      entries = frozen_entries (length frozen.entries) frozen;
      globals = frozen.globals;
    }
