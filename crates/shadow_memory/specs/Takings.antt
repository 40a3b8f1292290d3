-- A shadow as a finite map of the bytes taken, over the opening.
use Rattle.std.specs.Prelude.{◌≡◌, ℕ, List, [], ◌∷◌, Option, None, slice_index, unwrap_or}
use Rattle.std.specs.Option.{option_or}
use Rattle.history_spec.specs.Store.{Store}
use Rattle.wasm_store.specs.Calls.{bytes_in}
use Rattle.shadow_memory.specs.Shadow.{Shadow, byte_among, known_byte, HasTaken}
use Rattle.shadow_memory.specs.Opening.{IsOpening}

-- the byte taken last at an address, if runs were taken one after another, each from an address on
abbrev pub taken_byte : List (ℕ × List ℕ) → (at : ℕ) → Option ℕ
taken_byte [] at = None
taken_byte (run ∷ later) at = option_or (taken_byte later at) (byte_among run.0 run.1 at)

-- a shadow after runs were taken one after another
abbrev pub IsAfter : Shadow → List (ℕ × List ℕ) → Shadow → Type 0
IsAfter before [] after = before ≡ after
IsAfter before (run ∷ later) after = (next : Shadow) × (HasTaken before run.0 run.1 next × IsAfter next later after)

-- the known byte at each address is the one taken last there, or that of the opening, which is 0 past its memory
abbrev pub TakingsAreAMap : Type 0
TakingsAreAMap =
    (store : Store) (opening after : Shadow) (runs : List (ℕ × List ℕ)) → IsOpening store opening
    → IsAfter opening runs after → (at : ℕ)
    → known_byte after at ≡ unwrap_or (taken_byte runs at) (slice_index (bytes_in store) at)
