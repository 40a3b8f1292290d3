-- What a window, the steps of the module between two activities of the host, reads and sees first.
use Rattle.std.specs.Prelude.{ℕ, ◌*◌, List, [], ◌∷◌, Option, Some, None, cond, nat_le, nat_lt}
use Rattle.std.specs.Option.{option_or}
use Rattle.wasm_syntax.specs.declared.limits.TheConstants.{PAGE_SIZE}
use Rattle.wasm_syntax.specs.declared.values.Val.{Val}
use Rattle.record_replay_spec.specs.Observations.{Observation, Begins, Reaches, Resizes, ReachesEntry, ResizesTable}
use Rattle.record_replay_spec.specs.Known.{read_byte, written_byte, read_entry, written_entry, read_global, written_global}

-- the window that observations begin with: those before the host's next activity
abbrev pub window : List Observation → List Observation
window [] = []
window (Begins origin ∷ later) = []
window (o ∷ later) = o ∷ window later

-- the second option, if the first is empty
abbrev pub unless_some : {X : Type 0} → Option X → Option X → Option X
unless_some (Some x) other = None
unless_some None other = other

-- the value that a window's first touch reads; empty if that touch writes, or if there is none
abbrev pub first_read : {X : Type 0} → (read written : Observation → Option X) → List Observation → Option X
first_read read written [] = None
first_read read written (o ∷ later) = option_or (read o) (unless_some (written o) (first_read read written later))

-- the byte at an address that a window reads first
abbrev pub first_byte : List Observation → (at : ℕ) → Option ℕ
first_byte window at = first_read (read_byte at) (written_byte at) window

-- the table entry at an index that a window reads first
abbrev pub first_entry : List Observation → (at : ℕ) → Option (Option ℕ)
first_entry window at = first_read (read_entry at) (written_entry at) window

-- the global at an index that a window reads first
abbrev pub first_global : List Observation → (at : ℕ) → Option (Option Val)
first_global window at = first_read (read_global at) (written_global at) window

-- the number of pages that the first observation that sees it finds, else the known one
abbrev pub found_pages : (known : ℕ) → List Observation → ℕ
found_pages known [] = known
found_pages known (Reaches end found ∷ later) =
    cond (nat_le end (known * PAGE_SIZE)) (found_pages known later) found
found_pages known (Resizes found left ∷ later) = found
found_pages known (o ∷ later) = found_pages known later

-- the number of entries that the first observation that sees it finds, else the known one
abbrev pub found_entries : (known : ℕ) → List Observation → ℕ
found_entries known [] = known
found_entries known (ReachesEntry index found ∷ later) = cond (nat_lt index known) (found_entries known later) found
found_entries known (ResizesTable found left func ∷ later) = found
found_entries known (o ∷ later) = found_entries known later
