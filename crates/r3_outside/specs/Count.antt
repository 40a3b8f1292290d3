-- Counts that 64 bits keep: of the faults of files and of sinks, and of the bytes taken from files.
use Rattle.std.specs.Prelude.{ℕ, ◌+◌, ◌-◌, ◌^◌, ◌≤◌, List, min}

-- the count rose between two moments, or is the greatest number of 64 bits
abbrev pub Rose : ℕ → ℕ → Type 0
Rose before now = min (before + 1) (2 ^ 64 - 1) ≤ now

-- at least this number of bytes was taken between two moments, or the count is the greatest number of 64 bits
abbrev pub Took : ℕ → ℕ → ℕ → Type 0
Took before now bytes = min (before + bytes) (2 ^ 64 - 1) ≤ now

-- the count that stays at the greatest number of 64 bits once it is there
abbrev pub saturating_add : ℕ → ℕ → ℕ
saturating_add before more = min (before + more) (2 ^ 64 - 1)

-- no name's count fell between two moments
abbrev pub NoneFell : (before now : List ℕ → ℕ) → Type 0
NoneFell before now = (name : List ℕ) → before name ≤ now name
