-- Runs of bytes that are all the known ones, or all different.
use Rattle.std.specs.Prelude.{◌≡◌, ℕ, ◌+◌, ◌<◌, ◌≤◌, ◌==◌, List, length, Option, Some, None, Bool, true, false, not, slice_index}
use Rattle.shadow_memory.specs.declared.runs.Difference.{Difference}

-- whether the byte at a place of a run, which begins at an address, is the known one
abbrev pub is_known : (known : List ℕ) (address : ℕ) (bytes : List ℕ) (k : ℕ) → Bool
is_known known address bytes k = slice_index known (address + k) == slice_index bytes k

-- whether two lists have the same byte at a place
abbrev pub is_alike : (known bytes : List ℕ) (k : ℕ) → Bool
is_alike known bytes k = slice_index known k == slice_index bytes k

-- `count` is the number of places, from the first on and up to `total`, whose test has this answer
pub record IsLeadingCount (test : ℕ → Bool) (answer : Bool) (total count : ℕ) : Type 0 where
  pub within : count ≤ total
  pub alike : (k : ℕ) → k < count → test k ≡ answer
  pub ended : count < total → test count ≡ not answer

-- all bytes are the known ones
abbrev pub AreKnown : (known : List ℕ) (address : ℕ) (bytes : List ℕ) → Type 0
AreKnown known address bytes = (k : ℕ) → k < length bytes → is_known known address bytes k ≡ true

-- the first run of bytes that are not the known ones; it is as long as possible
pub record IsFirstDifference (known : List ℕ) (address : ℕ) (bytes : List ℕ) (found : Difference) : Type 0 where
  pub some : found.start < found.«end»
  pub within : found.«end» ≤ length bytes
  pub before : (k : ℕ) → k < found.start → is_known known address bytes k ≡ true
  pub differ : (k : ℕ) → found.start ≤ k → k < found.«end» → is_known known address bytes k ≡ false
  pub ended : found.«end» < length bytes → is_known known address bytes found.«end» ≡ true

-- the result of a comparison with the known bytes: `None` if all are known, or the first run of others
abbrev pub IsComparison : (known : List ℕ) (address : ℕ) (bytes : List ℕ) → Option Difference → Type 0
IsComparison known address bytes None = AreKnown known address bytes
IsComparison known address bytes (Some found) = IsFirstDifference known address bytes found

-- the number of bytes that were compared: all, or those up to the end of the first difference
abbrev pub compared : List ℕ → Option Difference → ℕ
compared bytes None = length bytes
compared bytes (Some found) = found.«end»
