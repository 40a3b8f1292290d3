-- Bytes by address, in groups.
use Rattle.std.specs.Prelude.{◌≡◌, ℕ, ◌+◌, ◌*◌, ◌/◌, ◌%◌, ◌≤◌, ◌<◌, List, [], ◌∷◌, ◌++◌, length, take, Option, Some, None, cond, nat_eq, slice_get}
use Rattle.std.specs.Option.{option_flatten, option_or}
use Rattle.record_replay_spec.specs.Known.{byte_among}
use Rattle.trace_reduce.specs.declared.byte_groups.TheConstants.{GROUP}

-- the byte at a place of a group
abbrev pub slot_at : List (Option ℕ) → (place : ℕ) → Option ℕ
slot_at slots place = option_flatten (slice_get slots place)

-- the byte that a group has at an address
abbrev pub group_byte : ℕ × List (Option ℕ) → (at : ℕ) → Option ℕ
group_byte group at = cond (nat_eq group.0 (at / GROUP)) (slot_at group.1 (at % GROUP)) None

-- the byte at an address, of the first group that has one
abbrev pub byte_at : List (ℕ × List (Option ℕ)) → (at : ℕ) → Option ℕ
byte_at [] at = None
byte_at (group ∷ groups) at = option_or (group_byte group at) (byte_at groups at)

-- some first bytes are taken after the bytes found before, and fewer bytes are left
pub record TakesFront (old : List (ℕ × List (Option ℕ))) (at : ℕ) (bytes : List ℕ)
    (new : List (ℕ × List (Option ℕ))) (later : List ℕ) : Type 0 where
  pub front : List ℕ
  pub parts : bytes ≡ front ++ later
  pub fewer : 0 < length bytes → length later < length bytes
  pub byte : (q : ℕ) → byte_at new q ≡ option_or (byte_at old q) (byte_among at front q)

-- the numbers of groups do not decrease, and are at least `low`
abbrev pub AreInOrder : (low : ℕ) → List (ℕ × List (Option ℕ)) → Type 0
AreInOrder low [] = Unit {0}
AreInOrder low (group ∷ groups) = (low ≤ group.0) × AreInOrder group.0 groups

-- at each place of a group the first byte that one of two groups has
abbrev pub both_slots : (slots others : List (Option ℕ)) → List (Option ℕ)
both_slots slots others =
    option_or (slot_at slots 0) (slot_at others 0)
    ∷ option_or (slot_at slots 1) (slot_at others 1)
    ∷ option_or (slot_at slots 2) (slot_at others 2)
    ∷ option_or (slot_at slots 3) (slot_at others 3)
    ∷ []

-- a group and the groups after it, with neighbours of the same number merged
abbrev pub merged_from : ℕ × List (Option ℕ) → List (ℕ × List (Option ℕ)) → List (ℕ × List (Option ℕ))
merged_from group [] = group ∷ []
merged_from group (next ∷ later) =
    cond (nat_eq group.0 next.0) (merged_from (group.0, both_slots group.1 next.1) later)
    (group ∷ merged_from next later)

-- groups, with neighbours of the same number merged
abbrev pub merged_groups : List (ℕ × List (Option ℕ)) → List (ℕ × List (Option ℕ))
merged_groups [] = []
merged_groups (group ∷ groups) = merged_from group groups

-- the bytes of slots for the addresses from `start` on
abbrev pub slot_bytes : (start : ℕ) → List (Option ℕ) → List (ℕ × ℕ)
slot_bytes start [] = []
slot_bytes start (None ∷ slots) = slot_bytes (start + 1) slots
slot_bytes start (Some byte ∷ slots) = (start, byte) ∷ slot_bytes (start + 1) slots

-- the bytes of groups, by ascending addresses
abbrev pub bytes_of : List (ℕ × List (Option ℕ)) → List (ℕ × ℕ)
bytes_of [] = []
bytes_of (group ∷ groups) = slot_bytes (group.0 * GROUP) (take GROUP group.1) ++ bytes_of groups
