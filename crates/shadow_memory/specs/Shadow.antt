-- What is known of a memory: its bytes and its size; and what was known when it was frozen.
use Rattle.std.specs.Prelude.{◌≡◌, ℕ, ◌+◌, ◌-◌, ◌*◌, ◌<◌, ◌⊎◌, List, [], length, Option, None, cond, nat_le, slice_get, slice_index, unwrap_or}
use Rattle.page_arena.specs.declared.TheConstants.{PAGE_LENGTH}

-- the bytes from address 0 on, with zeros after them, and the number of pages, that were known at some moment
pub record FrozenBytes : Type 0 where
  pub bytes : List ℕ
  pub pages : ℕ

-- the known bytes from address 0 on, with zeros after them; the number of known pages; the number of noticed
-- pages; what was frozen last, which is nothing before the first time
pub record Shadow : Type 0 where
  pub bytes : List ℕ
  pub known : ℕ
  pub noticed : ℕ
  pub frozen : FrozenBytes

-- the known bytes and the number of known pages
abbrev pub to_freeze : Shadow → FrozenBytes
to_freeze shadow = record { bytes = shadow.bytes; pages = shadow.known }

-- a block has all bytes of a place, which is as long as a page; it may be empty if they are all zeros
pub record IsBlock (bytes : List ℕ) (place : ℕ) (block : List ℕ) : Type 0 where
  pub size : (block ≡ []) ⊎ (length block ≡ PAGE_LENGTH)
  pub byte : (k : ℕ) → k < PAGE_LENGTH → slice_index block k ≡ slice_index bytes (place * PAGE_LENGTH + k)

-- the byte that is known at an address
abbrev pub known_byte : Shadow → ℕ → ℕ
known_byte shadow at = slice_index shadow.bytes at

-- the byte at an address, in a list of bytes that begins at another address
abbrev pub byte_among : (address : ℕ) → List ℕ → (at : ℕ) → Option ℕ
byte_among address bytes at = cond (nat_le address at) (slice_get bytes (at - address)) None

-- bytes after others were written from an address on
abbrev pub AreWritten : (before : List ℕ) (address : ℕ) (bytes after : List ℕ) → Type 0
AreWritten before address bytes after =
    (at : ℕ) → slice_index after at ≡ unwrap_or (byte_among address bytes at) (slice_index before at)

-- the same byte is known at each address
abbrev pub AreSame : (before after : List ℕ) → Type 0
AreSame before after = (at : ℕ) → slice_index after at ≡ slice_index before at

-- what a memory that was never frozen shows as frozen: no pages, and zeros everywhere
pub record HasFrozenNothing (shadow : Shadow) : Type 0 where
  pub pages : shadow.frozen.pages ≡ 0
  pub byte : (at : ℕ) → slice_index shadow.frozen.bytes at ≡ 0

-- bytes were taken from an address on, and nothing else has changed
pub record HasTaken (before : Shadow) (address : ℕ) (bytes : List ℕ) (after : Shadow) : Type 0 where
  pub byte : AreWritten before.bytes address bytes after.bytes
  pub known : after.known ≡ before.known
  pub noticed : after.noticed ≡ before.noticed
  pub frozen : after.frozen ≡ before.frozen

-- neither the known bytes nor the numbers of pages nor what was frozen have changed
pub record IsUnchanged (before after : Shadow) : Type 0 where
  pub byte : AreSame before.bytes after.bytes
  pub known : after.known ≡ before.known
  pub noticed : after.noticed ≡ before.noticed
  pub frozen : after.frozen ≡ before.frozen
