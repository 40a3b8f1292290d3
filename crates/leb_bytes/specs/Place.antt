-- Where in a list of bytes something is encoded.
use Rattle.std.specs.Prelude.{◌≡◌, ℕ, ◌<◌, ◌≤◌, List, length, drop, slice_range, Option, Some, None, Result, Ok, IfOk, OnErr, MatchResult}

-- the bytes from `at` up to the place `next` encode a value
pub record IsEncodedAt {A : Type 0} (Encodes : List ℕ → A → Type 0) (bytes : List ℕ) (at next : ℕ) (value : A)
    : Type 0 where
  pub begins : at < next
  pub ends : next ≤ length bytes
  pub encodes : Encodes (slice_range bytes at next) value

-- The result of reading at a place: the value that is encoded there, with the place after it, or that no value is.
-- `first` reads the front of the bytes from the place on.
pub record IsReadFrom {A E : Type 0} (Encodes : List ℕ → A → Type 0) (first : List ℕ → Option (A × List ℕ))
    (bytes : List ℕ) (at : ℕ) (result : Result (A × ℕ) E) : Type 0 where
  pub found : IfOk result (λ read. IsEncodedAt Encodes bytes at read.1 read.0)
  pub only : (next : ℕ) (value : A) → IsEncodedAt Encodes bytes at next value → result ≡ Ok (value, next)
  pub bad : OnErr result ((next : ℕ) (value : A) → IsEncodedAt Encodes bytes at next value → ⊥)
  pub front : MatchResult result
      (λ read. first (drop at bytes) ≡ Some (read.0, drop read.1 bytes))
      (λ _. first (drop at bytes) ≡ None)
