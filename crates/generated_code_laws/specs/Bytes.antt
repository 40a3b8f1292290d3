-- Laws on the bytes that stores write.
use Rattle.std.specs.Prelude.{◌≡◌, ℕ, ◌<◌, List, length, All}
use Rattle.history_spec.specs.Store.{number_of, bytes_of}

-- all are bytes
abbrev pub AreBytes : List ℕ → Type 0
AreBytes bytes = All (λ byte. byte < 256) bytes

-- bytes are the lowest bytes of the number that they represent
abbrev pub NumbersHoldBytes : Type 0
NumbersHoldBytes = (bytes : List ℕ) → AreBytes bytes → bytes_of (length bytes) (number_of bytes) ≡ bytes
