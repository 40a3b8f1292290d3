-- Encoding a module and decoding it again (Core 1.0, 5).
use Rattle.std.specs.Prelude.{◌≡◌, ℕ, ◌<◌, ◌^◌, List, length, Some}
use Rattle.wasm_syntax.specs.declared.forms.Form.{Form}
use Rattle.wasm_syntax.specs.declared.modules.Module.{Module}
use Rattle.wasm_syntax.specs.Encoding.Encodable.{IsEncodable}
use Rattle.wasm_syntax.specs.Encoding.Modules.{Encodes}
use Rattle.wasm_syntax.specs.Encoding.ReadModules.{read_module}
use Rattle.wasm_syntax.specs.Encoding.Shortest.{encoding_of}

-- the bytes encode this module in the form, and no other
abbrev pub EncodesJust : Form → List ℕ → Module → Type 0
EncodesJust form bytes m = Encodes form bytes m × ((n : Module) → Encodes form bytes n → n ≡ m)

-- the shortest encoding of the module is one of it alone, and the plain program reads it back
abbrev pub IsRoundTrip : Form → Module → Type 0
IsRoundTrip form m = EncodesJust form (encoding_of m) m × (read_module form (encoding_of m) ≡ Some m)

-- each module that is encoded makes the round trip, and so does each encodable one of fewer than 2^32 bytes
abbrev pub EncodedRoundTrips : Type 0
EncodedRoundTrips = (form : Form) (bytes : List ℕ) (m : Module) → Encodes form bytes m → IsRoundTrip form m

-- if the shortest encoding of an encodable module has fewer than 2^32 bytes, it encodes this module alone and is
-- decoded to it
abbrev pub EncodableRoundTrips : Type 0
EncodableRoundTrips =
    (form : Form) (m : Module) → IsEncodable form m → length (encoding_of m) < 2 ^ 32 → IsRoundTrip form m

-- modules that make it have shortest encodings that differ
abbrev pub DistinctEncodings : Type 0
DistinctEncodings =
    (form : Form) (m n : Module) → IsRoundTrip form m → IsRoundTrip form n → encoding_of m ≡ encoding_of n → m ≡ n
