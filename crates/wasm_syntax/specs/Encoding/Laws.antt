-- The laws of the binary encoding.
use Rattle.std.specs.Prelude.{◌≡◌, ℕ, ◌<◌, ◌≤◌, ◌^◌, List, length, Some}
use Rattle.std.specs.List.{AllByRecursion}
use Rattle.leb_bytes.specs.Encoding.{IsReadBy, IsShortest, IsWithin}
use Rattle.leb_bytes.specs.Unsigned.{EncodesU32, first_u32, u32_bytes}
use Rattle.leb_bytes.specs.Signed.{EncodesI32, EncodesI64, first_i32, first_i64, i32_bytes, i64_bytes}
use Rattle.wasm_syntax.specs.Encoding.Encodable.{IsEncodable}
use Rattle.wasm_syntax.specs.Encoding.Forms.{IsCoreModule, IsOfTableZero}
use Rattle.wasm_syntax.specs.Encoding.Modules.{Encodes, IsFaultPlace}
use Rattle.wasm_syntax.specs.Encoding.ReadModules.{fault_place, read_module}
use Rattle.wasm_syntax.specs.Encoding.Shortest.{encoding_of}
use Rattle.wasm_syntax.specs.declared.forms.Form.{Form}
use Rattle.wasm_syntax.specs.declared.forms.Form.TheVariants.{Core, Replay}
use Rattle.wasm_syntax.specs.declared.modules.Module.{Module}

-- what the encoding of modules requires of that of numbers
pub record NumberLaws : Type 0 where
  pub u32 : IsReadBy EncodesU32 first_u32
  pub i32 : IsReadBy EncodesI32 first_i32
  pub i64 : IsReadBy EncodesI64 first_i64
  pub u32_range : IsWithin EncodesU32 (λ n. n < 2 ^ 32) 5
  pub u32_shortest : IsShortest EncodesU32 (λ n. n < 2 ^ 32) u32_bytes
  pub i32_shortest : IsShortest EncodesI32 (λ bits. bits < 2 ^ 32) i32_bytes
  pub i64_shortest : IsShortest EncodesI64 (λ bits. bits < 2 ^ 64) i64_bytes

-- ---- modules and the bytes that encode them

-- no bytes encode two modules in one form
abbrev pub BytesEncodeOne : Type 0
BytesEncodeOne = (form : Form) (bytes : List ℕ) (m n : Module) → Encodes form bytes m → Encodes form bytes n → m ≡ n

-- `read_module` returns the module that bytes encode in a form
abbrev pub EncodedIsRead : Type 0
EncodedIsRead = (form : Form) (bytes : List ℕ) (m : Module) → Encodes form bytes m → read_module form bytes ≡ Some m

-- if `read_module` returns a module, the bytes encode it in the form
abbrev pub ReadIsEncoded : Type 0
ReadIsEncoded = (form : Form) (bytes : List ℕ) (m : Module) → read_module form bytes ≡ Some m → Encodes form bytes m

-- ---- places of faults

-- `fault_place` returns the place of a fault, for all bytes and each form
abbrev pub FaultPlaceIsFound : Type 0
FaultPlaceIsFound = (form : Form) (bytes : List ℕ) → IsFaultPlace form bytes (fault_place form bytes)

-- there is at most one place of a fault, for all bytes and each form
abbrev pub HasOneFaultPlace : Type 0
HasOneFaultPlace =
    (form : Form) (bytes : List ℕ) (a b : ℕ) → IsFaultPlace form bytes a → IsFaultPlace form bytes b → a ≡ b

-- ---- the shortest encoding

-- if bytes encode a module in a form, its shortest encoding, `encoding_of`, encodes it in this form too
abbrev pub EncodesAgain : Type 0
EncodesAgain = (form : Form) (bytes : List ℕ) (m : Module) → Encodes form bytes m → Encodes form (encoding_of m) m

-- no encoding of a module has fewer bytes than `encoding_of`
abbrev pub NoneIsShorter : Type 0
NoneIsShorter =
    (form : Form) (bytes : List ℕ) (m : Module) → Encodes form bytes m → length (encoding_of m) ≤ length bytes

-- a module that bytes encode in a form is encodable in it
abbrev pub EncodedIsEncodable : Type 0
EncodedIsEncodable = (form : Form) (bytes : List ℕ) (m : Module) → Encodes form bytes m → IsEncodable form m

-- if a module is encodable in a form and its shortest encoding has fewer than 2^32 bytes, that encoding encodes it
abbrev pub EncodableIsEncoded : Type 0
EncodableIsEncoded =
    (form : Form) (m : Module) → IsEncodable form m → length (encoding_of m) < 2 ^ 32 → Encodes form (encoding_of m) m

-- ---- the two forms

-- a module that is encodable in the form Core has nothing that the form of replay binaries alone has
abbrev pub EncodableInCore : Type 0
EncodableInCore = (m : Module) → IsEncodable Core m → IsCoreModule m

-- a module that is encodable in the form Core is also encodable in that of replay binaries, if each of its active
-- element segments is of table 0
abbrev pub CoreIsInReplay : Type 0
CoreIsInReplay = (m : Module) → IsEncodable Core m → AllByRecursion IsOfTableZero m.elems → IsEncodable Replay m

-- a module that is encodable in the form of replay binaries is also encodable in the form Core, if it has nothing that
-- the form of replay binaries alone has
abbrev pub ReplayIsInCore : Type 0
ReplayIsInCore = (m : Module) → IsEncodable Replay m → IsCoreModule m → IsEncodable Core m
