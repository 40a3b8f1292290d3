-- The replay module of a tape that is accepted can be encoded in fewer than 2^32 bytes.
use Rattle.std.proofs.Common.{ℕ, List}
use Rattle.wasm_syntax.specs.declared.forms.Form.TheVariants.{Core}
use Rattle.wasm_syntax.specs.declared.modules.Module.{Module}
use Rattle.wasm_syntax.specs.Encoding.Forms.{IsCoreModule}
use Rattle.wasm_syntax.specs.Encoding.Laws.{EncodableInCore, EncodedIsEncodable}
use Rattle.wasm_syntax.specs.Encoding.Modules.{Encodes}
use Rattle.host_script.specs.declared.scripts.Supply.{Supply}
use Rattle.trace_model.specs.declared.tapes.Tape.{Tape}
use Rattle.replay_encoding_laws.specs.Laws.{BoundsAreShort, PlansFitIndices, ReplayModulesAreEncodable}
use Rattle.replay_encoding_laws.specs.Premises.{CanBeReplayed, IsFromBytes, IsTakenSupply, IsTakenTape}

-- a module that bytes encode has the form Core
pub is_core : (bytes : List ℕ) (m : Module) → Encodes Core bytes m → EncodableInCore → EncodedIsEncodable
    → IsCoreModule m
is_core bytes m encoded core encodable = core m (encodable Core bytes m encoded)

-- a module that bytes encode can be replayed with each tape that is taken for it
pub can_be_replayed : (bytes : List ℕ) (m : Module) (supply : Supply) (tape : Tape) → IsFromBytes bytes m
    → IsTakenSupply m supply → IsTakenTape m tape → PlansFitIndices → ReplayModulesAreEncodable → BoundsAreShort
    → CanBeReplayed m supply tape
can_be_replayed bytes m supply tape from_bytes supplied taken indices encodable bounds =
    record {
      supplied = supplied;
      taken = taken;
      indices = indices bytes m tape from_bytes taken;
      encodable = encodable bytes m supply tape from_bytes supplied taken;
      short = bounds bytes m tape from_bytes taken.weight;
    }
