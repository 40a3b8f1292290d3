-- The instrumented module of the module that bytes encode, as bytes, or why there is none.
use Rattle.std.specs.Prelude.{◌≡◌, ℕ, ◌<◌, ◌≤◌, List, length}
use Rattle.sha2.specs.Sha256.{sha256}
use Rattle.wasm_syntax.specs.declared.limits.TheConstants.{MAX_INSTRUMENTED_BYTES}
use Rattle.wasm_syntax.specs.declared.modules.Module.{Module}
use Rattle.wasm_syntax.specs.Encoding.Shortest.{encoding_of}
use Rattle.record_replay_spec.specs.Instrumented.{instrumented_module}
use Rattle.r3_faults.specs.declared.faults.Fault.{Fault}
use Rattle.r3_faults.specs.declared.faults.Fault.TheVariants.{HookedLimit}
use Rattle.r3_inputs.specs.Inputs.{IsModuleOf, IsRefusedModule}

-- the shortest encoding of a module's instrumented module, which declares the SHA-256 digest of the module's
-- bytes
abbrev pub hooked_bytes : (bytes : List ℕ) → Module → List ℕ
hooked_bytes bytes m = encoding_of (instrumented_module m (sha256 bytes))

-- the text is the encoding of the instrumented module, and fits into a file of one
pub record IsHooked (bytes : List ℕ) (m : Module) (text : List ℕ) : Type 0 where
  pub same : text ≡ hooked_bytes bytes m
  pub within : length (hooked_bytes bytes m) ≤ MAX_INSTRUMENTED_BYTES

-- the encoding of the instrumented module does not fit into a file of one
pub record IsTooLong (bytes : List ℕ) (m : Module) (fault : Fault) : Type 0 where
  pub named : fault ≡ HookedLimit
  pub long : MAX_INSTRUMENTED_BYTES < length (hooked_bytes bytes m)

-- the text is the encoding of the instrumented module of the module that bytes encode
pub record IsHookedOf (bytes text : List ℕ) : Type 0 where
  pub m : Module
  pub is_module : IsModuleOf bytes m
  pub hooked : IsHooked bytes m text

-- why bytes have no encoded instrumented module: they are not an accepted module, or the encoding is too long
pub data IsHookedRefusal (bytes : List ℕ) (fault : Fault) : Type 0 where
  OfModule : (refused : IsRefusedModule bytes fault) → IsHookedRefusal bytes fault
  OfLength : (m : Module) (is_module : IsModuleOf bytes m) (long : IsTooLong bytes m fault)
      → IsHookedRefusal bytes fault
