-- The parts from which a replay module is made: a module that bytes encode, a supply for its imports, and a tape.
use Rattle.std.specs.Prelude.{ℕ, ◌^◌, ◌<◌, ◌≤◌, List, length, IfSome}
use Rattle.wasm_syntax.specs.declared.forms.Form.TheVariants.{Core, Replay}
use Rattle.wasm_syntax.specs.declared.limits.TheConstants.{MAX_TAPE_WEIGHT, MAX_ORIGINAL_BYTES}
use Rattle.wasm_syntax.specs.declared.modules.Module.{Module}
use Rattle.wasm_syntax.specs.Encoding.Encodable.{IsEncodable}
use Rattle.wasm_syntax.specs.Encoding.Modules.{Encodes}
use Rattle.wasm_syntax.specs.Index.{imported_funcs}
use Rattle.wasm_syntax.specs.Validity.{IsValid}
use Rattle.host_script.specs.declared.scripts.Supply.{Supply}
use Rattle.type_safety.specs.Supplies.{IsSupply}
use Rattle.trace_model.specs.declared.tapes.Tape.{Tape}
use Rattle.trace_model.specs.Fitting.{IsFitting}
use Rattle.trace_model.specs.Weight.{tape_weight}
use Rattle.replay_module_spec.specs.Fragments.{fragment_of}
use Rattle.replay_module_spec.specs.Merge.{replay_module}
use Rattle.replay_module_spec.specs.Plans.{plan_of}
use Rattle.replay_module_spec.specs.Size.{max_bytes}
use Rattle.replay_gen.specs.Bounds.{FitsIndices}
use Rattle.replay_module_laws.specs.Written.{IsConstantTape}

-- a valid module that these bytes encode, which are at most `MAX_ORIGINAL_BYTES`
pub record IsFromBytes (bytes : List ℕ) (m : Module) : Type 0 where
  pub encoded : Encodes Core bytes m
  pub valid : IsValid m
  pub few : length bytes ≤ MAX_ORIGINAL_BYTES

-- a tape of constants that fits the module, with at most the allowed weight
pub record IsTakenTape (m : Module) (tape : Tape) : Type 0 where
  pub fits : IsFitting m tape
  pub constants : IsConstantTape tape
  pub weight : tape_weight tape ≤ MAX_TAPE_WEIGHT

-- a supply that matches the module's imports; a maximum of its table has 32 bits
pub record IsTakenSupply (m : Module) (supply : Supply) : Type 0 where
  pub matches : IsSupply m supply
  pub table : IfSome supply.table (λ limits. IfSome limits.max (λ max. max < 2 ^ 32))

-- what the making of a replay module needs: a tape that fits and a supply that matches, indices of 32 bits with the
-- generated parts, an encoding of the replay module, and a bound of 32 bits on the length of the encoding
pub record CanBeReplayed (m : Module) (supply : Supply) (tape : Tape) : Type 0 where
  pub supplied : IsTakenSupply m supply
  pub taken : IsTakenTape m tape
  pub indices : FitsIndices m (plan_of (imported_funcs m) tape)
  pub encodable : IsEncodable Replay (replay_module m supply (fragment_of m (plan_of (imported_funcs m) tape)))
  pub short : max_bytes m (tape_weight tape) < 2 ^ 32
