-- Why no replay module is built of a tape, by the first cause that applies.
use Rattle.std.specs.Prelude.{◌≡◌, ◌≢◌, ℕ, ◌<◌, ◌≤◌, ◌-◌, ◌^◌, List, Some, min, true}
use Rattle.sha2.specs.Sha256.{sha256}
use Rattle.wasm_syntax.specs.declared.limits.TheConstants.{MAX_TAPE_WEIGHT}
use Rattle.wasm_syntax.specs.declared.modules.Module.{Module}
use Rattle.host_script.specs.declared.scripts.Script.{Script}
use Rattle.host_script.specs.declared.scripts.Supply.{Supply}
use Rattle.history_spec.specs.Store.{Store}
use Rattle.trace_model.specs.declared.tapes.Tape.{Tape}
use Rattle.trace_model.specs.Fitting.{IsFitting, first_unfit}
use Rattle.trace_model.specs.Weight.{tape_weight}
use Rattle.trace_format.specs.Faults.{IsTapeOf}
use Rattle.accepted_runs.specs.Linked.{IsLinked}
use Rattle.accepted_runs.specs.Unlinked.{IsUnlinkedFor}
use Rattle.r3_faults.specs.declared.faults.Fault.{Fault}
use Rattle.r3_faults.specs.declared.faults.Fault.TheVariants.{OtherModule, TapeLimit, Unfit}
use Rattle.r3_inputs.specs.Inputs.{AreInputs, AreRefused}
use Rattle.r3_show.specs.FileLines.{IsUnshownAs}

-- ---- links

-- the module links with the script
pub record Links (m : Module) (script : Script) : Type 0 where
  pub supply : Supply
  pub store : Store
  pub linked : IsLinked m script supply store

-- ---- tapes

-- the bytes encode the tape with this digest; the tape fits the module and its weight is within the limit
pub record IsTakenAs (m : Module) (digest bytes : List ℕ) (tape : Tape) : Type 0 where
  pub read : IsTapeOf bytes digest tape
  pub fits : IsFitting m tape
  pub light : tape_weight tape ≤ MAX_TAPE_WEIGHT

-- the bytes encode a tape with another digest
pub record IsOfOther (digest bytes : List ℕ) (fault : Fault) : Type 0 where
  pub other : List ℕ
  pub tape : Tape
  pub read : IsTapeOf bytes other tape
  pub differs : other ≢ digest
  pub named : fault ≡ OtherModule other digest

-- a tape does not fit a module, from this segment on
pub record IsUnfitFor (m : Module) (tape : Tape) (fault : Fault) : Type 0 where
  pub segment : ℕ
  pub first : first_unfit m tape ≡ Some segment
  pub named : fault ≡ Unfit segment

-- the bytes encode a tape with this digest that does not fit the module
pub record IsUnfit (m : Module) (digest bytes : List ℕ) (fault : Fault) : Type 0 where
  pub tape : Tape
  pub read : IsTapeOf bytes digest tape
  pub unfit : IsUnfitFor m tape fault

-- the bytes encode a tape that fits and weighs too much; a weight of more than 64 bits is reported as the
-- greatest of 64
pub record IsTooHeavy (m : Module) (digest bytes : List ℕ) (fault : Fault) : Type 0 where
  pub tape : Tape
  pub read : IsTapeOf bytes digest tape
  pub fits : IsFitting m tape
  pub heavy : MAX_TAPE_WEIGHT < tape_weight tape
  pub named : fault ≡ TapeLimit (min (tape_weight tape) (2 ^ 64 - 1))

-- why bytes are refused as a tape for a module whose bytes have this digest
pub data IsUntaken (m : Module) (digest bytes : List ℕ) (fault : Fault) : Type 0 where
  ByBytes : (unread : IsUnshownAs true bytes fault) → IsUntaken m digest bytes fault
  ByDigest : (other : IsOfOther digest bytes fault) → IsUntaken m digest bytes fault
  ByForm : (unfit : IsUnfit m digest bytes fault) → IsUntaken m digest bytes fault
  ByWeight : (heavy : IsTooHeavy m digest bytes fault) → IsUntaken m digest bytes fault

-- ---- the bytes of a module, of a script and of a tape

-- why there is no replay module for a module whose bytes have this digest: it does not link with the script, or
-- the tape is refused
pub data IsUnbuilt (m : Module) (script : Script) (digest tape_bytes : List ℕ) (fault : Fault) : Type 0 where
  OfLink : (unlinked : IsUnlinkedFor m script fault) → IsUnbuilt m script digest tape_bytes fault
  OfTape : (links : Links m script) (untaken : IsUntaken m digest tape_bytes fault)
      → IsUnbuilt m script digest tape_bytes fault

-- the module or the script is refused, or there is no replay module for them
pub data IsBuildRefusal (module_bytes script_bytes tape_bytes : List ℕ) (fault : Fault) : Type 0 where
  OfInputs : (refused : AreRefused module_bytes script_bytes fault)
      → IsBuildRefusal module_bytes script_bytes tape_bytes fault
  OfModule : (m : Module) (script : Script) (inputs : AreInputs module_bytes script_bytes m script)
      (unbuilt : IsUnbuilt m script (sha256 module_bytes) tape_bytes fault)
      → IsBuildRefusal module_bytes script_bytes tape_bytes fault
