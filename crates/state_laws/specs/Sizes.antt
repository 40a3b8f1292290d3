-- Laws of the sizes of state modules: what the making of a replay module needs of the original holds of them too.
use Rattle.std.specs.Prelude.{ℕ, List}
use Rattle.wasm_syntax.specs.declared.modules.Module.{Module}
use Rattle.wasm_syntax.specs.ListsWithin.{HasListsWithin}
use Rattle.wasm_flat.specs.Sizes.{IsShort}
use Rattle.host_script.specs.declared.scripts.Supply.{Supply}
use Rattle.trace_model.specs.declared.tapes.Tape.{Tape}
use Rattle.replay_encoding_laws.specs.Premises.{CanBeReplayed, IsFromBytes, IsTakenSupply, IsTakenTape}
use Rattle.rest_spec.specs.KnownStates.{KnownState}
use Rattle.rest_spec.specs.StateModules.{state_module_of, state_supply_of}
use Rattle.state_laws.specs.Valid.{IsStateOf}

-- the module that begins in a state can be replayed with each tape of the original, if at most `MAX_ORIGINAL_BYTES`
-- bytes encode the original
abbrev pub StateModulesCanBeReplayed : Type 0
StateModulesCanBeReplayed =
    (bytes : List ℕ) (m : Module) (supply : Supply) (state : KnownState) (tape : Tape)
    → IsFromBytes bytes m → IsTakenSupply m supply → IsTakenTape m tape → IsStateOf m supply state
    → CanBeReplayed (state_module_of m state) (state_supply_of supply state) tape

-- a bound on the list lengths of a module also holds for the module that begins in a state, and that one is short if
-- the original is short and can be in the state
pub record StateModulesAreShort : Type 0 where
  pub lists : (most : ℕ) (m : Module) (state : KnownState) → HasListsWithin most m
      → HasListsWithin most (state_module_of m state)
  pub short : (m : Module) (supply : Supply) (state : KnownState) → IsShort m → IsStateOf m supply state
      → IsShort (state_module_of m state)
