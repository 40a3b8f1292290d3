-- The laws of cuts as tapes of which a replay module is made.
use Rattle.std.specs.Prelude.{◌≡◌, ℕ, List, Some, Ok}
use Rattle.wasm_syntax.specs.declared.modules.Module.{Module}
use Rattle.host_script.specs.declared.scripts.Supply.{Supply}
use Rattle.trace_model.specs.declared.tapes.Segment.{Segment}
use Rattle.trace_model.specs.declared.tapes.Tape.{Tape}
use Rattle.trace_model.specs.Fitting.{first_unfit}
use Rattle.history_spec.specs.Code.{code_of}
use Rattle.history_spec.specs.Instantiation.{instantiate}
use Rattle.history_spec.specs.Store.{Store}
use Rattle.type_safety.specs.Supplies.{IsRunnable, IsSupply}
use Rattle.replay_module_spec.specs.Fragments.{start_index}
use Rattle.replay_module_spec.specs.Merge.{layout_of}
use Rattle.replay_module_laws.specs.Written.{IsConstantTape}
use Rattle.generated_code_laws.specs.Playable.{IsPlayable}
use Rattle.rest_spec.specs.Cuts.{cut_of}

-- another module can be run with its supply, begins in this store, and has the functions of a module at their indices;
-- the same tapes fit both
pub record BeginsIn (m other : Module) (supply : Supply) (first : Store) : Type 0 where
  pub runnable : IsRunnable other
  pub supplied : IsSupply other supply
  pub begins : instantiate other supply ≡ Ok first
  pub code : code_of other ≡ code_of m
  pub layout : layout_of other ≡ layout_of m
  pub start_index : start_index other ≡ start_index m
  pub fits : (tape : Tape) → first_unfit other tape ≡ first_unfit m tape

-- a cut has constants alone if its tape has
abbrev pub CutsAreConstant : Type 0
CutsAreConstant =
    (tape : Tape) (number opened : ℕ) (cut : List Segment)
    → IsConstantTape tape → cut_of number opened tape.segments ≡ Some cut
    → IsConstantTape (record { segments = cut })

-- if a replay module can be made from a tape, one can be made from its cut, for each other module with the same code
abbrev pub CutsArePlayable : Type 0
CutsArePlayable =
    (m other : Module) (supply other_supply : Supply) (store first : Store) (tape : Tape) (number : ℕ)
    (cut : List Segment)
    → IsPlayable m supply store tape → BeginsIn m other other_supply first
    → cut_of number 0 tape.segments ≡ Some cut
    → IsPlayable other other_supply first (record { segments = cut })
