-- Laws of linked modules.
use Rattle.std.specs.Prelude.{◌≡◌, ℕ, ◌+◌, ◌^◌, ◌<◌, None, Some, length}
use Rattle.wasm_syntax.specs.declared.signatures.FuncType.{FuncType}
use Rattle.wasm_syntax.specs.Index.{func_type}
use Rattle.wasm_syntax.specs.Validity.{IsValid}
use Rattle.host_script.specs.declared.scripts.Script.{Script}
use Rattle.history_spec.specs.Code.{signature}
use Rattle.history_spec.specs.Run.{Meter, program_of, run_start}
use Rattle.instance_spec.specs.Renamed.{Realises}
use Rattle.instance_spec.specs.Laws.{renamed_start}
use Rattle.instance_spec.specs.Outcomes.{DoOutcomesFollow}
use Rattle.instance_spec.specs.declared.sides.Side.{Side}
use Rattle.pair_spec.specs.Pairs.{ModulePair, module_of}
use Rattle.pair_spec.specs.Numbers.{side_instance}
use Rattle.pair_spec.specs.PairRuns.{pair_code, pair_world, pair_start}
use Rattle.pair_spec.specs.Linked.{linked}
use Rattle.pair_spec.specs.Faults.{first_pair_fault}

-- two valid modules whose pair has no fault
pub record AreLinkable (pair : ModulePair) : Type 0 where
  pub left : IsValid pair.left
  pub right : IsValid pair.right
  pub no_fault : first_pair_fault pair ≡ None

-- a function of either module has in the run, under its number, the type that it has in the module; it may be the
-- host's, of this module, or of the other one
abbrev pub FunctionsKeepTheirTypes : Type 0
FunctionsKeepTheirTypes =
    (pair : ModulePair) (side : Side) (func : ℕ) (ty : FuncType) → first_pair_fault pair ≡ None
    → length pair.left.types + length pair.right.types < 2 ^ 32 → func_type (module_of pair side) func ≡ Some ty
    → signature (pair_code pair) ((side_instance pair side).funcs func) ≡ Some ty

-- the linked module realises the run of a pair; it starts as the pair does, or does not link for the same fault
pub record DoesLinkedFollow (pair : ModulePair) (script : Script) : Type 0 where
  pub realises : Realises (pair_world pair script) (program_of (linked pair) script)
  pub starts : AreLinkable pair
      → run_start (linked pair) script ≡ renamed_start (pair_world pair script) (pair_start pair script)

-- the run of a linked module is that of the pair
abbrev pub LinkedRunsFollow : Type 0
LinkedRunsFollow = (pair : ModulePair) (script : Script) → DoesLinkedFollow pair script

-- a linked module has the outcomes of the pair
abbrev pub LinkedOutcomesFollow : Type 0
LinkedOutcomesFollow =
    (pair : ModulePair) (script : Script) (meter : Meter) → AreLinkable pair
    → DoOutcomesFollow (pair_world pair script) (program_of (linked pair) script) meter (pair_start pair script)
    (run_start (linked pair) script)
