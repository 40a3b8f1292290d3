-- Modules and generated parts whose lists are short.
use Rattle.std.specs.Prelude.{◌^◌, ◌≤◌, List, ◌++◌, length, All}
use Rattle.wasm_syntax.specs.declared.limits.TheConstants.{MAX_TAPE_WEIGHT}
use Rattle.wasm_syntax.specs.declared.signatures.FuncType.{FuncType}
use Rattle.wasm_syntax.specs.declared.instructions.Instr.{Instr}
use Rattle.wasm_syntax.specs.declared.instructions.Instr.TheVariants.{BrTable}
use Rattle.wasm_syntax.specs.declared.modules.Func.{Func}
use Rattle.wasm_syntax.specs.declared.modules.Global.{Global}
use Rattle.wasm_syntax.specs.declared.modules.Module.{Module}
use Rattle.wasm_syntax.specs.Index.{func_indices, imported_funcs}
use Rattle.wasm_syntax.specs.Validity.{IsValid}
use Rattle.trace_model.specs.declared.tapes.Tape.{Tape}
use Rattle.trace_model.specs.Fitting.{IsFitting}
use Rattle.trace_model.specs.Weight.{tape_weight}
use Rattle.replay_module_spec.specs.declared.fragments.Fragment.{Fragment}
use Rattle.replay_module_spec.specs.Fragments.{fragment_of}
use Rattle.replay_module_spec.specs.Plans.{plan_of}
use Rattle.replay_module_laws.specs.Written.{IsConstantTape}
use Rattle.replay_gen.specs.Bounds.{FitsIndices}

-- a list of at most 2^27 items
abbrev pub IsShort : {X : Type 0} → List X → Type 0
IsShort items = length items ≤ 2 ^ 27

-- the types, the parameters of each type, the imports, functions and globals of a module are short lists
pub record HasShortLists (m : Module) : Type 0 where
  pub types : IsShort m.types
  pub params : All (λ (ty : FuncType). IsShort ty.params) m.types
  pub imports : IsShort m.imports
  pub funcs : IsShort m.funcs
  pub globals : IsShort m.globals

-- ---- generated parts

-- a branch table has a short list of labels
abbrev pub HasShortLabels : Instr → Type 0
HasShortLabels (BrTable labels default) = IsShort labels
HasShortLabels i = Unit {0}

-- the runs of locals, the instructions and the labels of each branch table of a function are short lists
pub record IsShortFunc (func : Func) : Type 0 where
  pub locals : IsShort func.locals
  pub body : IsShort func.body
  pub labels : All HasShortLabels func.body

-- the parameters and results of a type are short lists
pub record IsShortType (ty : FuncType) : Type 0 where
  pub params : IsShort ty.params
  pub results : IsShort ty.results

-- each list of a generated part is short: those of its functions, types, globals and declared functions, and those
-- within each of them
pub record HasShortParts (fragment : Fragment) : Type 0 where
  pub bodies : IsShort fragment.bodies
  pub helpers : IsShort fragment.helpers
  pub types : IsShort fragment.types
  pub globals : IsShort fragment.globals
  pub declared : IsShort fragment.declared
  pub funcs : All IsShortFunc (fragment.bodies ++ fragment.helpers)
  pub signatures : All IsShortType fragment.types
  pub values : All (λ (g : Global). IsShort g.init) fragment.globals

-- ---- the laws

-- for a module with short lists and a tape with at most the allowed weight, all indices have 32 bits with the generated
-- parts
abbrev pub ShortListsFitIndices : Type 0
ShortListsFitIndices =
    (m : Module) (tape : Tape) → HasShortLists m → tape_weight tape ≤ MAX_TAPE_WEIGHT
    → FitsIndices m (plan_of (imported_funcs m) tape)

-- each list of what is generated of a tape is short, if the tape fits the module, has constants alone and at most the
-- allowed weight, and the lists of the module are short, that of all functions among them
abbrev pub FragmentsAreShort : Type 0
FragmentsAreShort =
    (m : Module) (tape : Tape) → IsValid m → HasShortLists m → IsShort (func_indices m)
    → IsFitting m tape → IsConstantTape tape → tape_weight tape ≤ MAX_TAPE_WEIGHT
    → HasShortParts (fragment_of m (plan_of (imported_funcs m) tape))
