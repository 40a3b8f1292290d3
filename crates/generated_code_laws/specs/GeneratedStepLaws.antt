-- Laws on the steps of generated functions.
use Rattle.std.specs.Prelude.{◌≡◌, ℕ, suc, ◌≤◌, ◌/◌, ◌%◌, List, [], ◌∷◌, ◌++◌, length, replicate, true, false, Some, slice_get}
use Rattle.base.specs.declared.opcodes.TheConstants.{I32_DIV_U, I32_REM_U}
use Rattle.wasm_syntax.specs.declared.values.ValType.TheVariants.{I32}
use Rattle.wasm_syntax.specs.declared.instructions.Instr.{Instr}
use Rattle.wasm_syntax.specs.declared.instructions.Instr.TheVariants.{Unreachable, LocalGet, Numeric}
use Rattle.wasm_syntax.specs.Nest.{Empty}
use Rattle.wasm_syntax.specs.Opcodes.{numeric_shape}
use Rattle.history_spec.specs.Code.{i32_value}
use Rattle.history_spec.specs.Numeric.{Computed, numeric_value}
use Rattle.history_spec.specs.Store.{Store}
use Rattle.history_spec.specs.Configuration.{Label}
use Rattle.replay_module_spec.specs.declared.groups.TheConstants.{GROUP_CALLS}
use Rattle.replay_module_spec.specs.Effects.{i32_const}
use Rattle.replay_module_spec.specs.Dispatch.{sequence, dispatch}
use Rattle.replay_run_spec.specs.Items.{Item, Steps}
use Rattle.generated_code_laws.specs.Leads.{Watched, Place, Leads, IsOutside, Standing, standing}

-- consecutive parts of a run lead on
abbrev pub LeadsRunAlong : Type 0
LeadsRunAlong = (w : Watched) (a b c : Place) (first second : List Item)
    → Leads w a first b → Leads w b second c → Leads w a (first ++ second) c

-- ---- dispatch

-- the selectors of generated code: a local's number, by an operation with the size of a group
abbrev pub selector : (local op : ℕ) → List Instr
selector local op = LocalGet local ∷ i32_const GROUP_CALLS ∷ Numeric op ∷ []

-- the local holds a number, and the operation on it and the size of a group gives another
pub record Selects (s : Standing) (local op held selected : ℕ) : Type 0 where
  pub local_holds : slice_get s.frame.locals local ≡ Some (i32_value held)
  pub shape : numeric_shape op ≡ Some (record { operands = I32 ∷ I32 ∷ []; result = I32 })
  pub gives : numeric_value op (i32_value held ∷ i32_value GROUP_CALLS ∷ []) ≡ Computed selected

-- control reaches an arm by a dispatch: by one step of `block` for each arm and one more, and by four others
pub record ReachesArm (w : Watched) (s : Standing) (store : Store) (labels : List Label) (local op : ℕ)
    (arms : List (List Instr)) (number : ℕ) (arm : List Instr) : Type 0 where
  pub within : List Label
  pub at : ℕ
  pub leads : Leads w (standing s store [] labels (dispatch (selector local op) arms) number)
      (replicate (suc (length arms)) (Steps true) ++ replicate 4 (Steps false))
      (standing s store [] within (sequence arm Empty) at)

-- a dispatch of a function outside the original reaches the selected arm, or a trap after the last arm
abbrev pub DispatchesReachArms : Type 0
DispatchesReachArms = (w : Watched) (s : Standing) (store : Store) (labels : List Label)
    (local op held selected : ℕ) (arms : List (List Instr)) (number : ℕ)
    → IsOutside w.layout s.frame.func → Selects s local op held selected
    → ((i : Instr) (is : List Instr) → slice_get arms selected ≡ Some (i ∷ is)
    → ReachesArm w s store labels local op arms number (i ∷ is))
    × (length arms ≤ selected → ReachesArm w s store labels local op arms number (Unreachable ∷ []))

-- the selectors of both functions select the group and the arm of a call: the number of the call is divided by the
-- size of a group, and the second selector gives the remainder
abbrev pub SelectorsCount : Type 0
SelectorsCount = (s : Standing) (local held : ℕ) → slice_get s.frame.locals local ≡ Some (i32_value held)
    → Selects s local I32_DIV_U held (held / GROUP_CALLS) × Selects s local I32_REM_U held (held % GROUP_CALLS)
