-- Control enters the blocks of a table, and a branch out of these blocks goes on with an arm.
use Rattle.std.proofs.Common.{◌≡◌, ℕ, suc, ◌+◌, List, [], ◌∷◌, ◌++◌, length, None, true, refl, ap, arith}
use Rattle.std.specs.Prelude.{replicate}
use Rattle.wasm_syntax.specs.declared.values.Val.{Val}
use Rattle.wasm_syntax.specs.declared.instructions.Instr.{Instr}
use Rattle.wasm_syntax.specs.Nest.{Nest, Empty, InBlock, size}
use Rattle.history_spec.specs.Store.{Store}
use Rattle.history_spec.specs.Configuration.{place, Label, Frame, point, at_point}
use Rattle.history_spec.specs.Instruction.{Did, Goes, branch_to}
use Rattle.replay_module_spec.specs.Dispatch.{sequence, nested}
use Rattle.replay_run_spec.specs.Items.{Steps}
use Rattle.generated_code_laws.specs.Leads.{Watched, Place, Leads, IsOutside, Standing, standing}
use Rattle.generated_code_laws.proofs.Along.{along}
use Rattle.generated_code_laws.proofs.One.{begins, did}

-- a run of no steps leads to its start
nothing : (w : Watched) (p : Place) → Leads w p [] p
nothing w p = record { count = 0; comes = λ meter. refl; shown = λ args. refl; inside = refl }

abbrev arm_label : List Instr → ℕ → Label
arm_label arm number =
    let after = place (sequence arm Empty) number in
    record { arity = 0; below = []; target = after; after_block = after }

-- the labels within all blocks that begin at a number, and the number of the innermost instruction
abbrev pub labels_in : Nest → List (List Instr) → ℕ → List Label → List Label
labels_in inner [] number labels = labels
labels_in inner (arm ∷ arms) number labels =
    labels_in inner arms (number + 1) (arm_label arm (number + 1 + size (nested inner arms)) ∷ labels)

abbrev pub number_in : List (List Instr) → ℕ → ℕ
number_in [] number = number
number_in (arm ∷ arms) number = number_in arms (number + 1)

begins_nested : (inner : Nest) (arms : List (List Instr)) → begins inner ≡ true → begins (nested inner arms) ≡ true
begins_nested inner [] b = b
begins_nested inner (arm ∷ arms) b = refl

module _ (w : Watched) (s : Standing) (outside : IsOutside w.layout s.frame.func) (store : Store) where
  -- one step for each block
  pub enters_all : (inner : Nest) → begins inner ≡ true → (arms : List (List Instr)) (number : ℕ) (labels : List Label)
      → Leads w (standing s store [] labels (nested inner arms) number) (replicate (length arms) (Steps true))
      (standing s store [] (labels_in inner arms number labels) inner (number_in arms number))
  enters_all inner b [] number labels = nothing w _
  enters_all inner b (arm ∷ arms) number labels =
      let within = arm_label arm (number + 1 + size (nested inner arms)) ∷ labels in
      along w _ _ _ (Steps true ∷ []) (replicate (length arms) (Steps true))
      (did w s outside store store [] [] labels within (InBlock None (nested inner arms) (sequence arm Empty))
      (nested inner arms) number (number + 1) s.frame [] [] None [] refl (begins_nested inner arms b) refl)
      (enters_all inner b arms (number + 1) within)

  -- a branch past all blocks
  pub past_all : (inner : Nest) (arms : List (List Instr)) (number : ℕ) (labels : List Label) (here : Frame)
      (operands : List Val) (l k : ℕ) → k ≡ length arms + l
      → branch_to store here operands [] (labels_in inner arms number labels) k
      ≡ branch_to store here operands [] labels l
  past_all inner [] number labels here operands l k e =
      let same : k ≡ l = omega (arith, e) in ap (branch_to store here operands [] labels) same
  past_all inner (arm ∷ arms) number labels here operands l k e =
      past_all inner arms (number + 1) (arm_label arm (number + 1 + size (nested inner arms)) ∷ labels)
      here operands (suc l) k (omega (arith, e))

  -- a branch past the inner blocks goes on with the arm after them
  pub reaches_arm : (inner : Nest) (outer : List (List Instr)) (arm : List Instr) (arms : List (List Instr)) (number : ℕ)
      (labels : List Label) (here : Frame) (operands : List Val)
      → (at : ℕ) × (later : List Label)
      × (branch_to store here operands [] (labels_in inner (outer ++ arm ∷ arms) number labels) (length arms)
      ≡ Did operands [] None (Goes store (at_point here (point [] later (sequence arm Empty) at))))
  reaches_arm inner [] arm arms number labels here operands =
      let at = number + 1 + size (nested inner arms) in
      (at, labels, past_all inner arms (number + 1) (arm_label arm at ∷ labels) here operands 0 (length arms) (omega arith))
  reaches_arm inner (other ∷ outer) arm arms number labels here operands =
      reaches_arm inner outer arm arms (number + 1)
      (arm_label other (number + 1 + size (nested inner (outer ++ arm ∷ arms))) ∷ labels) here operands
