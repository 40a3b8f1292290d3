-- What the operand stack and the control stack mean.
use Rattle.std.specs.Prelude.{◌≡◌, ℕ, ◌≤◌, List, [], ◌∷◌, length, reverse, take, drop, Option, Some, None, Bool, cond, Result, IfOk}
use Rattle.wasm_syntax.specs.declared.values.ValType.{ValType}
use Rattle.wasm_syntax.specs.KnownStacks.{Known, known_stack, anything}
use Rattle.wasm_validate.specs.declared.stacks.Frame.{Frame}
use Rattle.wasm_validate.specs.Flat.{Level, level}

-- the operands of the blocks around the innermost one, the lowest first, and what is known in the innermost one
pub record OperandState : Type 0 where
  pub outer : List (Option ValType)
  pub here : Known

abbrev pub operand_state : List (Option ValType) → Known → OperandState
operand_state outer here = record { outer = outer; here = here }

-- operands, with a given number of them below the innermost block
abbrev pub operand_state_at : ℕ → Bool → List (Option ValType) → OperandState
operand_state_at height free slots = operand_state (take height slots) (known_stack (reverse (drop height slots)) free)

-- the value that a test leaves if it passes
abbrev pub then_some : {A : Type 0} → Bool → A → Option A
then_some b x = cond b (Some x) None

-- a test that could be made leaves this value if it passes, and else None
abbrev pub PassesAs : {A E : Type 0} → Result Bool E → A → Option A → Type 0
PassesAs answer now wanted = IfOk answer (λ passed. then_some passed now ≡ wanted)

-- the slot on top, and what is below it
abbrev pub top_slot : List (Option ValType) → Bool → Option (Option ValType × Known)
top_slot [] free = cond free (Some (None, anything)) None
top_slot (slot ∷ slots) free = Some (slot, known_stack slots free)

-- the open blocks, the innermost first
abbrev pub levels_of : List Frame → List (Option ValType) → List Level
levels_of [] outer = []
levels_of (f ∷ frames) outer =
    level f.kind f.result (known_stack (reverse (drop f.height outer)) f.free)
    ∷ levels_of frames (take f.height outer)

-- each block's operands begin where those of the one around it end
abbrev pub AreHeights : List Frame → List (Option ValType) → Type 0
AreHeights [] outer = Unit {0}
AreHeights (f ∷ frames) outer = (f.height ≤ length outer) × AreHeights frames (take f.height outer)
