-- Typing in one pass over a flat body (Core 1.0, appendix 7.3): what is known after each instruction, with the
-- open blocks.
use Rattle.std.specs.Prelude.{List, [], ◌∷◌, map, Option, Some, None, Bool, true, false, cond, ◌&&◌, option_map}
use Rattle.wasm_syntax.specs.declared.values.ValType.{ValType}
use Rattle.wasm_syntax.specs.declared.values.ValType.TheVariants.{I32}
use Rattle.wasm_syntax.specs.declared.instructions.Instr.{Instr}
use Rattle.wasm_syntax.specs.declared.instructions.Instr.TheVariants as instr
use Rattle.wasm_syntax.specs.Typing.{Context, InstrType, instr_type, is_block_type, results_of}
use Rattle.wasm_syntax.specs.KnownStacks.{Known, nothing, push_types, pop, ends, after_instr}
use Rattle.wasm_validate.specs.declared.stacks.Kind.{Kind}
use Rattle.wasm_validate.specs.declared.stacks.Kind.TheVariants.{Block, Loop, If}

-- an open block: its kind, its result, and what is known of the operands below it
pub record Level : Type 0 where
  pub kind : Kind
  pub result : Option ValType
  pub below : Known

abbrev pub level : Kind → Option ValType → Known → Level
level kind result below = record { kind = kind; result = result; below = below }

-- the open blocks, the innermost first, and what is known of the operands in the innermost one
pub record State : Type 0 where
  pub levels : List Level
  pub here : Known

abbrev pub state : List Level → Known → State
state levels here = record { levels = levels; here = here }

-- the types that a block's label takes
abbrev pub label_of_kind : Kind → Option ValType → List ValType
label_of_kind Loop result = []
label_of_kind Block result = results_of result
label_of_kind If result = results_of result

abbrev pub label_of : Level → List ValType
label_of l = label_of_kind l.kind l.result

-- the context with the labels of the open blocks
abbrev pub within : Context → List Level → Context
within ctx levels = record ctx { labels = map label_of levels }

-- the state after a block is opened
abbrev pub after_open : Kind → Option ValType → List Level → Option Known → Option State
after_open kind result levels below =
    cond (is_block_type result) (option_map (λ b. state (level kind result b ∷ levels) nothing) below) None

-- whether the operands may be just what the block leaves
abbrev pub may_leave : Level → Known → Bool
may_leave l here = ends (results_of l.result) (Some here)

-- whether the second part of an `if` may begin
abbrev pub is_if : Kind → Bool
is_if If = true
is_if Block = false
is_if Loop = false

-- whether a block may be closed: an `if` without a second part leaves nothing
abbrev pub may_close : Kind → Option ValType → Bool
may_close If result = ends (results_of result) (Some nothing)
may_close Block result = true
may_close Loop result = true

abbrev pub after_else : List Level → Known → Option State
after_else [] here = None
after_else (l ∷ levels) here =
    cond (is_if l.kind && may_leave l here) (Some (state (level Block l.result l.below ∷ levels) nothing)) None

abbrev pub after_end : List Level → Known → Option State
after_end [] here = None
after_end (l ∷ levels) here =
    cond (may_close l.kind l.result && may_leave l here)
    (Some (state levels (push_types (results_of l.result) l.below))) None

-- the state after a plain instruction
abbrev pub after_plain : Option InstrType → Context → State → Option State
after_plain effect ctx s = option_map (state s.levels) (after_instr ctx effect s.here)

abbrev pub state_after : Context → Instr → State → Option State
state_after ctx (instr.Block ty) s = after_open Block ty s.levels (Some s.here)
state_after ctx (instr.Loop ty) s = after_open Loop ty s.levels (Some s.here)
state_after ctx (instr.If ty) s = after_open If ty s.levels (pop I32 s.here)
state_after ctx instr.Else s = after_else s.levels s.here
state_after ctx instr.End s = after_end s.levels s.here
state_after ctx i s = after_plain (instr_type (within ctx s.levels) i) (within ctx s.levels) s

-- the result of a step, but None after the end of the body
abbrev pub if_open : {A : Type 0} → List Level → Option A → Option A
if_open [] after_step = None
if_open (l ∷ levels) after_step = after_step

abbrev pub after_step : Context → Instr → State → Option State
after_step ctx i s = if_open s.levels (state_after ctx i s)

-- whether the last `End` has closed the body
abbrev pub is_closed : List Level → Bool
is_closed [] = true
is_closed (l ∷ levels) = false

abbrev pub on_some : (State → Bool) → Option State → Bool
on_some f None = false
on_some f (Some s) = f s

-- whether the rest of a body is typed
abbrev pub scan : Context → List Instr → State → Bool
scan ctx [] s = is_closed s.levels
scan ctx (i ∷ is) s = on_some (λ s. scan ctx is s) (after_step ctx i s)

-- the state at the start of a body, in one block, that of the function
abbrev pub body_start : Option ValType → State
body_start result = state (level Block result nothing ∷ []) nothing
