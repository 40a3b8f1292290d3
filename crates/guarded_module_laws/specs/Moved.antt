-- Activations of a replay module in its guarded module: functions outside call by other numbers and have other numbers
-- themselves, and the store has globals after its own.
use Rattle.std.specs.Prelude.{ℕ, List, ◌++◌, map}
use Rattle.wasm_syntax.specs.declared.values.Val.{Val}
use Rattle.wasm_syntax.specs.declared.instructions.Instr.{Instr}
use Rattle.wasm_syntax.specs.declared.instructions.Instr.TheVariants.{Call}
use Rattle.wasm_syntax.specs.Nest.{Nest, Empty, Plain, InBlock, InLoop, InIf, InIfElse}
use Rattle.history_spec.specs.Store.{Store}
use Rattle.history_spec.specs.Configuration.{Place, place, Label, Frame}
use Rattle.history_spec.specs.Instruction.{Control, Goes, Calls, Returns, Execution, Did, Traps, NoRule}

-- the store with globals after its own
abbrev pub with_more : List Val → Store → Store
with_more more store = record store { globals = store.globals ++ more }

-- a body whose calls are by these numbers; references stay
abbrev pub called_by : (ℕ → ℕ) → Instr → Instr
called_by to (Call func) = Call (to func)
called_by to instr = instr

abbrev pub moved_nest : (ℕ → ℕ) → Nest → Nest
moved_nest to Empty = Empty
moved_nest to (Plain i rest) = Plain (called_by to i) (moved_nest to rest)
moved_nest to (InBlock ty body rest) = InBlock ty (moved_nest to body) (moved_nest to rest)
moved_nest to (InLoop ty body rest) = InLoop ty (moved_nest to body) (moved_nest to rest)
moved_nest to (InIf ty body rest) = InIf ty (moved_nest to body) (moved_nest to rest)
moved_nest to (InIfElse ty body other rest) =
    InIfElse ty (moved_nest to body) (moved_nest to other) (moved_nest to rest)

abbrev pub moved_place : (ℕ → ℕ) → Place → Place
moved_place to p = place (moved_nest to p.rest) p.number

abbrev pub moved_label : (ℕ → ℕ) → Label → Label
moved_label to label =
    record label { target = moved_place to label.target; after_block = moved_place to label.after_block }

-- the activation under this number of its function
abbrev pub moved_frame : (ℕ → ℕ) → (func : ℕ) → Frame → Frame
moved_frame to func frame =
    record frame { func = func; labels = map (moved_label to) frame.labels; at = moved_place to frame.at }

abbrev pub moved_control : (ℕ → ℕ) → ℕ → List Val → Control → Control
moved_control to func more (Goes store frame) = Goes (with_more more store) (moved_frame to func frame)
moved_control to func more (Calls waiting called args) = Calls (moved_frame to func waiting) (to called) args
moved_control to func more (Returns results) = Returns results

abbrev pub moved_execution : (ℕ → ℕ) → ℕ → List Val → Execution → Execution
moved_execution to func more (Did operands results found control) =
    Did operands results found (moved_control to func more control)
moved_execution to func more (Traps kind operands found) = Traps kind operands found
moved_execution to func more NoRule = NoRule

-- some rule holds
abbrev pub HasRule : Execution → Type 0
HasRule NoRule = ⊥
HasRule execution = Unit {0}
