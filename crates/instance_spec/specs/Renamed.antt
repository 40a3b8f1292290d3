-- The same functions with all indices resolved beforehand: what is renamed in bodies, and so in configurations and
-- results, which hold parts of bodies.
use Rattle.std.specs.Prelude.{◌≡◌, ℕ, List, map, option_map}
use Rattle.wasm_syntax.specs.Nest.{Nest, Empty, Plain, InBlock, InLoop, InIf, InIfElse}
use Rattle.history_spec.specs.Code.{Definition, definition}
use Rattle.history_spec.specs.Configuration.{Place, place, Point, Label, Frame, Activation, InModule, InMain, InImport, Config}
use Rattle.history_spec.specs.Instruction.{Control, Goes, Calls, Returns, Execution, Did, Traps, NoRule}
use Rattle.history_spec.specs.Settle.{SettleEnd, Continues, Finishes, NoRule as NoneHolds, SettleResult, settle_result}
use Rattle.history_spec.specs.Run.{Run}
use Rattle.history_spec.specs.Step.{Program, Progress, Running, Finished, Faulted, Stuck, StepResult, step_result}
use Rattle.instance_spec.specs.Instances.{Instance, World, resolved_instr}

-- ---- by an instance

-- a body with all indices resolved
abbrev pub renamed_nest : Instance → Nest → Nest
renamed_nest i Empty = Empty
renamed_nest i (Plain instr rest) = Plain (resolved_instr i instr) (renamed_nest i rest)
renamed_nest i (InBlock ty body rest) = InBlock ty (renamed_nest i body) (renamed_nest i rest)
renamed_nest i (InLoop ty body rest) = InLoop ty (renamed_nest i body) (renamed_nest i rest)
renamed_nest i (InIf ty body rest) = InIf ty (renamed_nest i body) (renamed_nest i rest)
renamed_nest i (InIfElse ty body other rest) =
    InIfElse ty (renamed_nest i body) (renamed_nest i other) (renamed_nest i rest)

-- a defined function with all indices in its body resolved
abbrev pub renamed_definition : Instance → Definition → Definition
renamed_definition i defined = record defined { body = renamed_nest i defined.body }

-- a place in a renamed body
abbrev pub renamed_place : Instance → Place → Place
renamed_place i p = place (renamed_nest i p.rest) p.number

-- a label of a renamed body
abbrev pub renamed_label : Instance → Label → Label
renamed_label i label =
    record label { target = renamed_place i label.target; after_block = renamed_place i label.after_block }

-- where control is in a renamed body
abbrev pub renamed_point : Instance → Point → Point
renamed_point i p = record p { labels = map (renamed_label i) p.labels; at = renamed_place i p.at }

-- an activation of a function with a renamed body
abbrev pub renamed_frame_in : Instance → Frame → Frame
renamed_frame_in i frame =
    record frame { labels = map (renamed_label i) frame.labels; at = renamed_place i frame.at }

-- ---- by the instances of functions

module _ (w : World) where
  -- an activation, by the instance of its function
  abbrev pub renamed_frame : Frame → Frame
  renamed_frame frame = renamed_frame_in (w.instance_of frame.func) frame

  -- where an instruction leads
  abbrev pub renamed_control : Control → Control
  renamed_control (Goes store frame) = Goes store (renamed_frame frame)
  renamed_control (Calls waiting func args) = Calls (renamed_frame waiting) func args
  renamed_control (Returns results) = Returns results

  -- what an instruction comes to
  abbrev pub renamed_execution : Execution → Execution
  renamed_execution (Did operands results found control) = Did operands results found (renamed_control control)
  renamed_execution (Traps kind operands found) = Traps kind operands found
  renamed_execution NoRule = NoRule

  -- an activation of the module or of the host
  abbrev pub renamed_activation : Activation → Activation
  renamed_activation (InModule frame) = InModule (renamed_frame frame)
  renamed_activation (InMain actions) = InMain actions
  renamed_activation (InImport import args actions end) = InImport import args actions end

  -- a stack
  abbrev pub renamed_stack : List Activation → List Activation
  renamed_stack stack = map renamed_activation stack

  -- a configuration
  abbrev pub renamed_config : Config → Config
  renamed_config config = record config { stack = renamed_stack config.stack }

  -- where settling ends
  abbrev pub renamed_settle_end : SettleEnd → SettleEnd
  renamed_settle_end (Continues stack) = Continues (renamed_stack stack)
  renamed_settle_end (Finishes outcome) = Finishes outcome
  renamed_settle_end NoneHolds = NoneHolds

  -- what settling comes to
  abbrev pub renamed_settle_result : SettleResult → SettleResult
  renamed_settle_result s = settle_result s.entries (renamed_settle_end s.next)

  -- how a run goes on
  abbrev pub renamed_progress : Progress → Progress
  renamed_progress (Running config) = Running (renamed_config config)
  renamed_progress (Finished outcome) = Finished outcome
  renamed_progress (Faulted kind) = Faulted kind
  renamed_progress Stuck = Stuck

  -- the result of a step: its entries stay
  abbrev pub renamed_result : StepResult → StepResult
  renamed_result s = step_result s.entries (renamed_progress s.next)

  -- a run: its history and its turns stay
  abbrev pub renamed_run : Run → Run
  renamed_run run = record run { at = renamed_progress run.at }

-- a program has the types and functions of a world, with the indices in each body resolved beforehand
pub record Realises (w : World) (p : Program) : Type 0 where
  pub alike : p ≡ record w.program { code = record w.program.code { defined = p.code.defined } }
  pub bodies : (func : ℕ)
      → definition p.code func
      ≡ option_map (renamed_definition (w.instance_of func)) (definition w.program.code func)
