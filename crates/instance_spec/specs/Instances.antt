-- Functions of several instances in one run: what the indices of a module name in it (Core 1.0, 4.2.5), and its steps,
-- which look this up when an instruction is executed (Core 1.0, 4.4.5).
use Rattle.std.specs.Prelude.{ℕ, zero, suc, ◌+◌, ◌-◌, ◌^◌, min, List, ◌∷◌}
use Rattle.wasm_syntax.specs.declared.instructions.Instr.{Instr}
use Rattle.wasm_syntax.specs.declared.instructions.Instr.TheVariants.{Call, CallIndirect, GlobalGet, GlobalSet, RefFunc}
use Rattle.wasm_syntax.specs.Nest.{Nest, Plain}
use Rattle.history_spec.specs.Configuration.{place, Frame, Activation, InModule, Config}
use Rattle.history_spec.specs.Run.{Meter, Run, run_at, run_after, weight}
use Rattle.history_spec.specs.Step.{Program, Progress, Running, StepResult, step}

-- the instance of a module in a run: the number that each of its types, functions and globals has among those of the
-- run, by its index (Core 1.0, 4.2.5); the run has one memory and one table at most
pub record Instance : Type 0 where
  pub types : ℕ → ℕ
  pub funcs : ℕ → ℕ
  pub globals : ℕ → ℕ

-- a number moved up by an amount, and no further than the greatest index
abbrev pub moved_up : (by x : ℕ) → ℕ
moved_up by x = min (by + x) (2 ^ 32 - 1)

-- an instruction with the numbers of what its indices name (Core 1.0, 4.4.3 for globals, 4.4.5 for functions and types)
abbrev pub resolved_instr : Instance → Instr → Instr
resolved_instr i (Call func) = Call (i.funcs func)
resolved_instr i (CallIndirect ty) = CallIndirect (i.types ty)
resolved_instr i (GlobalGet global) = GlobalGet (i.globals global)
resolved_instr i (GlobalSet global) = GlobalSet (i.globals global)
resolved_instr i (RefFunc func) = RefFunc (i.funcs func)
resolved_instr i instr = instr

-- The functions of a run, of one module or of several. The program has types and functions by their numbers, and each
-- defined function with the body that its module has. The instance of a function is the one that the indices in its
-- body belong to (Core 1.0, 4.2.6).
pub record World : Type 0 where
  pub program : Program
  pub instance_of : ℕ → Instance

-- a sequence of instructions in which the indices of the next one are resolved
abbrev pub resolved_next : Instance → Nest → Nest
resolved_next i (Plain instr rest) = Plain (resolved_instr i instr) rest
resolved_next i nest = nest

-- an activation in which the indices of the next instruction are resolved, by the instance of its function
abbrev pub resolved_frame : World → Frame → Frame
resolved_frame w frame =
    record frame { at = place (resolved_next (w.instance_of frame.func) frame.at.rest) frame.at.number }

-- a stack in whose topmost activation the indices of the next instruction are resolved; the host has no indices
abbrev pub resolved_stack : World → List Activation → List Activation
resolved_stack w (InModule frame ∷ below) = InModule (resolved_frame w frame) ∷ below
resolved_stack w stack = stack

-- one step: an instruction, whose indices are those of its function's instance (Core 1.0, 4.4.5), or an action of the
-- host
abbrev pub step_in : World → Config → StepResult
step_in w config = step w.program (record config { stack = resolved_stack w config.stack })

-- the run after `k` steps, or after fewer if it is over before
abbrev pub steps_in : World → Meter → ℕ → Progress → Run
steps_in w meter zero at = run_at at
steps_in w meter (suc k) (Running config) =
    run_after (step_in w config).entries (weight meter config) (steps_in w meter k (step_in w config).next)
steps_in w meter (suc k) at = run_at at

-- the run after `k` steps from its start, which takes no turn
abbrev pub run_in : World → Meter → StepResult → ℕ → Run
run_in w meter initial k = run_after initial.entries 0 (steps_in w meter k initial.next)
