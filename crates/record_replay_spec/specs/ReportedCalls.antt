-- The hook calls of a run of the original module, in order, by the entries of the run.
use Rattle.std.specs.Prelude.{ℕ, suc, ◌-◌, List, [], ◌∷◌, ◌++◌, length, map, take, Option, Some, None, cond, slice_get}
use Rattle.wasm_syntax.specs.declared.values.ValType.TheVariants.{I64}
use Rattle.wasm_syntax.specs.declared.values.Val.{Val}
use Rattle.wasm_syntax.specs.declared.signatures.GlobalType.{GlobalType}
use Rattle.wasm_syntax.specs.declared.instructions.Instr.{Instr}
use Rattle.wasm_syntax.specs.declared.instructions.Instr.TheVariants as instrs
use Rattle.wasm_syntax.specs.declared.modules.Module.{Module}
use Rattle.wasm_syntax.specs.Alike.{type_byte}
use Rattle.wasm_syntax.specs.Index.{all_globals}
use Rattle.wasm_syntax.specs.Nest.{Nest, Plain}
use Rattle.wasm_syntax.specs.Opcodes.{load_of, store_of}
use Rattle.history_spec.specs.declared.entries.Entry.{Entry}
use Rattle.history_spec.specs.declared.entries.Entry.TheVariants as entries
use Rattle.history_spec.specs.Code.{i32_value}
use Rattle.history_spec.specs.Store.{Store}
use Rattle.history_spec.specs.Configuration.{Activation, InModule, InMain, InImport, Config}
use Rattle.history_spec.specs.Instruction.{Goes, Execution, Did, bits_at, execute}
use Rattle.history_spec.specs.Action.{ActionResult, Changes, perform}
use Rattle.history_spec.specs.Step.{Program, Progress, Running, StepResult, step}
use Rattle.record_replay_spec.specs.declared.hooks.Hook.{Hook}
use Rattle.record_replay_spec.specs.declared.hooks.Hook.TheVariants.{Arg, Enter, Leave, Pre, Post, Ipre, Ipost, Load, Store as ToStore, Size, Grow, Gget, Gset, Copy, Fill}
use Rattle.record_replay_spec.specs.Hooks.{HookCall, on}

-- ---- moments: the entries of a run, each with the parts of the configurations at its step that hook calls depend on

-- an entry; the instruction of its step, if that is the module's; the stores before and after the step
pub record Moment : Type 0 where
  pub entry : Entry
  pub instr : Option Instr
  pub before : Store
  pub after : Store

-- the next instruction of a body, if it opens no block
abbrev pub next_of_nest : Nest → Option Instr
next_of_nest (Plain i rest) = Some i
next_of_nest nest = None

-- the next instruction of the topmost activation, if it opens no block
abbrev pub next_instr : List Activation → Option Instr
next_instr (InModule frame ∷ below) = next_of_nest frame.at.rest
next_instr stack = None

-- the store that an instruction leaves
abbrev pub store_executed : Store → Execution → Store
store_executed store (Did operands results found (Goes left frame)) = left
store_executed store execution = store

-- the store that an action leaves
abbrev pub store_performed : Store → ActionResult → Store
store_performed store (Changes left) = left
store_performed store result = store

-- the store that a step leaves, also the last step of a run
abbrev pub store_after : Program → Store → List Activation → Store
store_after program store (InModule frame ∷ below) = store_executed store (execute program.code store frame)
store_after program store (InMain (action ∷ actions) ∷ below) =
    store_performed store (perform program.code store [] action)
store_after program store (InImport import args (action ∷ actions) end ∷ below) =
    store_performed store (perform program.code store args action)
store_after program store stack = store

-- the moments of a step
abbrev pub moments_of_step : Program → Config → List Moment
moments_of_step program config =
    map (λ entry. record {
      entry = entry;
      instr = next_instr config.stack;
      before = config.store;
      after = store_after program config.store config.stack;
    }) (step program config).entries

-- the moments of at most `k` steps
abbrev pub moments : Program → ℕ → Progress → List Moment
moments program (suc k) (Running config) =
    moments_of_step program config ++ moments program k (step program config).next
moments program k at = []

-- the moments of a run that begins in this store, from the start of the run
abbrev pub run_moments : Program → Store → StepResult → ℕ → List Moment
run_moments program store initial k =
    map (λ entry. record { entry = entry; instr = None; before = store; after = store }) initial.entries
    ++ moments program k initial.next

-- ---- hook calls

-- bits as an i64
abbrev pub i64_value : ℕ → Val
i64_value bits = record { ty = I64; bits = bits }

-- a hook call with these arguments
abbrev pub reported : Hook → List Val → Store → List HookCall
reported kind args view = record { kind = kind; args = args; view = view } ∷ []

-- the hook call that reports one number
abbrev pub reported_number : Hook → ℕ → Store → List HookCall
reported_number kind number view = reported kind (i32_value number ∷ []) view

-- the hook calls that report values, each by a call of its own
abbrev pub reported_values : Store → List Val → List HookCall
reported_values view [] = []
reported_values view (value ∷ values) =
    reported Arg (i32_value (type_byte value.ty) ∷ i64_value value.bits ∷ []) view ++ reported_values view values

-- the hook call that reports a global with its bits
abbrev pub reported_global : Hook → (global bits : ℕ) → Store → List HookCall
reported_global kind global bits view = reported kind (i32_value global ∷ i64_value bits ∷ []) view

-- ---- the hook calls of an instruction

-- the hook calls before an instruction with these operands, also if it traps
abbrev pub reported_before : Instr → (operands : List Val) → Store → List HookCall
reported_before (instrs.Call func) operands view = reported_number Pre func view
reported_before (instrs.CallIndirect ty) operands view =
    reported_number Ipre (bits_at operands (length operands - 1)) view
reported_before (instrs.Load at) operands view =
    on (load_of at.op) (λ access.
    reported Load (i32_value (bits_at operands 0) ∷ i32_value at.offset ∷ i32_value access.width ∷ []) view)
reported_before (instrs.Store at) operands view =
    on (store_of at.op) (λ access.
    reported ToStore
    (i32_value (bits_at operands 0) ∷ i32_value at.offset ∷ i32_value access.width
    ∷ i64_value (bits_at operands 1) ∷ [])
    view)
reported_before instrs.MemorySize operands view = reported Size [] view
reported_before (instrs.GlobalSet global) operands view = reported_global Gset global (bits_at operands 0) view
reported_before instrs.MemoryCopy operands view = reported Copy operands view
reported_before instrs.MemoryFill operands view = reported Fill operands view
reported_before i operands view = []

-- the hook calls after an instruction that did not trap; hooks report mutable globals alone
abbrev pub reported_after : List GlobalType → Instr → (results : List Val) → Store → List HookCall
reported_after globals instrs.MemoryGrow results view = reported Grow results view
reported_after globals (instrs.GlobalGet global) results view =
    on (slice_get globals global) (λ ty.
    cond ty.mutable (reported_global Gget global (bits_at results 0) view) [])
reported_after globals i results view = []

-- ---- calls that the module made and that have not ended

-- a waiting call, by the function's index or by the table, and its arguments
pub record WaitingCall : Type 0 where
  pub callee : Option ℕ
  pub args : List Val

-- the waiting calls, the latest first, after an instruction: one more if the instruction calls
abbrev pub waiting_after : Instr → (operands : List Val) → List WaitingCall → List WaitingCall
waiting_after (instrs.Call func) operands waiting = record { callee = Some func; args = operands } ∷ waiting
waiting_after (instrs.CallIndirect ty) operands waiting =
    record { callee = None; args = take (length operands - 1) operands } ∷ waiting
waiting_after i operands waiting = waiting

-- the arguments of the latest waiting call
abbrev pub latest_args : List WaitingCall → List Val
latest_args [] = []
latest_args (call ∷ waiting) = call.args

-- the waiting calls after the latest has ended
abbrev pub without_latest : List WaitingCall → List WaitingCall
without_latest [] = []
without_latest (call ∷ waiting) = waiting

-- the hook calls when a function is entered with arguments
abbrev pub reported_enter : ℕ → List Val → Store → List HookCall
reported_enter func args view = reported_values view args ++ reported_number Enter func view

-- the hook call when a call ends, by its kind
abbrev pub reported_over : Option ℕ → Store → List HookCall
reported_over (Some func) view = reported_number Post func view
reported_over None view = reported Ipost [] view

-- the hook calls when control returns to the module with results
abbrev pub reported_return : List WaitingCall → List Val → Store → List HookCall
reported_return [] results view = []
reported_return (call ∷ waiting) results view = reported_values view results ++ reported_over call.callee view

-- ---- all hook calls

-- the hook calls of a step's own entry, given the step's instruction
abbrev pub reported_by_step : List GlobalType → Option Instr → (operands results : List Val) → Moment → List HookCall
reported_by_step globals instr operands results m =
    on instr (λ i. reported_before i operands m.before ++ reported_after globals i results m.after)

-- the hook calls of a trap
abbrev pub reported_by_trap : Option Instr → (operands : List Val) → Moment → List HookCall
reported_by_trap instr operands m = on instr (λ i. reported_before i operands m.before)

-- the waiting calls after a step
abbrev pub waiting_after_step : Option Instr → (operands : List Val) → List WaitingCall → List WaitingCall
waiting_after_step None operands waiting = waiting
waiting_after_step (Some i) operands waiting = waiting_after i operands waiting

-- the hook calls of an entry, given the waiting calls
abbrev pub reported_at : List GlobalType → List WaitingCall → Moment → Entry → List HookCall
reported_at globals waiting m (entries.HostCall func args) = reported_enter func args m.after
reported_at globals waiting m (entries.Enter func) = reported_enter func (latest_args waiting) m.after
reported_at globals waiting m (entries.HostReturn func results) = reported_number Leave func m.after
reported_at globals waiting m (entries.Exit func results) =
    reported_number Leave func m.after ++ reported_return waiting results m.after
reported_at globals waiting m (entries.ImportReturn import results) = reported_return waiting results m.after
reported_at globals waiting m (entries.Step func number operands results found) =
    reported_by_step globals m.instr operands results m
reported_at globals waiting m (entries.Trap func number kind operands found) = reported_by_trap m.instr operands m
reported_at globals waiting m entry = []

-- the waiting calls after an entry
abbrev pub waiting_at : List WaitingCall → Moment → Entry → List WaitingCall
waiting_at waiting m (entries.Exit func results) = without_latest waiting
waiting_at waiting m (entries.ImportReturn import results) = without_latest waiting
waiting_at waiting m (entries.Step func number operands results found) = waiting_after_step m.instr operands waiting
waiting_at waiting m entry = waiting

-- the hook calls of a list of moments
abbrev pub reported_calls : List GlobalType → List WaitingCall → List Moment → List HookCall
reported_calls globals waiting [] = []
reported_calls globals waiting (m ∷ later) =
    reported_at globals waiting m m.entry ++ reported_calls globals (waiting_at waiting m m.entry) later

-- the hook calls of a run of the original, of at most `k` steps
abbrev pub reported_by_run : Module → Program → Store → StepResult → ℕ → List HookCall
reported_by_run m program store initial k = reported_calls (all_globals m) [] (run_moments program store initial k)
