-- The results of instructions and of actions of the host in well-typed configurations.
use Rattle.std.specs.Prelude.{◌≡◌, ◌≤◌, [], Some}
use Rattle.wasm_syntax.specs.declared.signatures.FuncType.{FuncType}
use Rattle.wasm_syntax.specs.declared.modules.Module.{Module}
use Rattle.wasm_syntax.specs.Index.{imported_funcs}
use Rattle.history_spec.specs.Action.{ActionResult, Changes, Enters, Fails, Unfit}
use Rattle.history_spec.specs.Code.{code_of, signature}
use Rattle.history_spec.specs.Instruction.{Control, Goes, Calls, Returns, Execution, Did, Traps, NoRule}
use Rattle.type_safety.specs.Values.{AreValues}
use Rattle.type_safety.specs.Stores.{func_count, IsStore}
use Rattle.type_safety.specs.Frames.{Scope, IsFrame}

-- control goes on in a well-typed store and activation; or it enters a function with arguments of its types, and
-- the activation waits for its results; or it leaves the function with results of its types
abbrev pub IsControl : Scope → Control → Type 0
IsControl s (Goes store frame) = IsStore s.m store × IsFrame s [] frame
IsControl s (Calls frame func args) =
    (ty : FuncType) × (signature (code_of s.m) func ≡ Some ty)
    × IsFrame s ty.results frame × AreValues (func_count s.m) ty.params args
IsControl s (Returns results) = AreValues (func_count s.m) s.ty.results results

-- an instruction has a rule, and its result is well typed
abbrev pub HasRule : Scope → Execution → Type 0
HasRule s (Did operands results found control) = IsControl s control
HasRule s (Traps kind operands found) = Unit {0}
HasRule s NoRule = ⊥

-- an action leaves a well-typed store; or it calls a defined function with arguments of its types; or it fails for a
-- named cause
abbrev pub IsActionResult : Module → ActionResult → Type 0
IsActionResult m (Changes store) = IsStore m store
IsActionResult m (Enters func args) =
    (ty : FuncType) × (signature (code_of m) func ≡ Some ty)
    × (imported_funcs m ≤ func) × AreValues (func_count m) ty.params args
IsActionResult m (Fails kind) = Unit {0}
IsActionResult m Unfit = ⊥
