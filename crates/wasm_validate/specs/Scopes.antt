-- What is known in the body of a function, and the changes of its instructions there.
use Rattle.std.specs.Prelude.{◌≡◌, List, [], Option}
use Rattle.wasm_syntax.specs.declared.values.ValType.{ValType}
use Rattle.wasm_syntax.specs.declared.instructions.Instr.{Instr}
use Rattle.wasm_syntax.specs.declared.modules.Module.{Module}
use Rattle.wasm_syntax.specs.Typing.{Context, instr_type, results_of}
use Rattle.wasm_syntax.specs.KnownStacks.{Known, after_instr}
use Rattle.module_index.specs.Contexts.{context_of}
use Rattle.wasm_validate.specs.declared.changes.Change.{Change}
use Rattle.wasm_validate.specs.declared.func_scope.FuncScope.{FuncScope}
use Rattle.wasm_validate.specs.Flat.{Level, within}
use Rattle.wasm_validate.specs.Changes.{after_change}

-- what is known in a body with these locals and this result, but for its labels
abbrev pub base : Module → List ValType → Option ValType → Context
base m locals result = context_of m locals [] (results_of result)

abbrev pub base_of : FuncScope → Context
base_of f = base f.scope.now f.locals.now f.outcome

-- the change is that of the instruction
abbrev pub Gives : Option Change → Context → Instr → Type 0
Gives change ctx i = (here : Known) → after_change change here ≡ after_instr ctx (instr_type ctx i) here

-- the change is that of the instruction within any blocks of a function's body
abbrev pub GivesWithin : Option Change → FuncScope → Instr → Type 0
GivesWithin change f i = (levels : List Level) → Gives change (within (base_of f) levels) i
