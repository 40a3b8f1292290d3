-- Modules whose lists have at most a given number of items.
use Rattle.std.specs.Prelude.{ℕ, List, ◌≤◌, ◌+◌, length, All}
use Rattle.wasm_syntax.specs.declared.forms.Form.{Form}
use Rattle.wasm_syntax.specs.declared.signatures.FuncType.{FuncType}
use Rattle.wasm_syntax.specs.declared.modules.Func.{Func}
use Rattle.wasm_syntax.specs.declared.modules.Module.{Module}
use Rattle.wasm_syntax.specs.Encoding.Modules.{Encodes}
use Rattle.wasm_syntax.specs.Index.{func_indices}

-- types, imports and functions together, imported and defined functions, and of each type the parameters, of
-- each function the runs of locals and the instructions, are at most this number
pub record HasListsWithin (most : ℕ) (m : Module) : Type 0 where
  pub parts : length m.types + length m.imports + length m.funcs ≤ most
  pub funcs : length (func_indices m) ≤ most
  pub params : All (λ (ty : FuncType). length ty.params ≤ most) m.types
  pub locals : All (λ (func : Func). length func.locals ≤ most) m.funcs
  pub bodies : All (λ (func : Func). length func.body ≤ most) m.funcs

-- the list lengths of a module are at most the number of bytes that encode the module
abbrev pub ListsAreWithinEncoding : Type 0
ListsAreWithinEncoding =
    (form : Form) (bytes : List ℕ) (m : Module) → Encodes form bytes m → HasListsWithin (length bytes) m
