-- What the order of hook calls needs of a module in the hooked form, in the parts that a shape holds.
use Rattle.std.specs.Prelude.{ℕ, ◌+◌, ◌<◌, ◌≤◌, ◌^◌, List, length, Bool, slice_get, option_and_then}
use Rattle.wasm_syntax.specs.declared.signatures.FuncType.{FuncType}
use Rattle.wasm_syntax.specs.declared.signatures.GlobalType.{GlobalType}
use Rattle.wasm_syntax.specs.declared.modules.Module.{Module}
use Rattle.wasm_syntax.specs.Index.{func_indices, all_memories, all_globals}
use Rattle.record_replay_spec.specs.Hooks.{hook_count, renumber}
use Rattle.record_replay_spec.specs.Order.{HookedShape, is_some_there}

-- the numbers of functions that the original imports and defines; the module's types, and the type index of each
-- of its functions; whether it has a memory; the types of its globals
pub record ShapeParts : Type 0 where
  pub imports : ℕ
  pub defined : ℕ
  pub types : List FuncType
  pub funcs : List ℕ
  pub memory : Bool
  pub globals : List GlobalType

-- the parts of the shape of a module, whose original imports `n` functions
abbrev pub parts_of : (n : ℕ) → Module → ShapeParts
parts_of n hooked =
    record {
      imports = n;
      defined = length hooked.funcs;
      types = hooked.types;
      funcs = func_indices hooked;
      memory = is_some_there (all_memories hooked);
      globals = all_globals hooked;
    }

-- the shape that has these parts
abbrev pub shape_from : ShapeParts → HookedShape
shape_from parts =
    record {
      imports = parts.imports;
      defined = parts.defined;
      type_of = λ func. option_and_then (slice_get parts.types) (slice_get parts.funcs (renumber parts.imports func));
      memory = parts.memory;
      globals = parts.globals;
    }

-- every function, with the hooks among them, and every global has an index of 32 bits
pub record HaveIndices (imports defined : ℕ) (globals : List GlobalType) : Type 0 where
  pub func : imports + defined + hook_count < 2 ^ 32
  pub global : length globals ≤ 2 ^ 32
