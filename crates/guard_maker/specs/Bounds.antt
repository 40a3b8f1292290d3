-- When the numbers of a guarded module have 32 bits.
use Rattle.std.specs.Prelude.{ℕ, List, ◌+◌, ◌^◌, ◌<◌, ◌≤◌, length}
use Rattle.wasm_syntax.specs.declared.signatures.FuncType.{FuncType}
use Rattle.wasm_syntax.specs.declared.modules.Module.{Module}
use Rattle.history_spec.specs.Projection.{Layout}
use Rattle.replay_module_spec.specs.Functions.{group_count}
use Rattle.guarded_module_spec.specs.declared.numbers.Numbers.{Numbers}
use Rattle.guarded_module_spec.specs.GuardedModules.{type_in}

-- the types and globals of its own, and its functions up to the first group of words, have numbers of 32 bits
pub record HasRoom (n : Numbers) : Type 0 where
  pub types : n.types + 3 < 2 ^ 32
  pub globals : n.globals + 2 < 2 ^ 32
  pub funcs : n.funcs + n.past + 4 < 2 ^ 32
  pub digests : n.digests ≤ 1

-- each type has few parameters, and at most one result
pub record HasSmallTypes (types : List FuncType) : Type 0 where
  pub params : (ty : ℕ) → length (type_in types ty).params + 1 < 2 ^ 32
  pub results : (ty : ℕ) → length (type_in types ty).results < 2

-- all types, globals, functions and locals of a guarded module for this number of words have numbers of 32 bits
pub record FitsNumbers (m : Module) (layout : Layout) (words : ℕ) : Type 0 where
  pub types : length m.types + 3 < 2 ^ 32
  pub globals : length m.globals + 2 < 2 ^ 32
  pub funcs : length m.funcs + (layout.imports + layout.defined) + 4 + group_count words < 2 ^ 32
  pub within : layout.imports + layout.defined ≤ length m.funcs
  pub few_words : words < 2 ^ 32
  pub small : HasSmallTypes m.types
