-- Modules whose places fit 32 bits.
use Rattle.std.specs.Prelude.{ℕ, ◌^◌, ◌<◌, length}
use Rattle.std.specs.List.{AllByRecursion}
use Rattle.wasm_syntax.specs.Index.{func_indices}
use Rattle.wasm_syntax.specs.declared.modules.Func.{Func}
use Rattle.wasm_syntax.specs.declared.modules.Module.{Module}

-- the bound of list lengths: each list has fewer items
abbrev pub list_limit : ℕ
list_limit = 2 ^ 31

-- a function with a short body and few runs of locals
pub record IsShortFunc (func : Func) : Type 0 where
  pub body : length func.body < list_limit
  pub locals : length func.locals < list_limit

-- a module with few imports and functions, each of them short
pub record HasShortLists (m : Module) : Type 0 where
  pub imports : length m.imports < list_limit
  pub funcs : length (func_indices m) < list_limit
  pub each_func : AllByRecursion IsShortFunc m.funcs
