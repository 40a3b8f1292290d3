-- The index spaces of the definitions, by those of the code.
use Rattle.wasm_syntax.specs.declared.modules.ImportKind.{ImportKind}
use Rattle.wasm_syntax.specs.declared.modules.ImportKind.TheVariants as import
use Rattle.pair_spec.specs.Pairs.{Space, Funcs, Tables, Memories, Globals}
use Rattle.pair_ends.specs.declared.spaces.IndexSpace.{IndexSpace}
use Rattle.pair_ends.specs.declared.spaces.IndexSpace.TheVariants as code

-- an index space, as the definitions have it
abbrev pub space : IndexSpace → Space
space code.Funcs = Funcs
space code.Tables = Tables
space code.Memories = Memories
space code.Globals = Globals

-- the index space of an import
abbrev pub kind_space : ImportKind → IndexSpace
kind_space (import.Func ty) = code.Funcs
kind_space (import.Table limits) = code.Tables
kind_space (import.Memory limits) = code.Memories
kind_space (import.Global ty) = code.Globals
