use Rattle.std.proofs.Common.{◌≡◌, ◌++◌, drop}
use Rattle.wasm_syntax.specs.Index.{of_kind, memory_import}
use Rattle.pair_ends.proofs.types.imported_memories.Given as goal

-- the limits found and those still to be found are all
abbrev pub invariant-imports : goal.invariant-imports
invariant-imports l = l.memories.items ++ of_kind memory_import (drop l.import-index l.import-items) ≡ of_kind memory_import l.«module».imports
