-- How long the shortest encoding of a replay module may be.
use Rattle.std.specs.Prelude.{ℕ, ◌+◌, ◌*◌, [], length}
use Rattle.wasm_syntax.specs.declared.modules.Module.{Module}
use Rattle.wasm_syntax.specs.Encoding.Shortest.{encoding_of}
use Rattle.wasm_syntax.specs.Index.{all_globals}

-- a bound in bytes: it depends on the original without its custom sections, on its numbers of globals, segments
-- and imports, and on the weight of the tape
abbrev pub max_bytes : Module → (weight : ℕ) → ℕ
max_bytes m weight =
    length (encoding_of (record m { customs = [] }))
    + 16 * (length (all_globals m) + (length m.elems + length m.datas))
    + 96 * length m.imports
    + 96 * weight
    + 1024
