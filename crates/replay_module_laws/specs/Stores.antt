-- The store of a replay module's run beside one of the original.
use Rattle.std.specs.Prelude.{ℕ, ◌%◌, ◌^◌, List, ◌++◌, map, min, option_map}
use Rattle.wasm_syntax.specs.declared.limits.TheConstants.{MAX_DECLARED_PAGES}
use Rattle.wasm_syntax.specs.declared.values.Val.{Val}
use Rattle.history_spec.specs.Code.{i32_value}
use Rattle.history_spec.specs.Store.{Store, Memory}

-- the counters for these numbers of calls
abbrev pub counters : List ℕ → List Val
counters counts = map (λ count. i32_value (count % 2 ^ 32)) counts

-- a memory with its maximum cut to the greatest that may be encoded
abbrev pub memory_cut : Memory → Memory
memory_cut memory = record memory { max = option_map (λ max. min max MAX_DECLARED_PAGES) memory.max }

-- the store of a replay module beside one of the original: the same, with the maximum cut, and with globals of its own
-- after the original's
abbrev pub with_own : (own : List Val) → Store → Store
with_own own store =
    record { memory = option_map memory_cut store.memory; table = store.table; globals = store.globals ++ own }
