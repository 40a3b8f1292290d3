-- The store that a run of a module begins with (Core 1.0, 4.5.4).
use Rattle.std.specs.Prelude.{ℕ, ◌+◌, ◌*◌, List, [], ◌∷◌, ◌++◌, Option, Some, None, Result, Ok, Err, Bool, true, false, length, map, fold, nat_le, replicate, slice_get, option_map, unwrap_or}
use Rattle.wasm_syntax.specs.declared.limits.TheConstants.{PAGE_SIZE}
use Rattle.wasm_syntax.specs.declared.values.Val.{Val}
use Rattle.wasm_syntax.specs.declared.values.ValType.TheVariants.{I32}
use Rattle.wasm_syntax.specs.declared.signatures.Limits.{Limits}
use Rattle.wasm_syntax.specs.declared.instructions.Instr.{Instr}
use Rattle.wasm_syntax.specs.declared.instructions.Instr.TheVariants.{End, GlobalGet, Const}
use Rattle.wasm_syntax.specs.declared.modules.Module.{Module}
use Rattle.wasm_syntax.specs.declared.modules.Global.{Global}
use Rattle.wasm_syntax.specs.declared.modules.ElemSeg.{ElemSeg}
use Rattle.wasm_syntax.specs.declared.modules.ElemSeg.TheVariants.{Active, Declared}
use Rattle.wasm_syntax.specs.declared.modules.DataSeg.{DataSeg}
use Rattle.wasm_syntax.specs.Index.{of_kind, memory_import, table_import}
use Rattle.host_script.specs.declared.scripts.Supply.{Supply}
use Rattle.host_script.specs.declared.scripts.LinkFault.{LinkFault}
use Rattle.host_script.specs.declared.scripts.LinkFault.TheVariants.{Segment}
use Rattle.history_spec.specs.Store.{Store, Memory, Table, zeros, with_items_at}
use Rattle.history_spec.specs.Code.{zero_of}

-- ---- constant expressions (Core 1.0, 3.3.7)

-- the value of a constant expression, given the values of the imported globals; for any other body, which
-- validity excludes, the value `other`
abbrev pub constant : List Val → Val → List Instr → Val
constant imported other (Const value ∷ End ∷ []) = value
constant imported other (GlobalGet x ∷ End ∷ []) = unwrap_or (slice_get imported x) other
constant imported other body = other

-- the initial value of a global (Core 1.0, 4.5.3)
abbrev pub global_value : List Val → Global → Val
global_value imported global = constant imported (zero_of global.ty.ty) global.init

-- the offset of a segment, read without sign (Core 1.0, 4.5.4)
abbrev pub offset_of : List Val → List Instr → ℕ
offset_of imported body = (constant imported (zero_of I32) body).bits

-- ---- before the segments

-- the limits of a memory or table: the supplied ones if it is imported, else the declared ones
abbrev pub limits_of : List Limits → Option Limits → List Limits → Option Limits
limits_of [] supplied [] = None
limits_of [] supplied (defined ∷ more) = Some defined
limits_of (import ∷ imports) supplied defined = supplied

-- the limits of the memory
abbrev pub memory_limits : Module → Supply → Option Limits
memory_limits m supply = limits_of (of_kind memory_import m.imports) supply.memory m.memories

-- the limits of the table
abbrev pub table_limits : Module → Supply → Option Limits
table_limits m supply = limits_of (of_kind table_import m.imports) supply.table m.tables

-- a memory of zeros (Core 1.0, 4.5.3)
abbrev pub new_memory : Limits → Memory
new_memory limits = record { bytes = zeros (limits.min * PAGE_SIZE); max = limits.max }

-- a table of empty entries (Core 1.0, 4.5.3)
abbrev pub new_table : Limits → Table
new_table limits = record { entries = replicate limits.min None; max = limits.max }

-- the store before its segments are written (Core 1.0, 4.5.4)
abbrev pub new_store : Module → Supply → Store
new_store m supply =
    record {
      memory = option_map new_memory (memory_limits m supply);
      table = option_map new_table (table_limits m supply);
      globals = supply.globals ++ map (global_value supply.globals) m.globals;
    }

-- ---- segments

-- the number of bytes of a memory, 0 without one
abbrev pub memory_length : Option Memory → ℕ
memory_length None = 0
memory_length (Some memory) = length memory.bytes

-- the number of entries of a table, 0 without one
abbrev pub table_length : Option Table → ℕ
table_length None = 0
table_length (Some table) = length table.entries

-- whether an element segment fits within the table; a segment that is only declared always fits (Core 1.0, 4.5.4)
abbrev pub elem_fits : List Val → Store → ElemSeg → Bool
elem_fits imported store (Active table offset funcs) =
    nat_le (offset_of imported offset + length funcs) (table_length store.table)
elem_fits imported store (Declared funcs) = true

-- whether a data segment is within the memory (Core 1.0, 4.5.4)
abbrev pub data_fits : List Val → Store → DataSeg → Bool
data_fits imported store segment =
    nat_le (offset_of imported segment.offset + length segment.bytes) (memory_length store.memory)

-- the place of the first test that fails, counted from `at` on
abbrev pub first_false : ℕ → List Bool → Option ℕ
first_false at [] = None
first_false at (true ∷ rest) = first_false (at + 1) rest
first_false at (false ∷ rest) = Some at

-- the place of the first segment that does not fit, element segments before data segments
abbrev pub first_unfit : Module → List Val → Store → Option ℕ
first_unfit m imported store =
    first_false 0 (map (elem_fits imported store) m.elems ++ map (data_fits imported store) m.datas)

-- entries with an element segment written
abbrev pub with_elem : List Val → List (Option ℕ) → ElemSeg → List (Option ℕ)
with_elem imported entries (Active table offset funcs) =
    with_items_at entries (offset_of imported offset) (map (λ func. Some func) funcs)
with_elem imported entries (Declared funcs) = entries

-- bytes with a data segment written
abbrev pub with_data : List Val → List ℕ → DataSeg → List ℕ
with_data imported bytes segment = with_items_at bytes (offset_of imported segment.offset) segment.bytes

-- a memory with data segments written one after another
abbrev pub with_datas : List Val → List DataSeg → Memory → Memory
with_datas imported datas memory = record memory { bytes = fold (with_data imported) memory.bytes datas }

-- a table with element segments written one after another
abbrev pub with_elems : List Val → List ElemSeg → Table → Table
with_elems imported elems table = record table { entries = fold (with_elem imported) table.entries elems }

-- the store with all segments written one after another
abbrev pub with_segments : Module → List Val → Store → Store
with_segments m imported store =
    record store {
      memory = option_map (with_datas imported m.datas) store.memory;
      table = option_map (with_elems imported m.elems) store.table;
    }

-- the store, or the fault of a segment that does not fit
abbrev pub store_unless : Option ℕ → Store → Result Store LinkFault
store_unless None store = Ok store
store_unless (Some number) store = Err (Segment number)

-- the store of a module with a supply that matches its imports, or the fault of the first segment that does not
-- fit (Core 1.0, 4.5.4)
abbrev pub instantiate : Module → Supply → Result Store LinkFault
instantiate m supply =
    let store = new_store m supply
    in store_unless (first_unfit m supply.globals store) (with_segments m supply.globals store)
