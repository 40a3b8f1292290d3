-- The store that a module's run under a script begins with (Core 1.0, 4.5.4).
use Rattle.std.specs.Prelude.{◌≡◌, ℕ, ◌+◌, ◌≤◌, List, length, Bool, true, Option, Result, Ok, Err, nat_le, option_map, slice_get}
use Rattle.std.specs.Option.{option_or}
use Rattle.wasm_syntax.specs.declared.limits.TheConstants.{MAX_ENTRIES, MAX_PAGES}
use Rattle.wasm_syntax.specs.declared.values.Val.{Val}
use Rattle.wasm_syntax.specs.declared.signatures.Limits.{Limits}
use Rattle.wasm_syntax.specs.declared.modules.Module.{Module}
use Rattle.wasm_syntax.specs.declared.modules.ElemSeg.{ElemSeg}
use Rattle.wasm_syntax.specs.declared.modules.ElemSeg.TheVariants.{Active, Declared}
use Rattle.wasm_syntax.specs.declared.modules.DataSeg.{DataSeg}
use Rattle.host_script.specs.declared.scripts.Script.{Script}
use Rattle.host_script.specs.declared.scripts.Supply.{Supply}
use Rattle.host_script.specs.declared.scripts.LinkFault.{LinkFault}
use Rattle.host_script.specs.Supply.{supply_of}
use Rattle.history_spec.specs.Store.{Store}
use Rattle.history_spec.specs.Instantiation.{memory_limits, offset_of, table_limits, with_datas, with_elems, instantiate}
use Rattle.wasm_store.specs.Parts.{minimum_of}

-- the store of a module with what is supplied, or why it does not link
abbrev pub with_supply : Module → Result Supply LinkFault → Result Store LinkFault
with_supply m (Ok supply) = instantiate m supply
with_supply m (Err fault) = Err fault

-- the store, or the first import that is not supplied or does not match, or else the first segment that does not fit
abbrev pub link_result : Module → Script → Result Store LinkFault
link_result m script = with_supply m (supply_of m script)

-- whether an element segment fits within a table of this many entries; one that is only declared always fits
abbrev pub elem_fits_in : (entries : ℕ) → List Val → ElemSeg → Bool
elem_fits_in entries imported (Active table offset funcs) = nat_le (offset_of imported offset + length funcs) entries
elem_fits_in entries imported (Declared funcs) = true

-- whether a data segment is within a memory of this many bytes
abbrev pub data_fits_in : (bytes : ℕ) → List Val → DataSeg → Bool
data_fits_in bytes imported segment = nat_le (offset_of imported segment.offset + length segment.bytes) bytes

-- a store with element segments written
abbrev pub with_elems_in : List Val → List ElemSeg → Store → Store
with_elems_in imported elems store = record store { table = option_map (with_elems imported elems) store.table }

-- a store with data segments written
abbrev pub with_datas_in : List Val → List DataSeg → Store → Store
with_datas_in imported datas store = record store { memory = option_map (with_datas imported datas) store.memory }

-- the limits that are supplied, or else those that are declared first
abbrev pub first_of : Option Limits → List Limits → Option Limits
first_of supplied declared = option_or supplied (slice_get declared 0)

-- memory and table have the supplied limits, or else the declared ones, and begin within the most of any
pub record HasLimits (m : Module) (supply : Supply) : Type 0 where
  pub memory : memory_limits m supply ≡ first_of supply.memory m.memories
  pub table : table_limits m supply ≡ first_of supply.table m.tables
  pub few_pages : minimum_of (memory_limits m supply) ≤ MAX_PAGES
  pub few_entries : minimum_of (table_limits m supply) ≤ MAX_ENTRIES
