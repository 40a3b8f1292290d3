-- The module that begins in a known state, and what is supplied to it.
use Rattle.std.specs.Prelude.{ℕ, ◌/◌, List, [], ◌∷◌, cond, length, map, take, drop, None, option_map}
use Rattle.wasm_syntax.specs.declared.limits.TheConstants.{PAGE_SIZE}
use Rattle.wasm_syntax.specs.declared.values.Val.{Val}
use Rattle.wasm_syntax.specs.declared.signatures.Limits.{Limits}
use Rattle.wasm_syntax.specs.declared.instructions.Instr.TheVariants.{End, Const}
use Rattle.wasm_syntax.specs.declared.modules.Global.{Global}
use Rattle.wasm_syntax.specs.declared.modules.Module.{Module}
use Rattle.wasm_syntax.specs.Index.{imported_globals}
use Rattle.host_script.specs.declared.scripts.Supply.{Supply}
use Rattle.rest_spec.specs.KnownStates.{KnownState}
use Rattle.rest_spec.specs.StateSegments.{data_segments, elem_segments}

-- limits that begin with this size (Core 1.0, 2.3.4)
abbrev pub with_min : ℕ → Limits → Limits
with_min size limits = record limits { min = size }

-- the number of pages of a known state
abbrev pub state_pages : KnownState → ℕ
state_pages state = length state.bytes / PAGE_SIZE

-- a global with this initial value if it is mutable; an immutable one keeps its own (Core 1.0, 2.5.6)
abbrev pub state_global : Global → Val → Global
state_global global value = cond global.ty.mutable (record global { init = Const value ∷ End ∷ [] }) global

-- defined globals with known values
abbrev pub state_globals : List Global → List Val → List Global
state_globals [] values = []
state_globals (global ∷ globals) [] = global ∷ globals
state_globals (global ∷ globals) (value ∷ values) = state_global global value ∷ state_globals globals values

-- the module with its functions and indices, in a known state: its memory and its table have the known sizes as their
-- least ones, its segments hold the known bytes and entries, its mutable globals have the known values, and it has no
-- start function
abbrev pub state_module_of : Module → KnownState → Module
state_module_of m state =
    record m {
      tables = map (with_min (length state.entries)) m.tables;
      memories = map (with_min (state_pages state)) m.memories;
      globals = state_globals m.globals (drop (length (imported_globals m)) state.globals);
      start = None;
      elems = elem_segments state.entries;
      datas = data_segments state.bytes;
    }

-- the supply of the module in a known state: an imported memory or table of the known size, and imported globals with
-- the known values
abbrev pub state_supply_of : Supply → KnownState → Supply
state_supply_of supply state =
    record {
      memory = option_map (with_min (state_pages state)) supply.memory;
      table = option_map (with_min (length state.entries)) supply.table;
      globals = take (length supply.globals) state.globals;
    }
