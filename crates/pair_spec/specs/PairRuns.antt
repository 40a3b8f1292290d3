-- The run of two modules over one store of memory, table and globals. Both are taken as they are; what their indices
-- name is looked up when an instruction is executed. An import from the other side is what it comes to, so that its
-- call is a call within the run.
use Rattle.std.specs.Prelude.{ℕ, ◌-◌, List, [], ◌++◌, length, map, Option, Some, None, Result, Ok, Err, cond, nat_lt, option_map, replicate, slice_get}
use Rattle.std.specs.List.{slice_index_or}
use Rattle.std.specs.Option.{option_map_or, option_or}
use Rattle.wasm_syntax.specs.declared.values.Val.{Val}
use Rattle.wasm_syntax.specs.declared.values.ValType.TheVariants.{I32}
use Rattle.wasm_syntax.specs.declared.instructions.Instr.{Instr}
use Rattle.wasm_syntax.specs.declared.modules.Func.{Func}
use Rattle.wasm_syntax.specs.declared.modules.Global.{Global}
use Rattle.wasm_syntax.specs.declared.modules.Import.{Import}
use Rattle.wasm_syntax.specs.Index.{of_kind, func_import, memory_import, table_import}
use Rattle.host_script.specs.declared.scripts.Script.{Script}
use Rattle.host_script.specs.declared.scripts.Supply.{Supply}
use Rattle.host_script.specs.declared.scripts.LinkFault.{LinkFault}
use Rattle.host_script.specs.Supply.{first_fault, given_values, if_imported, supply_unless}
use Rattle.history_spec.specs.Store.{Store}
use Rattle.history_spec.specs.Code.{Code, definition_of, zero_of}
use Rattle.history_spec.specs.Instantiation.{constant, global_value, limits_of, new_memory, new_table, elem_fits, data_fits, first_false, with_elems, with_datas, store_unless}
use Rattle.history_spec.specs.Step.{StepResult, start}
use Rattle.instance_spec.specs.declared.sides.Side.{Side}
use Rattle.instance_spec.specs.declared.sides.Side.TheVariants.{Left, Right}
use Rattle.instance_spec.specs.Instances.{World}
use Rattle.instance_spec.specs.ForeignRuns.{count_from}
use Rattle.instance_spec.specs.Widened.{renamed_elem}
use Rattle.pair_spec.specs.Pairs.{ModulePair, module_of, host_imports, Funcs, Globals, imports_in}
use Rattle.pair_spec.specs.Chains.{ChainEnd, Defined, HostImport, end_of}
use Rattle.pair_spec.specs.Numbers.{all_hosts, defined_before, number_of, side_instance}

-- ---- functions

-- the types of the host's functions that a side imports
abbrev pub host_types : ModulePair → Side → List ℕ
host_types pair side =
    map ((side_instance pair side).types) (of_kind func_import (host_imports side (module_of pair side).imports))

-- the types of the functions that a side defines
abbrev pub func_types : ModulePair → Side → List ℕ
func_types pair side = map (λ (f : Func). (side_instance pair side).types f.ty) (module_of pair side).funcs

-- the types and functions of the run, by their numbers, with their bodies as they are (Core 1.0, 4.2.6)
abbrev pub pair_code : ModulePair → Code
pair_code pair =
    record {
      types = pair.left.types ++ pair.right.types;
      imported = all_hosts pair Funcs;
      indices = (host_types pair Left ++ host_types pair Right) ++ (func_types pair Left ++ func_types pair Right);
      defined = map definition_of pair.left.funcs ++ map definition_of pair.right.funcs;
    }

-- the side that defines a function
abbrev pub defining_side : ModulePair → (func : ℕ) → Side
defining_side pair func = cond (nat_lt func (defined_before pair Funcs Right)) Left Right

-- the functions of the run with the answers of a script, which has them by the numbers of the functions; the indices in
-- a body are those of the module that defines it
abbrev pub pair_world : ModulePair → Script → World
pair_world pair script =
    record {
      program = record { code = pair_code pair; answers = script.imports };
      instance_of = λ func. side_instance pair (defining_side pair func);
    }

-- ---- supply

-- the host's imports of both sides
abbrev pub pair_hosts : ModulePair → List Import
pair_hosts pair = host_imports Left pair.left.imports ++ host_imports Right pair.right.imports

-- what a script supplies for the host's imports, or the first one that it does not match (Core 1.0, 4.5.2)
abbrev pub pair_supply : ModulePair → Script → Result Supply LinkFault
pair_supply pair script =
    supply_unless (first_fault script (pair_hosts pair) 0 0)
    (record {
      memory = if_imported (of_kind memory_import (pair_hosts pair)) script.memory;
      table = if_imported (of_kind table_import (pair_hosts pair)) script.table;
      globals = given_values script.globals;
    })

-- ---- constant expressions (Core 1.0, 3.3.7)

-- the body with which a side's global of an index is initialised, if it is a defined one
abbrev pub init_at : ModulePair → Side → (index : ℕ) → List Instr
init_at pair side index =
    option_map_or (λ (g : Global). g.init)
    (slice_get (module_of pair side).globals (index - length (imports_in Globals (module_of pair side)))) []

-- the value of the end of a global's chain, before any global is set
abbrev pub value_of : ModulePair → Supply → Option ChainEnd → Val
value_of pair supply None = zero_of I32
value_of pair supply (Some (HostImport side index)) =
    slice_index_or supply.globals (number_of pair Globals (HostImport side index)) (zero_of I32)
value_of pair supply (Some (Defined side index)) = constant [] (zero_of I32) (init_at pair side index)

-- the values of a side's imported globals, which constant expressions name
abbrev pub values_of : ModulePair → Supply → Side → List Val
values_of pair supply side =
    map (λ index. value_of pair supply (end_of pair Globals side index))
    (count_from 0 (length (imports_in Globals (module_of pair side))))

-- ---- the store

-- the store before its segments are written (Core 1.0, 4.5.4)
abbrev pub pair_new_store : ModulePair → Supply → Store
pair_new_store pair supply =
    record {
      memory = option_map new_memory
          (limits_of (of_kind memory_import (pair_hosts pair)) supply.memory
          (pair.left.memories ++ pair.right.memories));
      table = option_map new_table
          (limits_of (of_kind table_import (pair_hosts pair)) supply.table (pair.left.tables ++ pair.right.tables));
      globals = supply.globals
          ++ (map (global_value (values_of pair supply Left)) pair.left.globals
          ++ map (global_value (values_of pair supply Right)) pair.right.globals);
    }

-- the place of the first segment that does not fit: all element segments come before all data segments, and in both
-- those of the left module before those of the right one (Core 1.0, 4.5.4)
abbrev pub pair_unfit : ModulePair → Supply → Store → Option ℕ
pair_unfit pair supply store =
    let left = values_of pair supply Left in
    let right = values_of pair supply Right in
    first_false 0
    ((map (elem_fits left store) pair.left.elems ++ map (elem_fits right store) pair.right.elems)
    ++ (map (data_fits left store) pair.left.datas ++ map (data_fits right store) pair.right.datas))

-- the store with all segments written, in which entries of the table are numbers (Core 1.0, 4.5.4)
abbrev pub pair_written : ModulePair → Supply → Store → Store
pair_written pair supply store =
    let left = values_of pair supply Left in
    let right = values_of pair supply Right in
    record store {
      memory = option_map (λ m. with_datas right pair.right.datas (with_datas left pair.left.datas m)) store.memory;
      table = option_map
          (λ t. with_elems right (map (renamed_elem (side_instance pair Right)) pair.right.elems)
          (with_elems left (map (renamed_elem (side_instance pair Left)) pair.left.elems) t)) store.table;
    }

-- the store of both modules with a supply, or the fault of the first segment that does not fit (Core 1.0, 4.5.4)
abbrev pub pair_instantiate : ModulePair → Supply → Result Store LinkFault
pair_instantiate pair supply =
    let store = pair_new_store pair supply in
    store_unless (pair_unfit pair supply store) (pair_written pair supply store)

-- ---- the start

-- the start function: that of the left module, or else that of the right one
abbrev pub pair_start_func : ModulePair → Option ℕ
pair_start_func pair =
    option_or (option_map ((side_instance pair Left).funcs) pair.left.start)
    (option_map ((side_instance pair Right).funcs) pair.right.start)

-- the start of the run in a store
abbrev pub pair_start_in_store : ModulePair → Script → Store → StepResult
pair_start_in_store pair script store =
    start (pair_world pair script).program (pair_start_func pair) store (replicate (pair_code pair).imported 0)
    script.main

-- the start of the run in a store if the modules instantiate, else why they do not
abbrev pub pair_start_or_fault : ModulePair → Script → Result Store LinkFault → Result StepResult LinkFault
pair_start_or_fault pair script (Ok store) = Ok (pair_start_in_store pair script store)
pair_start_or_fault pair script (Err fault) = Err fault

-- the start of the run with what is supplied, or why the modules do not link with it
abbrev pub pair_start_with_supply : ModulePair → Script → Result Supply LinkFault → Result StepResult LinkFault
pair_start_with_supply pair script (Ok supply) = pair_start_or_fault pair script (pair_instantiate pair supply)
pair_start_with_supply pair script (Err fault) = Err fault

-- the start of the run of both modules under a script, or why they do not link with it (Core 1.0, 4.5.4)
abbrev pub pair_start : ModulePair → Script → Result StepResult LinkFault
pair_start pair script = pair_start_with_supply pair script (pair_supply pair script)
