-- The run of a module with foreign functions: functions of the host that the module does not import, which a table
-- entry may hold. The module is taken as it is; what its indices name is looked up when an instruction is executed.
use Rattle.std.specs.Prelude.{ℕ, zero, suc, ◌+◌, List, [], ◌∷◌, ◌++◌, length, map, Result, Ok, Err, cond, nat_lt, option_map, replicate}
use Rattle.wasm_syntax.specs.declared.modules.Module.{Module}
use Rattle.wasm_syntax.specs.declared.modules.Func.{Func}
use Rattle.wasm_syntax.specs.Index.{of_kind, func_import, imported_funcs}
use Rattle.host_script.specs.declared.scripts.Script.{Script}
use Rattle.host_script.specs.declared.scripts.Supply.{Supply}
use Rattle.host_script.specs.declared.scripts.LinkFault.{LinkFault}
use Rattle.host_script.specs.Supply.{supply_of}
use Rattle.history_spec.specs.Store.{Store, Table}
use Rattle.history_spec.specs.Code.{Code, definition_of}
use Rattle.history_spec.specs.Instantiation.{instantiate}
use Rattle.history_spec.specs.Step.{StepResult, start}
use Rattle.instance_spec.specs.declared.decls.Decl.{Decl}
use Rattle.instance_spec.specs.Instances.{Instance, World, moved_up}

-- ---- functions and their numbers: the imports, then the declared functions, then those that the module defines

-- a count of numbers, one after another
abbrev pub count_from : (first count : ℕ) → List ℕ
count_from first zero = []
count_from first (suc count) = first ∷ count_from (first + 1) count

-- the number of a module's function in the run: an import keeps its own, and a defined function comes after the
-- declared ones
abbrev pub number_of_func : (imports declared func : ℕ) → ℕ
number_of_func imports declared func = cond (nat_lt func imports) func (moved_up declared func)

-- what the indices of the module name in the run; its types and globals keep their numbers (Core 1.0, 4.2.5)
abbrev pub numbers : Module → (declared : ℕ) → Instance
numbers m declared =
    record { types = λ ty. ty; funcs = number_of_func (imported_funcs m) declared; globals = λ global. global }

-- the types and functions of the run: the declared types come after the module's own; the host's functions are the
-- imports and the declared ones; all others are the module's, with their bodies as they are (Core 1.0, 4.2.6)
abbrev pub foreign_code : Module → List Decl → Code
foreign_code m decls =
    record {
      types = m.types ++ map (λ (d : Decl). d.ty) decls;
      imported = imported_funcs m + length decls;
      indices = of_kind func_import m.imports
          ++ (count_from (length m.types) (length decls) ++ map (λ (f : Func). f.ty) m.funcs);
      defined = map definition_of m.funcs;
    }

-- the functions of the run with the answers of a script, which has them by the numbers of the functions; each body of
-- the module names functions by the module's indices
abbrev pub foreign_world : Module → List Decl → Script → World
foreign_world m decls script =
    record {
      program = record { code = foreign_code m decls; answers = script.imports };
      instance_of = λ func. numbers m (length decls);
    }

-- ---- the start

-- a table whose entries name functions by the run's numbers, from one in which they do by a module's indices
abbrev pub numbered_table : Instance → Table → Table
numbered_table i table = record table { entries = map (option_map i.funcs) table.entries }

-- a store with such a table
abbrev pub numbered_store : Instance → Store → Store
numbered_store i store = record store { table = option_map (numbered_table i) store.table }

-- the start of the run in the store that the module is instantiated with (Core 1.0, 4.5.4)
abbrev pub foreign_start_in_store : Module → List Decl → Script → Store → StepResult
foreign_start_in_store m decls script store =
    start (foreign_world m decls script).program (option_map (numbers m (length decls)).funcs m.start)
    (numbered_store (numbers m (length decls)) store) (replicate (foreign_code m decls).imported 0) script.main

-- the start of the run in a store if the module instantiates, else why it does not
abbrev pub foreign_start_or_fault : Module → List Decl → Script → Result Store LinkFault → Result StepResult LinkFault
foreign_start_or_fault m decls script (Ok store) = Ok (foreign_start_in_store m decls script store)
foreign_start_or_fault m decls script (Err fault) = Err fault

-- the start of the run with what is supplied, or why the module does not link
abbrev pub foreign_start_with_supply
    : Module → List Decl → Script → Result Supply LinkFault → Result StepResult LinkFault
foreign_start_with_supply m decls script (Ok supply) = foreign_start_or_fault m decls script (instantiate m supply)
foreign_start_with_supply m decls script (Err fault) = Err fault

-- the start of the run of the module as it is, or why it does not link with the script (Core 1.0, 4.5.4); declared
-- functions are supplied to no import
abbrev pub foreign_start : Module → List Decl → Script → Result StepResult LinkFault
foreign_start m decls script = foreign_start_with_supply m decls script (supply_of m script)
