-- The run of a widened module is that of its original with foreign functions.
use Rattle.std.proofs.Common.{◌≡◌, ℕ, zero, suc, ◌+◌, ◌-◌, List, [], ◌∷◌, ◌++◌, length, map, Option, Some, None, Bool, true, false, cond, nat_lt, slice_get, option_map, option_and_then, replicate, refl, ap, ◌∙◌}
use Rattle.std.specs.Prelude.{Result, Ok, Err}
use Rattle.wasm_syntax.specs.declared.modules.Module.{Module}
use Rattle.wasm_syntax.specs.declared.modules.Func.{Func}
use Rattle.wasm_syntax.specs.declared.modules.Import.{Import}
use Rattle.host_script.specs.declared.scripts.Script.{Script}
use Rattle.host_script.specs.declared.scripts.Supply.{Supply}
use Rattle.host_script.specs.declared.scripts.LinkFault.{LinkFault}
use Rattle.host_script.specs.Supply.{import_match, fault_or, globals_in, first_fault, given_values, if_imported, supply_unless, supply_of}
use Rattle.wasm_syntax.specs.Nest.{Nest, nest_of}
use Rattle.wasm_syntax.specs.Validity.{each_local}
use Rattle.history_spec.specs.Code.{Definition, definition, definition_of}
use Rattle.history_spec.specs.Instantiation.{limits_of, memory_limits, table_limits, new_memory, new_table, global_value, new_store, data_fits, first_false, first_unfit, with_datas, with_segments, store_unless, instantiate}
use Rattle.history_spec.specs.Run.{program_of, start_in_store, start_or_fault, start_with_supply, run_start}
use Rattle.history_spec.specs.Step.{Program, start}
use Rattle.history_spec.specs.Store.{Store}
use Rattle.instance_spec.specs.declared.decls.Decl.{Decl}
use Rattle.instance_spec.specs.Instances.{Instance, World}
use Rattle.instance_spec.specs.Renamed.{Realises, renamed_nest, renamed_definition}
use Rattle.instance_spec.specs.ForeignRuns.{numbers, foreign_world, numbered_store, foreign_start, foreign_start_or_fault, foreign_start_with_supply}
use Rattle.instance_spec.specs.Widened.{renamed_func, foreign_imports, widened}
use Rattle.instance_spec.specs.Laws.{renamed_start, WidenedRunsFollow}
use Rattle.instance_laws.proofs.Bodies.{bodies_are_renamed}
use Rattle.instance_laws.proofs.Openings.{table_written, elems_fit}
use Rattle.instance_laws.proofs.Steps.{runs_follow}
use Rattle.instance_laws.proofs.WidenedParts.{imported_is, indices_are, memories_are, tables_are}

-- ---- faults of linking

faults_more : (script : Script) (imports : List Import) (ty : ℕ) (decls : List Decl) (at globals : ℕ)
    → first_fault script (imports ++ foreign_imports ty decls) at globals ≡ first_fault script imports at globals
faults_more script [] ty [] at globals = refl
faults_more script [] ty (d ∷ decls) at globals = faults_more script [] (ty + 1) decls (at + 1) (globals + 0)
faults_more script (i ∷ imports) ty decls at globals =
    ap (fault_or (import_match script globals i.kind) at)
    (faults_more script imports ty decls (at + 1) (globals + globals_in i.kind))

-- ---- functions

-- the definition that a function has with a body, renamed
pub nest_renamed : (i : Instance) (func : Func) (o : Option Nest)
    → option_map (λ nest. record { locals = each_local func.locals; body = nest }) (option_map (renamed_nest i) o)
    ≡ option_map (renamed_definition i) (option_map (λ nest. record { locals = each_local func.locals; body = nest }) o)
nest_renamed i func None = refl
nest_renamed i func (Some nest) = refl

definition_renamed : (i : Instance) (func : Func)
    → definition_of (renamed_func i func) ≡ option_map (renamed_definition i) (definition_of func)
definition_renamed i func =
    ap (option_map (λ nest. record { locals = each_local func.locals; body = nest })) (bodies_are_renamed i func.body)
    ∙ nest_renamed i func (nest_of func.body)

definition_at : (i : Instance) (funcs : List Func) (k : ℕ)
    → option_and_then (λ d. d) (slice_get (map definition_of (map (renamed_func i) funcs)) k)
    ≡ option_map (renamed_definition i) (option_and_then (λ d. d) (slice_get (map definition_of funcs) k))
definition_at i [] k = refl
definition_at i (f ∷ funcs) zero = definition_renamed i f
definition_at i (f ∷ funcs) (suc k) = definition_at i funcs k

module _ (m : Module) (decls : List Decl) (script : Script) where
  abbrev i : Instance
  i = numbers m (length decls)

  abbrev w : World
  w = foreign_world m decls script

  abbrev wide : Module
  wide = widened m decls

  abbrev p : Program
  p = program_of wide script

  code_is : p ≡ record w.program { code = record w.program.code { defined = p.code.defined } }
  code_is = (λ j. record {
    code = record {
      types = w.program.code.types;
      imported = imported_is m decls j;
      indices = indices_are m decls j;
      defined = p.code.defined;
    };
    answers = script.imports;
  })

  within : (b : Bool) (o q : Option Definition) → q ≡ option_map (renamed_definition i) o
      → cond b None q ≡ option_map (renamed_definition i) (cond b None o)
  within true o q e = refl
  within false o q e = e

  bodies_are : (func : ℕ) → definition p.code func ≡ option_map (renamed_definition i) (definition w.program.code func)
  bodies_are func =
      ap
      (λ n. cond (nat_lt func n) None (option_and_then (λ d. d) (slice_get p.code.defined (func - n))))
      (imported_is m decls)
      ∙ within (nat_lt func w.program.code.imported)
      (option_and_then (λ d. d) (slice_get w.program.code.defined (func - w.program.code.imported)))
      (option_and_then (λ d. d) (slice_get p.code.defined (func - w.program.code.imported)))
      (definition_at i m.funcs (func - w.program.code.imported))

  does_realise : Realises w p
  does_realise = record { alike = code_is; bodies = bodies_are }

  -- ---- the start

  supply_is : supply_of wide script ≡ supply_of m script
  supply_is =
      let faults = faults_more script m.imports (length m.types) decls 0 0 in
      (λ j. supply_unless (faults j) (record {
        memory = if_imported (memories_are m decls j) script.memory;
        table = if_imported (tables_are m decls j) script.table;
        globals = given_values script.globals;
      }))

  begun : (store : Store)
      → Ok (start_in_store wide script (numbered_store i store)) ≡ renamed_start w (foreign_start_or_fault m decls script (Ok store))
  begun store =
      ap
      (λ n. Ok (start p (option_map i.funcs m.start) (numbered_store i store) (replicate n 0) script.main))
      (imported_is m decls)
      ∙ ap (λ s. Ok s)
      ((runs_follow w p does_realise).begins (option_map i.funcs m.start) (numbered_store i store)
      (replicate w.program.code.imported 0) script.main)

  module _ (supply : Supply) where
    abbrev new : Store
    new = new_store m supply

    abbrev written : Store
    written = with_segments m supply.globals new

    new_is : new_store wide supply ≡ new
    new_is = (λ j. record {
      memory = option_map new_memory (limits_of (memories_are m decls j) supply.memory m.memories);
      table = option_map new_table (limits_of (tables_are m decls j) supply.table m.tables);
      globals = supply.globals ++ map (global_value supply.globals) m.globals;
    })

    unfit_is : first_unfit wide supply.globals new ≡ first_unfit m supply.globals new
    unfit_is =
        ap (λ fits. first_false 0 (fits ++ map (data_fits supply.globals new) m.datas))
        (elems_fit i supply.globals new m.elems)

    written_is : with_segments wide supply.globals new ≡ numbered_store i written
    written_is =
        ap (λ table. record {
          memory = option_map (with_datas supply.globals m.datas) (option_map new_memory (memory_limits m supply));
          table = table;
          globals = supply.globals ++ map (global_value supply.globals) m.globals;
        }) (table_written i supply.globals m.elems (table_limits m supply))

    opened : (o : Option ℕ)
        → start_or_fault wide script (store_unless o (numbered_store i written))
        ≡ renamed_start w (foreign_start_or_fault m decls script (store_unless o written))
    opened None = begun written
    opened (Some number) = refl

    started : start_or_fault wide script (instantiate wide supply)
        ≡ renamed_start w (foreign_start_or_fault m decls script (instantiate m supply))
    started =
        ap
        (λ (s : Store). start_or_fault wide script
        (store_unless (first_unfit wide supply.globals s) (with_segments wide supply.globals s)))
        new_is
        ∙ ap (λ o. start_or_fault wide script (store_unless o (with_segments wide supply.globals new))) unfit_is
        ∙ ap (λ s. start_or_fault wide script (store_unless (first_unfit m supply.globals new) s)) written_is
        ∙ opened (first_unfit m supply.globals new)

  starts_are : run_start wide script ≡ renamed_start w (foreign_start m decls script)
  starts_are = ap (start_with_supply wide script) supply_is ∙ by (supply_of m script)
    where
      by : (r : Result Supply LinkFault)
          → start_with_supply wide script r ≡ renamed_start w (foreign_start_with_supply m decls script r)
      by (Ok supply) = started supply
      by (Err fault) = refl

pub widened_runs_follow : WidenedRunsFollow
widened_runs_follow m decls script = record { realises = does_realise m decls script; starts = starts_are m decls script }
