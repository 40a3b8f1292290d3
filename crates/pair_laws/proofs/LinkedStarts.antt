-- The run of a linked module starts as that of the pair does.
use Rattle.std.proofs.Common.{◌≡◌, ℕ, ◌+◌, List, [], ◌∷◌, ◌++◌, length, map, Option, Some, None, nat_le, option_map, replicate, refl, sym, ap, ◌∙◌, subst, append-nil}
use Rattle.std.specs.Prelude.{fold, Result, Ok, Err}
use Rattle.std.specs.List.{AllByRecursion}
use Rattle.std.proofs.lemmas.List.{length-map, map-append}
use Rattle.std.proofs.lemmas.List.Sums.{fold-append}
use Rattle.wasm_syntax.specs.declared.values.Val.{Val}
use Rattle.wasm_syntax.specs.declared.values.ValType.TheVariants.{I32}
use Rattle.wasm_syntax.specs.declared.modules.Module.{Module}
use Rattle.wasm_syntax.specs.declared.modules.Import.{Import}
use Rattle.wasm_syntax.specs.declared.modules.ImportKind.{ImportKind}
use Rattle.wasm_syntax.specs.declared.modules.ImportKind.TheVariants as import
use Rattle.wasm_syntax.specs.declared.modules.Global.{Global}
use Rattle.wasm_syntax.specs.declared.modules.ElemSeg.{ElemSeg}
use Rattle.wasm_syntax.specs.declared.modules.ElemSeg.TheVariants.{Active, Declared}
use Rattle.wasm_syntax.specs.declared.modules.DataSeg.{DataSeg}
use Rattle.wasm_syntax.specs.Index.{of_kind, memory_import, table_import}
use Rattle.wasm_syntax.proofs.JoinedLists.{kinds_append}
use Rattle.host_script.specs.declared.scripts.Script.{Script}
use Rattle.host_script.specs.declared.scripts.Supply.{Supply}
use Rattle.host_script.specs.declared.scripts.LinkFault.{LinkFault}
use Rattle.host_script.specs.Supply.{import_match, fault_or, first_fault, given_values, if_imported, supply_unless, supply_of}
use Rattle.history_spec.specs.Code.{zero_of}
use Rattle.history_spec.specs.Instantiation.{global_value, limits_of, new_memory, new_table, new_store, memory_length, table_length, elem_fits, data_fits, first_false, first_unfit, with_elem, with_elems, with_data, with_datas, with_segments, store_unless, instantiate}
use Rattle.history_spec.specs.Run.{program_of, start_or_fault, start_with_supply, run_start}
use Rattle.history_spec.specs.Step.{Program, start}
use Rattle.history_spec.specs.Store.{Store, Memory, Table, with_items_at}
use Rattle.instance_spec.specs.declared.sides.Side.{Side}
use Rattle.instance_spec.specs.declared.sides.Side.TheVariants.{Left, Right}
use Rattle.instance_spec.specs.Instances.{Instance, World}
use Rattle.instance_spec.specs.Widened.{renamed_elem}
use Rattle.instance_spec.specs.Laws.{RunsFollow, renamed_start}
use Rattle.instance_spec.specs.Outcomes.{DoOutcomesFollow, OutcomesFollow}
use Rattle.instance_laws.specs.Typings.{BodiesAreRenamed}
use Rattle.pair_spec.specs.Pairs.{ModulePair, host_imports}
use Rattle.pair_spec.specs.Numbers.{side_instance}
use Rattle.pair_spec.specs.PairRuns.{pair_world, pair_hosts, pair_supply, values_of, pair_new_store, pair_unfit, pair_written, pair_instantiate, pair_start_func, pair_start_or_fault, pair_start_with_supply, pair_start}
use Rattle.pair_spec.specs.Linked.{linked_import, linked_global, linked_elem, linked_data, linked}
use Rattle.pair_laws.specs.Laws.{AreLinkable, LinkedOutcomesFollow, LinkedRunsFollow}
use Rattle.pair_laws.proofs.Imports.{memories_kept, tables_kept}
use Rattle.pair_laws.proofs.LinkedCode.{imported_is, does_realise}
use Rattle.pair_laws.proofs.Constants.{IsAlike, IsAlikeElem, AreAlike, are_alike}

-- ---- faults of linking

-- the same fault, if the imports after have the same one
faults_kept : (script : Script) (i : Instance) (imports more other : List Import)
    → ((at globals : ℕ) → first_fault script other at globals ≡ first_fault script more at globals)
    → (at globals : ℕ)
    → first_fault script (map (linked_import i) imports ++ other) at globals ≡ first_fault script (imports ++ more) at globals
faults_kept script i [] more other later at globals = later at globals
faults_kept script i (first ∷ imports) more other later at globals =
    one first.kind (faults_kept script i imports more other later)
  where
    one : (kind : ImportKind)
        → ((at globals : ℕ)
        → first_fault script (map (linked_import i) imports ++ other) at globals ≡ first_fault script (imports ++ more) at globals)
        → first_fault script (linked_import i (record first { kind = kind }) ∷ (map (linked_import i) imports ++ other)) at globals
        ≡ first_fault script (record first { kind = kind } ∷ (imports ++ more)) at globals
    one (import.Func ty) rest = ap (fault_or (import_match script globals (import.Func ty)) at) (rest (at + 1) (globals + 0))
    one (import.Table limits) rest =
        ap (fault_or (import_match script globals (import.Table limits)) at) (rest (at + 1) (globals + 0))
    one (import.Memory limits) rest =
        ap (fault_or (import_match script globals (import.Memory limits)) at) (rest (at + 1) (globals + 0))
    one (import.Global ty) rest =
        ap (fault_or (import_match script globals (import.Global ty)) at) (rest (at + 1) (globals + 1))

-- ---- one side

module _ (pair : ModulePair) (script : Script) (supply : Supply) (is : pair_supply pair script ≡ Ok supply) (side : Side) where
  abbrev values : List Val
  values = values_of pair supply side

  abbrev i : Instance
  i = side_instance pair side

  abbrev IsOne : ElemSeg → Type 0
  IsOne = IsAlikeElem pair script supply is side

  globals_alike : (gs : List Global) → AllByRecursion (λ (g : Global). IsAlike pair script supply is side g.init) gs
      → map (global_value supply.globals) (map (linked_global pair side) gs) ≡ map (global_value values) gs
  globals_alike [] alike = refl
  globals_alike (g ∷ gs) alike = (λ j. alike.0 (zero_of g.ty.ty) j ∷ globals_alike gs alike.1 j)

  fit_alike : (store : Store) (e : ElemSeg) → IsOne e
      → elem_fits supply.globals store (linked_elem pair side e) ≡ elem_fits values store e
  fit_alike store (Active table offset funcs) alike =
      (λ j. nat_le ((alike (zero_of I32) j).bits + length-map funcs i.funcs j) (table_length store.table))
  fit_alike store (Declared funcs) alike = refl

  fits_alike : (store : Store) (es : List ElemSeg) → AllByRecursion IsOne es
      → map (elem_fits supply.globals store) (map (linked_elem pair side) es) ≡ map (elem_fits values store) es
  fits_alike store [] alike = refl
  fits_alike store (e ∷ es) alike = (λ j. fit_alike store e alike.0 j ∷ fits_alike store es alike.1 j)

  datas_fit : (store : Store) (ds : List DataSeg)
      → AllByRecursion (λ (d : DataSeg). IsAlike pair script supply is side d.offset) ds
      → map (data_fits supply.globals store) (map (linked_data pair side) ds) ≡ map (data_fits values store) ds
  datas_fit store [] alike = refl
  datas_fit store (d ∷ ds) alike =
      (λ j. nat_le ((alike.0 (zero_of I32) j).bits + length d.bytes) (memory_length store.memory)
      ∷ datas_fit store ds alike.1 j)

  elem_written : (entries : List (Option ℕ)) (e : ElemSeg) → IsOne e
      → with_elem supply.globals entries (linked_elem pair side e) ≡ with_elem values entries (renamed_elem i e)
  elem_written entries (Active table offset funcs) alike =
      (λ j. with_items_at entries (alike (zero_of I32) j).bits (map (λ func. Some func) (map i.funcs funcs)))
  elem_written entries (Declared funcs) alike = refl

  elems_written : (entries : List (Option ℕ)) (es : List ElemSeg) → AllByRecursion IsOne es
      → fold (with_elem supply.globals) entries (map (linked_elem pair side) es)
      ≡ fold (with_elem values) entries (map (renamed_elem i) es)
  elems_written entries [] alike = refl
  elems_written entries (e ∷ es) alike =
      ap (λ first. fold (with_elem supply.globals) first (map (linked_elem pair side) es)) (elem_written entries e alike.0)
      ∙ elems_written (with_elem values entries (renamed_elem i e)) es alike.1

  datas_written : (bytes : List ℕ) (ds : List DataSeg)
      → AllByRecursion (λ (d : DataSeg). IsAlike pair script supply is side d.offset) ds
      → fold (with_data supply.globals) bytes (map (linked_data pair side) ds) ≡ fold (with_data values) bytes ds
  datas_written bytes [] alike = refl
  datas_written bytes (d ∷ ds) alike =
      ap (λ first. fold (with_data supply.globals) first (map (linked_data pair side) ds))
      (λ j. with_items_at bytes (alike.0 (zero_of I32) j).bits d.bytes)
      ∙ datas_written (with_data values bytes d) ds alike.1

-- ---- both sides

module _ (pair : ModulePair) (script : Script) where
  abbrev whole : Module
  whole = linked pair

  abbrev left : Instance
  left = side_instance pair Left

  abbrev right : Instance
  right = side_instance pair Right

  abbrev w : World
  w = pair_world pair script

  abbrev p : Program
  p = program_of whole script

  abbrev hosts_left : List Import
  hosts_left = host_imports Left pair.left.imports

  abbrev hosts_right : List Import
  hosts_right = host_imports Right pair.right.imports

  memories_are : of_kind memory_import whole.imports ≡ of_kind memory_import (pair_hosts pair)
  memories_are =
      kinds_append memory_import (map (linked_import left) hosts_left) (map (linked_import right) hosts_right)
      ∙ (λ j. memories_kept left hosts_left j ++ memories_kept right hosts_right j)
      ∙ sym (kinds_append memory_import hosts_left hosts_right)

  tables_are : of_kind table_import whole.imports ≡ of_kind table_import (pair_hosts pair)
  tables_are =
      kinds_append table_import (map (linked_import left) hosts_left) (map (linked_import right) hosts_right)
      ∙ (λ j. tables_kept left hosts_left j ++ tables_kept right hosts_right j)
      ∙ sym (kinds_append table_import hosts_left hosts_right)

  right_faults : (at globals : ℕ)
      → first_fault script (map (linked_import right) hosts_right) at globals ≡ first_fault script hosts_right at globals
  right_faults at globals =
      sym (ap (λ imports. first_fault script imports at globals) (append-nil (map (linked_import right) hosts_right)))
      ∙ faults_kept script right hosts_right [] [] (λ at globals. refl) at globals
      ∙ ap (λ imports. first_fault script imports at globals) (append-nil hosts_right)

  supply_is : supply_of whole script ≡ pair_supply pair script
  supply_is =
      let faults = faults_kept script left hosts_left hosts_right (map (linked_import right) hosts_right) right_faults 0 0 in
      (λ j. supply_unless (faults j) (record {
        memory = if_imported (memories_are j) script.memory;
        table = if_imported (tables_are j) script.table;
        globals = given_values script.globals;
      }))

  -- ---- the store

  module _ (supply : Supply) (is : pair_supply pair script ≡ Ok supply) (linkable : AreLinkable pair) where
    abbrev values_left : List Val
    values_left = values_of pair supply Left

    abbrev values_right : List Val
    values_right = values_of pair supply Right

    alike : (side : Side) → AreAlike pair script supply is side
    alike side = are_alike pair script supply is side linkable

    abbrev new : Store
    new = pair_new_store pair supply

    values_all : map (global_value supply.globals) whole.globals
        ≡ map (global_value values_left) pair.left.globals ++ map (global_value values_right) pair.right.globals
    values_all =
        map-append (global_value supply.globals) (map (linked_global pair Left) pair.left.globals)
        (map (linked_global pair Right) pair.right.globals)
        ∙ (λ j. globals_alike pair script supply is Left pair.left.globals (alike Left).globals j
        ++ globals_alike pair script supply is Right pair.right.globals (alike Right).globals j)

    new_is : new_store whole supply ≡ new
    new_is = (λ j. record {
      memory = option_map new_memory
          (limits_of (memories_are j) supply.memory (pair.left.memories ++ pair.right.memories));
      table = option_map new_table (limits_of (tables_are j) supply.table (pair.left.tables ++ pair.right.tables));
      globals = supply.globals ++ values_all j;
    })

    unfit_is : first_unfit whole supply.globals new ≡ pair_unfit pair supply new
    unfit_is =
        (λ j. first_false 0
        (map-append (elem_fits supply.globals new) (map (linked_elem pair Left) pair.left.elems)
        (map (linked_elem pair Right) pair.right.elems) j
        ++ map-append (data_fits supply.globals new) (map (linked_data pair Left) pair.left.datas)
        (map (linked_data pair Right) pair.right.datas) j))
        ∙ (λ j. first_false 0
        ((fits_alike pair script supply is Left new pair.left.elems (alike Left).elems j
        ++ fits_alike pair script supply is Right new pair.right.elems (alike Right).elems j)
        ++ (datas_fit pair script supply is Left new pair.left.datas (alike Left).datas j
        ++ datas_fit pair script supply is Right new pair.right.datas (alike Right).datas j)))

    entries_are : (entries : List (Option ℕ))
        → fold (with_elem supply.globals) entries whole.elems
        ≡ fold (with_elem values_right) (fold (with_elem values_left) entries (map (renamed_elem left) pair.left.elems))
        (map (renamed_elem right) pair.right.elems)
    entries_are entries =
        let front = fold (with_elem values_left) entries (map (renamed_elem left) pair.left.elems) in
        fold-append (with_elem supply.globals) entries (map (linked_elem pair Left) pair.left.elems)
        (map (linked_elem pair Right) pair.right.elems)
        ∙ ap (λ first. fold (with_elem supply.globals) first (map (linked_elem pair Right) pair.right.elems))
        (elems_written pair script supply is Left entries pair.left.elems (alike Left).elems)
        ∙ elems_written pair script supply is Right front pair.right.elems (alike Right).elems

    bytes_are : (bytes : List ℕ)
        → fold (with_data supply.globals) bytes whole.datas
        ≡ fold (with_data values_right) (fold (with_data values_left) bytes pair.left.datas) pair.right.datas
    bytes_are bytes =
        let front = fold (with_data values_left) bytes pair.left.datas in
        fold-append (with_data supply.globals) bytes (map (linked_data pair Left) pair.left.datas)
        (map (linked_data pair Right) pair.right.datas)
        ∙ ap (λ first. fold (with_data supply.globals) first (map (linked_data pair Right) pair.right.datas))
        (datas_written pair script supply is Left bytes pair.left.datas (alike Left).datas)
        ∙ datas_written pair script supply is Right front pair.right.datas (alike Right).datas

    table_is : (o : Option Table)
        → option_map (with_elems supply.globals whole.elems) o
        ≡ option_map (λ t. with_elems values_right (map (renamed_elem right) pair.right.elems)
        (with_elems values_left (map (renamed_elem left) pair.left.elems) t)) o
    table_is None = refl
    table_is (Some table) = (λ j. Some (record table { entries = entries_are table.entries j }))

    memory_is : (o : Option Memory)
        → option_map (with_datas supply.globals whole.datas) o
        ≡ option_map (λ m. with_datas values_right pair.right.datas (with_datas values_left pair.left.datas m)) o
    memory_is None = refl
    memory_is (Some memory) = (λ j. Some (record memory { bytes = bytes_are memory.bytes j }))

    written_is : with_segments whole supply.globals new ≡ pair_written pair supply new
    written_is = (λ j. record new { memory = memory_is new.memory j; table = table_is new.table j })

    instance_is : instantiate whole supply ≡ pair_instantiate pair supply
    instance_is =
        ap (λ (s : Store). store_unless (first_unfit whole supply.globals s) (with_segments whole supply.globals s)) new_is
        ∙ (λ j. store_unless (unfit_is j) (written_is j))

  -- ---- the start

  module _ (renamed : BodiesAreRenamed) (follow : RunsFollow) where
    begun : (r : Result Store LinkFault) → start_or_fault whole script r ≡ renamed_start w (pair_start_or_fault pair script r)
    begun (Ok store) =
        ap (λ n. Ok (start p (pair_start_func pair) store (replicate n 0) script.main)) (imported_is pair)
        ∙ ap (λ s. Ok s)
        ((follow w p (does_realise pair script renamed)).begins (pair_start_func pair) store
        (replicate w.program.code.imported 0) script.main)
    begun (Err fault) = refl

    started : AreLinkable pair → run_start whole script ≡ renamed_start w (pair_start pair script)
    started linkable = ap (start_with_supply whole script) supply_is ∙ by (pair_supply pair script) refl
      where
        by : (r : Result Supply LinkFault) → pair_supply pair script ≡ r
            → start_with_supply whole script r ≡ renamed_start w (pair_start_with_supply pair script r)
        by (Ok supply) is =
            ap (start_or_fault whole script) (instance_is supply is linkable) ∙ begun (pair_instantiate pair supply)
        by (Err fault) is = refl

-- ---- the laws

pub linked_runs_follow : BodiesAreRenamed → RunsFollow → LinkedRunsFollow
linked_runs_follow renamed follow pair script =
    record { realises = does_realise pair script renamed; starts = started pair script renamed follow }

pub linked_outcomes_follow : OutcomesFollow → LinkedRunsFollow → LinkedOutcomesFollow
linked_outcomes_follow outcomes follow pair script meter linkable =
    let w = pair_world pair script in
    let p = program_of (linked pair) script in
    let own = follow pair script in
    subst (DoOutcomesFollow w p meter (pair_start pair script)) (sym (own.starts linkable))
    (outcomes w p meter (pair_start pair script) own.realises)
