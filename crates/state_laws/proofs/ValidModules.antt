-- The module that begins in a state can be run, and its supply matches its imports.
use Rattle.std.proofs.Common.{◌≡◌, ℕ, ◌^◌, ◌<◌, ◌≤◌, List, [], ◌++◌, length, take, drop, map, true, ◌∙◌, subst, sym, arith}
use Rattle.std.specs.Prelude.{All, filter_map}
use Rattle.std.specs.List.{AllByRecursion}
use Rattle.std.proofs.lemmas.List.{length-map}
use Rattle.std.proofs.lemmas.List.Elements.{All-from_recursion, All-weaker, recursion_from_All}
use Rattle.base.proofs.Lists.{nil_parts}
use Rattle.wasm_syntax.specs.declared.limits.TheConstants.{MAX_DECLARED_PAGES, MAX_ENTRIES, MAX_LOCALS_HOOKED, MAX_PAGES}
use Rattle.wasm_syntax.specs.declared.profile.Which.TheVariants.{Locals, Memory, Table}
use Rattle.wasm_syntax.specs.declared.signatures.GlobalType.{GlobalType}
use Rattle.wasm_syntax.specs.declared.modules.DataSeg.{DataSeg}
use Rattle.wasm_syntax.specs.declared.modules.Export.{Export}
use Rattle.wasm_syntax.specs.declared.modules.Func.{Func}
use Rattle.wasm_syntax.specs.declared.modules.Import.{Import}
use Rattle.wasm_syntax.specs.declared.modules.Module.{Module}
use Rattle.wasm_syntax.specs.Encoding.Forms.{IsCoreModule}
use Rattle.wasm_syntax.specs.Index.{all_memories, all_tables, imported_globals, memory_import, of_kind, table_import}
use Rattle.wasm_syntax.specs.Profile.{Refusal, count_of_locals, past, quantities_past}
use Rattle.wasm_syntax.specs.Validity.{IsData, IsDeclaredFunc, IsElem, IsGlobal, IsImport, IsMemory, IsTable, IsThere, IsTypedFunc, IsValid, IsValidOutside}
use Rattle.wasm_syntax.proofs.Quantities.{memories_past, parameters_past, tables_past}
use Rattle.host_script.specs.declared.scripts.Supply.{Supply}
use Rattle.history_spec.specs.Instantiation.{memory_limits, table_limits}
use Rattle.rest_spec.specs.KnownStates.{KnownState}
use Rattle.rest_spec.specs.StateModules.{state_module_of, state_pages, state_supply_of}
use Rattle.rest_spec.specs.StateSegments.{block_size, data_segments, func_runs}
use Rattle.type_safety.specs.Stores.{func_count}
use Rattle.type_safety.specs.Supplies.{IsSupply}
use Rattle.type_safety.specs.Values.{AreValues}
use Rattle.type_safety.proofs.Quantities.{none_past}
use Rattle.type_safety.proofs.Values.{length_values}
use Rattle.state_laws.specs.Valid.{IsStateOf, StateModulesAreValid}
use Rattle.state_laws.proofs.CodeParts.{memories_many, tables_many}
use Rattle.state_laws.proofs.ValidParts.{AreParted, blocks_bytes, blocks_core, blocks_valid, bodies_typed, declared_kept, globals_core, globals_valid, import_kept, kind_kept, parted, runs_core, runs_valid}
use Rattle.state_laws.proofs.ValidSegments.{IsByte, IsStateBlock, IsStateRun, datas_are, runs_are}
use Rattle.state_laws.proofs.ValidSizes.{IsSmall, nothing_past, own_within, size_small, size_there, sized_match, sized_small, sized_valid}

module _ (m : Module) (supply : Supply) (state : KnownState) (is : IsStateOf m supply state) where
  abbrev other : Module
  other = state_module_of m state

  abbrev pages : ℕ
  pages = state_pages state

  abbrev size : ℕ
  size = length state.entries

  pub few_pages : pages ≤ MAX_PAGES
  few_pages = size_small MAX_PAGES pages (all_memories m) (memory_limits m supply) is.pages

  pub few_entries : size ≤ MAX_ENTRIES
  few_entries = size_small MAX_ENTRIES size (all_tables m) (table_limits m supply) is.size

  pub few_bytes : length state.bytes ≤ 2 ^ 28
  few_bytes = let whole = is.whole in omega (arith, whole, few_pages)

  memory_there : 0 < length state.bytes → 0 < length (all_memories m)
  memory_there some =
      let whole = is.whole in
      size_there MAX_PAGES pages (all_memories m) (memory_limits m supply) is.pages (omega (arith, whole, some))

  table_there : 0 < size → 0 < length (all_tables m)
  table_there = size_there MAX_ENTRIES size (all_tables m) (table_limits m supply) is.size

  pub runs : AllByRecursion (IsStateRun (func_count m) size) (func_runs 0 state.entries)
  runs =
      runs_are (func_count m) size 0 state.entries (omega arith) (recursion_from_All _ state.entries is.entries)

  pub blocks : AllByRecursion (IsStateBlock block_size (length state.bytes)) (data_segments state.bytes)
  blocks = datas_are state.bytes is.bytes

  values : AreParted m state.globals
  values = parted m state.globals is.globals

  -- ---- validity

  tables : IsValid m → AllByRecursion IsTable other.tables
  tables valid =
      sized_valid size (2 ^ 32) (omega (arith, few_entries)) m.tables
      (own_within MAX_ENTRIES size (of_kind table_import m.imports) m.tables supply.table valid.outside.one_table is.size)
      (recursion_from_All IsTable m.tables valid.outside.tables)

  memories : IsValid m → AllByRecursion IsMemory other.memories
  memories valid =
      sized_valid pages MAX_DECLARED_PAGES (omega (arith, few_pages)) m.memories
      (own_within MAX_PAGES pages (of_kind memory_import m.imports) m.memories supply.memory valid.outside.one_memory
      is.pages)
      (recursion_from_All IsMemory m.memories valid.outside.memories)

  valid_outside : IsValid m → IsValidOutside other
  valid_outside valid =
      let outside = valid.outside in
      record {
        types = outside.types;
        imports =
            All-weaker (λ (i : Import). IsImport m i.kind) (λ (i : Import). IsImport other i.kind)
            (λ i there. import_kept m state i.kind there) m.imports outside.imports;
        funcs = All-weaker (IsDeclaredFunc m) (IsDeclaredFunc other) (declared_kept m state) m.funcs outside.funcs;
        tables = All-from_recursion IsTable other.tables (tables valid);
        memories = All-from_recursion IsMemory other.memories (memories valid);
        globals =
            All-from_recursion (IsGlobal other) other.globals
            (globals_valid m state (func_count m) m.globals _
            (recursion_from_All (IsGlobal m) m.globals outside.globals) values.own);
        exports =
            All-weaker (λ (e : Export). IsThere m e.kind) (λ (e : Export). IsThere other e.kind)
            (λ e there. kind_kept m state e.kind there) m.exports outside.exports;
        names_differ = outside.names_differ;
        start = tt;
        elems =
            All-from_recursion (IsElem other) other.elems
            (runs_valid m state size few_entries table_there (func_runs 0 state.entries) runs);
        datas =
            All-from_recursion (IsData other) other.datas
            (blocks_valid m state block_size (length state.bytes) (omega (arith, few_bytes)) memory_there other.datas blocks);
        one_table = subst (λ many. many ≤ 1) (tables_many m state) outside.one_table;
        one_memory = subst (λ many. many ≤ 1) (memories_many m state) outside.one_memory;
      }

  pub state_valid : IsValid m → IsCoreModule m → IsValid other
  state_valid valid core =
      record {
        outside = valid_outside valid;
        bodies =
            All-from_recursion (IsTypedFunc other) m.funcs
            (bodies_typed m state m.funcs core.funcs (recursion_from_All (IsTypedFunc m) m.funcs valid.bodies));
      }

  -- ---- quantities

  abbrev locals_past : List Refusal
  locals_past = filter_map (λ (f : Func). past MAX_LOCALS_HOOKED Locals (count_of_locals f)) m.funcs

  pub quantities : quantities_past true m ≡ [] → quantities_past true other ≡ []
  quantities none =
      let a = nil_parts (parameters_past m ++ tables_past m ++ memories_past m) locals_past none in
      let b = nil_parts (parameters_past m ++ tables_past m) (memories_past m) a.0 in
      let c = nil_parts (parameters_past m) (tables_past m) b.0 in
      let of_tables : tables_past other ≡ [] =
      nothing_past MAX_ENTRIES Table (all_tables other)
      (sized_small size MAX_ENTRIES few_entries (of_kind table_import m.imports) m.tables
      (recursion_from_All (IsSmall size MAX_ENTRIES) (all_tables m) (none_past MAX_ENTRIES Table (all_tables m) c.1))) in
      let of_memories : memories_past other ≡ [] =
      nothing_past MAX_PAGES Memory (all_memories other)
      (sized_small pages MAX_PAGES few_pages (of_kind memory_import m.imports) m.memories
      (recursion_from_All (IsSmall pages MAX_PAGES) (all_memories m) (none_past MAX_PAGES Memory (all_memories m) b.1))) in
      (λ j. ((c.0 j ++ of_tables j) ++ of_memories j) ++ a.1 j)

  -- ---- the supply

  pub state_supplied : IsSupply m supply → IsSupply other (state_supply_of supply state)
  state_supplied supplied =
      record {
        memory =
            sized_match pages MAX_PAGES (of_kind memory_import m.imports) m.memories supply.memory is.pages supplied.memory;
        table =
            sized_match size MAX_ENTRIES (of_kind table_import m.imports) m.tables supply.table is.size supplied.table;
        globals =
            subst
            (λ count. AreValues (func_count m) (map (λ (g : GlobalType). g.ty) (imported_globals m)) (take count state.globals))
            (sym (length_values (func_count m) (map (λ (g : GlobalType). g.ty) (imported_globals m)) supply.globals
            supplied.globals
            ∙ length-map (imported_globals m) (λ (g : GlobalType). g.ty)))
            values.imported;
      }

pub state_core : (m : Module) (supply : Supply) (state : KnownState) → IsStateOf m supply state → IsCoreModule m
    → IsCoreModule (state_module_of m state)
state_core m supply state is core =
    record {
      funcs = core.funcs;
      globals = globals_core m.globals (drop (length (imported_globals m)) state.globals) core.globals;
      elems = runs_core (func_runs 0 state.entries);
      datas = blocks_core block_size (length state.bytes) (data_segments state.bytes) (blocks m supply state is);
    }

pub state_modules_are_valid : StateModulesAreValid
state_modules_are_valid m supply state with_supply is =
    let runnable = with_supply.runnable in
    let other = state_module_of m state in
    record {
      runnable = record {
        valid = state_valid m supply state is runnable.valid with_supply.core;
        supported = record {
          instructions = runnable.supported.instructions;
          quantities = quantities m supply state is runnable.supported.quantities;
        };
        bytes =
            All-from_recursion (λ (d : DataSeg). All IsByte d.bytes) other.datas
            (blocks_bytes block_size (length state.bytes) other.datas (blocks m supply state is));
      };
      core = state_core m supply state is with_supply.core;
      supplied = state_supplied m supply state is with_supply.supplied;
    }
