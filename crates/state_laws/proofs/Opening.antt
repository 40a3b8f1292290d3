-- A state module begins in the store whose state it has.
use Rattle.std.proofs.Common.{◌≡◌, ℕ, ◌+◌, ◌*◌, ◌/◌, List, [], ◌∷◌, ◌++◌, length, Option, Some, None, Ok, Bool, true, false, get_or, map, option_map, slice_get, refl, sym, ap, ◌∙◌, arith}
use Rattle.std.specs.Prelude.{All, fold}
use Rattle.std.proofs.lemmas.Bool.{le-leb}
use Rattle.std.proofs.lemmas.List.{length-map, length-replicate}
use Rattle.std.proofs.lemmas.List.Elements.{All-append, All-head, All-map, All-tail}
use Rattle.std.proofs.lemmas.Option.{same_Some}
use Rattle.std.proofs.lemmas.Slice.Zip.{AllZip-long}
use Rattle.wasm_syntax.specs.declared.limits.TheConstants.{PAGE_SIZE}
use Rattle.wasm_syntax.specs.declared.values.Val.{Val}
use Rattle.wasm_syntax.specs.declared.signatures.Limits.{Limits}
use Rattle.wasm_syntax.specs.declared.modules.DataSeg.{DataSeg}
use Rattle.wasm_syntax.specs.declared.modules.Module.{Module}
use Rattle.wasm_syntax.specs.Index.{of_kind, memory_import, table_import, imported_globals, all_globals, all_memories}
use Rattle.host_script.specs.declared.scripts.Supply.{Supply}
use Rattle.history_spec.specs.Store.{Memory, Table, Store, zeros}
use Rattle.history_spec.specs.Instantiation.{limits_of, memory_limits, table_limits, new_memory, new_table, new_store, memory_length, table_length, elem_fits, data_fits, first_false, first_unfit, offset_of, with_data, with_datas, with_elems, with_segments, store_unless, instantiate}
use Rattle.rest_spec.specs.KnownStates.{KnownState}
use Rattle.rest_spec.specs.StateModules.{with_min, state_module_of, state_supply_of}
use Rattle.rest_spec.specs.StateSegments.{block_size, FuncRun, run_segment, func_runs, data_segments, elem_segments}
use Rattle.type_safety.specs.Values.{IsValue}
use Rattle.type_safety.specs.Stores.{IsStore, MayBeMemory, func_count, global_types}
use Rattle.tape_laws.proofs.KeptStores.{new_maxima, store_made}
use Rattle.tape_laws.proofs.Stores.{Maxima}
use Rattle.state_laws.specs.Opens.{memory_bytes, table_entries, state_of_store, StateModulesOpen}
use Rattle.state_laws.proofs.Bytes.{EndsWithin as DataEndsWithin, blocks_written, blocks_within}
use Rattle.state_laws.proofs.Entries.{EndsWithin as RunEndsWithin, entries_written, runs_within}
use Rattle.state_laws.proofs.Globals.{globals_open}

-- ---- tests that pass

none_false : (at : ℕ) (tests : List Bool) → All (λ b. b ≡ true) tests → first_false at tests ≡ None
none_false at [] all = refl
none_false at (true ∷ tests) all = none_false (at + 1) tests (All-tail (λ b. b ≡ true) true tests all)
none_false at (false ∷ tests) all = let no = All-head (λ b. b ≡ true) false tests all in cc

-- ---- the memory

pub whole_bytes : (limits : List Limits) (o : Option Memory) → MayBeMemory limits o
    → length (memory_bytes o) ≡ length (memory_bytes o) / PAGE_SIZE * PAGE_SIZE
whole_bytes [] None may = refl
whole_bytes [] (Some memory) may = absurd may
whole_bytes (l ∷ limits) None may = absurd may
whole_bytes (l ∷ limits) (Some memory) may = may.whole

blocks_whole : (bytes : List ℕ) → length bytes ≡ length bytes / PAGE_SIZE * PAGE_SIZE
    → length bytes ≡ length bytes / block_size * block_size
blocks_whole bytes whole = omega (arith, whole)

-- the limits of a memory or table whose least size is set
limits_set : (size : ℕ) (imports defined : List Limits) (supplied : Option Limits)
    → limits_of imports (option_map (with_min size) supplied) (map (with_min size) defined)
    ≡ option_map (with_min size) (limits_of imports supplied defined)
limits_set size [] [] supplied = refl
limits_set size [] (limits ∷ defined) supplied = refl
limits_set size (import ∷ imports) defined supplied = refl

module _ (imported : List Val) where
  memory_opens : (o : Option Limits) (memory : Option Memory)
      → option_map (λ (memory : Memory). memory.max) memory ≡ option_map (λ (limits : Limits). limits.max) o
      → length (memory_bytes memory) ≡ length (memory_bytes memory) / PAGE_SIZE * PAGE_SIZE
      → option_map (with_datas imported (data_segments (memory_bytes memory)))
      (option_map new_memory (option_map (with_min (length (memory_bytes memory) / PAGE_SIZE)) o))
      ≡ memory
  memory_opens None None same whole = refl
  memory_opens None (Some memory) same whole = cc
  memory_opens (Some limits) None same whole = cc
  memory_opens (Some limits) (Some memory) same whole =
      let bytes = memory.bytes in
      let filled : fold (with_data imported) (zeros (length bytes / PAGE_SIZE * PAGE_SIZE)) (data_segments bytes) ≡ bytes =
      ap (λ n. fold (with_data imported) (zeros n) (data_segments bytes)) (sym whole)
      ∙ blocks_written imported block_size (length bytes / block_size) [] bytes (blocks_whole bytes whole) in
      let most = sym (same_Some memory.max limits.max same) in
      λ j. Some (record { bytes = filled j; max = most j })

  data_fits_within : (store : Store) (segment : DataSeg) → DataEndsWithin imported (memory_length store.memory) segment
      → data_fits imported store segment ≡ true
  data_fits_within store segment within =
      le-leb (offset_of imported segment.offset + length segment.bytes) (memory_length store.memory) within

  datas_fit : (store : Store) (bytes : List ℕ) → length bytes ≡ length bytes / PAGE_SIZE * PAGE_SIZE
      → length bytes ≡ memory_length store.memory
      → All (λ b. b ≡ true) (map (data_fits imported store) (data_segments bytes))
  datas_fit store bytes whole long =
      let within = blocks_within imported (memory_length store.memory) block_size (length bytes / block_size) 0 bytes
      (blocks_whole bytes whole) (omega (arith, long)) in
      All-map (λ b. b ≡ true) (data_fits imported store) (data_segments bytes)
      (λ k d below. data_fits_within store (get_or (data_segments bytes) k d) (within k d below))

-- ---- the table

module _ (imported : List Val) where
  table_opens : (o : Option Limits) (table : Option Table)
      → option_map (λ (table : Table). table.max) table ≡ option_map (λ (limits : Limits). limits.max) o
      → option_map (with_elems imported (elem_segments (table_entries table)))
      (option_map new_table (option_map (with_min (length (table_entries table))) o))
      ≡ table
  table_opens None None same = refl
  table_opens None (Some table) same = cc
  table_opens (Some limits) None same = cc
  table_opens (Some limits) (Some table) same =
      let filled = entries_written imported [] table.entries 0 refl in
      let most = sym (same_Some table.max limits.max same) in
      λ j. Some (record { entries = filled j; max = most j })

  run_fits_within : (store : Store) (run : FuncRun) → RunEndsWithin (table_length store.table) run
      → elem_fits imported store (run_segment run) ≡ true
  run_fits_within store run within = le-leb (run.index + length run.funcs) (table_length store.table) within

  elems_fit : (store : Store) (entries : List (Option ℕ)) → length entries ≡ table_length store.table
      → All (λ b. b ≡ true) (map (elem_fits imported store) (elem_segments entries))
  elems_fit store entries long =
      let within = runs_within (table_length store.table) 0 entries (omega (arith, long)) in
      let fit : All (λ run. elem_fits imported store (run_segment run) ≡ true) (func_runs 0 entries) =
      λ k d below. run_fits_within store (get_or (func_runs 0 entries) k d) (within k d below) in
      All-map (λ b. b ≡ true) (elem_fits imported store) (elem_segments entries)
      (All-map (λ segment. elem_fits imported store segment ≡ true) run_segment (func_runs 0 entries) fit)

-- ---- the sizes before the segments are written

memory_sized : (o : Option Limits) (memory : Option Memory)
    → option_map (λ (memory : Memory). memory.max) memory ≡ option_map (λ (limits : Limits). limits.max) o
    → length (memory_bytes memory) ≡ length (memory_bytes memory) / PAGE_SIZE * PAGE_SIZE
    → length (memory_bytes memory)
    ≡ memory_length (option_map new_memory (option_map (with_min (length (memory_bytes memory) / PAGE_SIZE)) o))
memory_sized None None same whole = refl
memory_sized None (Some memory) same whole = cc
memory_sized (Some limits) None same whole = cc
memory_sized (Some limits) (Some memory) same whole =
    whole ∙ sym (length-replicate {A = ℕ} (length memory.bytes / PAGE_SIZE * PAGE_SIZE) 0)

table_sized : (o : Option Limits) (table : Option Table)
    → option_map (λ (table : Table). table.max) table ≡ option_map (λ (limits : Limits). limits.max) o
    → length (table_entries table)
    ≡ table_length (option_map new_table (option_map (with_min (length (table_entries table))) o))
table_sized None None same = refl
table_sized None (Some table) same = cc
table_sized (Some limits) None same = cc
table_sized (Some limits) (Some table) same = sym (length-replicate {A = Option ℕ} (length table.entries) None)

-- ---- the store

module _ (m : Module) (supply : Supply) (other : Store) (is : IsStore m other) where
  -- the state of the other store, the state module, and its supply
  abbrev state : KnownState
  state = state_of_store other

  abbrev opened : Module
  opened = state_module_of m state

  abbrev given : Supply
  given = state_supply_of supply state

  whole : length state.bytes ≡ length state.bytes / PAGE_SIZE * PAGE_SIZE
  whole = whole_bytes (all_memories m) other.memory is.memory

  -- the limits of the state module
  memory_is : memory_limits opened given ≡ option_map (with_min (length state.bytes / PAGE_SIZE)) (memory_limits m supply)
  memory_is =
      limits_set (length state.bytes / PAGE_SIZE) (of_kind memory_import m.imports) m.memories supply.memory

  table_is : table_limits opened given ≡ option_map (with_min (length state.entries)) (table_limits m supply)
  table_is = limits_set (length state.entries) (of_kind table_import m.imports) m.tables supply.table

  module _ (memory : option_map (λ (memory : Memory). memory.max) other.memory
      ≡ option_map (λ (limits : Limits). limits.max) (memory_limits m supply))
      (table : option_map (λ (table : Table). table.max) other.table
      ≡ option_map (λ (limits : Limits). limits.max) (table_limits m supply)) where
    all_fit : first_unfit opened given.globals (new_store opened given) ≡ None
    all_fit =
        let fresh = new_store opened given in
        let elems = elems_fit given.globals fresh state.entries
        (table_sized (table_limits m supply) other.table table ∙ sym (ap (λ o. table_length (option_map new_table o)) table_is)) in
        let datas = datas_fit given.globals fresh state.bytes whole
        (memory_sized (memory_limits m supply) other.memory memory whole
        ∙ sym (ap (λ o. memory_length (option_map new_memory o)) memory_is)) in
        none_false 0
        (map (elem_fits given.globals fresh) opened.elems ++ map (data_fits given.globals fresh) opened.datas)
        (All-append (λ b. b ≡ true) (map (elem_fits given.globals fresh) opened.elems)
        (map (data_fits given.globals fresh) opened.datas) elems datas)

    opens : (new_store opened given).globals ≡ other.globals → instantiate opened given ≡ Ok other
    opens globals =
        let bytes = ap (λ o. option_map (with_datas given.globals opened.datas) (option_map new_memory o)) memory_is
        ∙ memory_opens given.globals (memory_limits m supply) other.memory memory whole in
        let entries = ap (λ o. option_map (with_elems given.globals opened.elems) (option_map new_table o)) table_is
        ∙ table_opens given.globals (table_limits m supply) other.table table in
        let written : with_segments opened given.globals (new_store opened given) ≡ other =
        λ j. record { memory = bytes j; table = entries j; globals = globals j } in
        ap (λ o. store_unless o (with_segments opened given.globals (new_store opened given))) all_fit ∙ ap Ok written

pub state_modules_open : StateModulesOpen
state_modules_open m supply store other runnable matches begins is same immutables =
    let most = new_maxima m supply store begins in
    let memory = same.memory ∙ ap (λ (most : Maxima). most.pages) most in
    let table = same.table ∙ ap (λ (most : Maxima). most.entries) most in
    opens m supply other is memory table
    (globals_open m supply.globals other.globals runnable.valid.outside.globals
    (AllZip-long (IsValue (func_count m)) (map (λ g. g.ty) (imported_globals m)) supply.globals matches.globals
    ∙ length-map (imported_globals m) (λ g. g.ty))
    (AllZip-long (IsValue (func_count m)) (global_types m) other.globals is.globals
    ∙ length-map (all_globals m) (λ g. g.ty))
    (λ at ty there fixed.
    immutables at ty there fixed
    ∙ sym (ap (λ (s : Store). slice_get s.globals at) (store_made m supply store begins))))
