-- Instrumented modules link as their originals do.
use Rattle.std.proofs.Common.{◌≡◌, ℕ, ◌+◌, List, [], ◌∷◌, ◌++◌, map, Option, Some, None, true, nat_le, option_map, replicate, refl, ap, ◌∙◌}
use Rattle.std.specs.Prelude.{fold}
use Rattle.std.proofs.lemmas.List.{append_cancel_right, length-map}
use Rattle.base.proofs.Lists.{nil_parts}
use Rattle.wasm_syntax.specs.declared.signatures.Limits.{Limits}
use Rattle.wasm_syntax.specs.declared.modules.Import.{Import}
use Rattle.wasm_syntax.specs.declared.modules.Module.{Module}
use Rattle.wasm_syntax.specs.declared.modules.ElemSeg.{ElemSeg}
use Rattle.wasm_syntax.specs.declared.modules.ElemSeg.TheVariants.{Active, Declared}
use Rattle.wasm_syntax.specs.declared.values.Val.{Val}
use Rattle.wasm_syntax.specs.Index.{of_kind, memory_import, table_import, imported_funcs}
use Rattle.wasm_syntax.specs.Profile.{IsSupported, refusals, refused_instructions, quantities_past, reserved_imports}
use Rattle.host_script.specs.declared.scripts.Script.{Script}
use Rattle.host_script.specs.declared.scripts.Supply.{Supply}
use Rattle.host_script.specs.Supply.{import_match, fault_or, globals_in, first_fault, given_values, if_imported, supply_unless, supply_of}
use Rattle.history_spec.specs.Instantiation.{offset_of, limits_of, memory_limits, table_limits, new_memory, new_table, global_value, new_store, table_length, elem_fits, data_fits, first_false, first_unfit, with_elem, with_elems, with_datas, with_segments, store_unless, instantiate}
use Rattle.history_spec.specs.Store.{Store, with_items_at}
use Rattle.history_spec.proofs.RenumberedEntries.{items_mapped, empty_kept, entries_of}
use Rattle.record_replay_spec.specs.Hooks.{hooks, renumber, renumbered_table, renumbered_view}
use Rattle.record_replay_spec.specs.Instrumented.{hook_import, renumbered_elem, instrumented_module}
use Rattle.record_replay_spec.specs.HookLaws.{InstrumentedKeepsIndices, InstrumentedKeepIndices}
use Rattle.instrumented_module_laws.specs.Laws.{InstrumentedAreAccepted}
use Rattle.instrumented_module_laws.specs.Links.{InstrumentedAreRunnable, script_with_hooks, InstrumentedAreSupplied, renumbered_link, InstrumentedAreInstantiated}

-- ---- the instrumented module can be run

supported : (m : Module) → refusals true m ≡ [] → IsSupported m
supported m h =
    let all : (refused_instructions m ++ quantities_past true m) ++ reserved_imports true m ≡ [] = h in
    let both = nil_parts (refused_instructions m ++ quantities_past true m) (reserved_imports true m) all in
    let each = nil_parts (refused_instructions m) (quantities_past true m) both.0 in
    record { instructions = each.0; quantities = each.1 }

pub instrumented_are_runnable : InstrumentedAreAccepted → InstrumentedAreRunnable
instrumented_are_runnable law m digest accepted bytes core words =
    let found = law m digest accepted core words in
    record {
      valid = found.valid;
      supported = supported (instrumented_module m digest) found.none_refused;
      bytes = bytes;
    }

-- ---- supply

faults_more : (script : Script) (imports more : List Import) (at globals : ℕ)
    → ((at globals : ℕ) → first_fault script more at globals ≡ None)
    → first_fault script (imports ++ more) at globals ≡ first_fault script imports at globals
faults_more script [] more at globals none = none at globals
faults_more script (i ∷ imports) more at globals none =
    ap (fault_or (import_match script globals i.kind) at)
    (faults_more script imports more (at + 1) (globals + globals_in i.kind) none)

-- ---- entries

module _ (n : ℕ) where
  abbrev entry : Option ℕ → Option ℕ
  entry func = option_map (renumber n) func

  elem_written : (imported : List Val) (e : ElemSeg) (entries : List (Option ℕ))
      → with_elem imported (map entry entries) (renumbered_elem n e) ≡ map entry (with_elem imported entries e)
  elem_written imported (Active table offset funcs) entries =
      ap (with_items_at (map entry entries) (offset_of imported offset)) (entries_of (renumber n) funcs)
      ∙ items_mapped entry entries (offset_of imported offset) (map (λ func. Some func) funcs)
  elem_written imported (Declared funcs) entries = refl

  elems_written : (imported : List Val) (elems : List ElemSeg) (entries other : List (Option ℕ))
      → other ≡ map entry entries
      → fold (with_elem imported) other (map (renumbered_elem n) elems)
      ≡ map entry (fold (with_elem imported) entries elems)
  elems_written imported [] entries other e = e
  elems_written imported (elem ∷ elems) entries other e =
      elems_written imported elems (with_elem imported entries elem) (with_elem imported other (renumbered_elem n elem))
      (ap (λ old. with_elem imported old (renumbered_elem n elem)) e ∙ elem_written imported elem entries)

  table_written : (imported : List Val) (elems : List ElemSeg) (limits : Option Limits)
      → option_map (with_elems imported (map (renumbered_elem n) elems)) (option_map new_table limits)
      ≡ option_map (renumbered_table n) (option_map (with_elems imported elems) (option_map new_table limits))
  table_written imported elems None = refl
  table_written imported elems (Some limits) =
      ap (λ entries. Some (record { entries = entries; max = limits.max }))
      (elems_written imported elems (replicate limits.min None) (replicate limits.min None) (empty_kept (renumber n) limits.min))

  elem_fit : (imported : List Val) (store : Store) (e : ElemSeg)
      → elem_fits imported store (renumbered_elem n e) ≡ elem_fits imported store e
  elem_fit imported store (Active table offset funcs) =
      ap (λ count. nat_le (offset_of imported offset + count) (table_length store.table))
      (length-map funcs (renumber n))
  elem_fit imported store (Declared funcs) = refl

  elems_fit : (imported : List Val) (store : Store) (elems : List ElemSeg)
      → map (elem_fits imported store) (map (renumbered_elem n) elems) ≡ map (elem_fits imported store) elems
  elems_fit imported store [] = refl
  elems_fit imported store (e ∷ elems) =
      let first = elem_fit imported store e in
      let rest = elems_fit imported store elems in (λ i. first i ∷ rest i)

  linked : (o : Option ℕ) (store : Store)
      → store_unless o (renumbered_view n store) ≡ renumbered_link n (store_unless o store)
  linked None store = refl
  linked (Some number) store = refl

-- ---- the module

module _ (keep : InstrumentedKeepIndices) (m : Module) (digest : List ℕ) where
  abbrev hooked : Module
  hooked = instrumented_module m digest

  keeps : InstrumentedKeepsIndices m digest
  keeps = keep m digest

  memory_imports : of_kind memory_import hooked.imports ≡ of_kind memory_import m.imports
  memory_imports =
      append_cancel_right (of_kind memory_import hooked.imports) (of_kind memory_import m.imports) m.memories
      keeps.memories

  table_imports : of_kind table_import hooked.imports ≡ of_kind table_import m.imports
  table_imports =
      append_cancel_right (of_kind table_import hooked.imports) (of_kind table_import m.imports) m.tables keeps.tables

  supply_is : (script : Script) → supply_of hooked (script_with_hooks m script) ≡ supply_of m script
  supply_is script =
      let faults = faults_more script m.imports (map (hook_import m) hooks) 0 0 (λ at globals. refl) in
      (λ i. supply_unless (faults i) (record {
        memory = if_imported (memory_imports i) script.memory;
        table = if_imported (table_imports i) script.table;
        globals = given_values script.globals;
      }))

  new_store_is : (supply : Supply) → new_store hooked supply ≡ new_store m supply
  new_store_is supply = (λ i. record {
    memory = option_map new_memory (limits_of (memory_imports i) supply.memory m.memories);
    table = option_map new_table (limits_of (table_imports i) supply.table m.tables);
    globals = supply.globals ++ map (global_value supply.globals) m.globals;
  })

  unfit_is : (supply : Supply) (store : Store)
      → first_unfit hooked supply.globals store ≡ first_unfit m supply.globals store
  unfit_is supply store =
      ap (λ fits. first_false 0 (fits ++ map (data_fits supply.globals store) m.datas))
      (elems_fit (imported_funcs m) supply.globals store m.elems)

  written_is : (supply : Supply)
      → with_segments hooked supply.globals (new_store m supply)
      ≡ renumbered_view (imported_funcs m) (with_segments m supply.globals (new_store m supply))
  written_is supply =
      ap (λ table. record {
        memory = option_map (with_datas supply.globals m.datas) (option_map new_memory (memory_limits m supply));
        table = table;
        globals = supply.globals ++ map (global_value supply.globals) m.globals;
      }) (table_written (imported_funcs m) supply.globals m.elems (table_limits m supply))

  instance_is : (supply : Supply)
      → instantiate hooked supply ≡ renumbered_link (imported_funcs m) (instantiate m supply)
  instance_is supply =
      let store = new_store m supply in
      ap (λ (s : Store). store_unless (first_unfit hooked supply.globals s) (with_segments hooked supply.globals s))
      (new_store_is supply)
      ∙ ap (λ o. store_unless o (with_segments hooked supply.globals store)) (unfit_is supply store)
      ∙ ap (store_unless (first_unfit m supply.globals store)) (written_is supply)
      ∙ linked (imported_funcs m) (first_unfit m supply.globals store) (with_segments m supply.globals store)

pub instrumented_are_supplied : InstrumentedKeepIndices → InstrumentedAreSupplied
instrumented_are_supplied keep m digest script = supply_is keep m digest script

pub instrumented_are_instantiated : InstrumentedKeepIndices → InstrumentedAreInstantiated
instrumented_are_instantiated keep m digest supply = instance_is keep m digest supply
