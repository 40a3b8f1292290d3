-- What a recorder knows at the beginning of a run.
use Rattle.std.proofs.Common.{◌≡◌, ℕ, zero, suc, List, [], ◌∷◌, length, map, false, Option, Some, None, slice_get, slice_index, slice_index_or, refl, sym, ap, ◌∙◌}
use Rattle.std.specs.Option.{option_flatten}
use Rattle.wasm_syntax.specs.declared.modules.Module.{Module}
use Rattle.history_spec.specs.Store.{Store, Memory, Table}
use Rattle.history_spec.specs.Instantiation.{table_length}
use Rattle.wasm_store.specs.Calls.{bytes_of_memory, entries_of_table}
use Rattle.type_safety.specs.Stores.{func_count, global_types}
use Rattle.type_safety.specs.Values.{AreValues}
use Rattle.type_safety.proofs.Values.{types_values}
use Rattle.record_replay_spec.specs.Known.{byte_of, entry_of}
use Rattle.record_replay_spec.specs.Order.{order_start, shape_of}
use Rattle.record_replay_spec.specs.Logs.{log_start}
use Rattle.hook_order.specs.Orders.{parts_at_start}
use Rattle.hook_order.specs.Shapes.{ShapeParts, parts_of, shape_from}
use Rattle.shadow_memory.specs.Shadow.{Shadow}
use Rattle.shadow_memory.specs.Opening as memories
use Rattle.shadow_tables.specs.Tables.{Tables}
use Rattle.shadow_tables.specs.Tables as tables_of
use Rattle.recorder.specs.Known.{Show}
use Rattle.recorder.specs.Known.{HaveTypes}
use Rattle.recorder.specs.Recorders.{StandsAt}
use Rattle.recorder.proofs.Arms.{pages_same}

byte_same : (memory : Option Memory) (at : ℕ) → byte_of memory at ≡ slice_index (bytes_of_memory memory) at
byte_same None at = refl
byte_same (Some memory) at = refl

item_same : (entries : List (Option ℕ)) (at : ℕ)
    → option_flatten (slice_get entries at) ≡ slice_index_or entries at None
item_same [] at = refl
item_same (None ∷ entries) zero = refl
item_same (Some func ∷ entries) zero = refl
item_same (entry ∷ entries) (suc at) = item_same entries at

entry_same : (table : Option Table) (at : ℕ) → entry_of table at ≡ slice_index_or (entries_of_table table) at None
entry_same None at = refl
entry_same (Some table) at = item_same table.entries at

size_same : (table : Option Table) → table_length table ≡ length (entries_of_table table)
size_same None = refl
size_same (Some table) = refl

module _ (store : Store) (memory : Shadow) (tables : Tables) (knows : memories.IsOpening store memory)
    (knows' : tables_of.IsOpening store tables) where
  pub shows_opening : Show memory tables (log_start store)
  shows_opening =
      record {
        byte = λ at. byte_same store.memory at ∙ sym (knows.bytes at);
        entry = λ at.
            entry_same store.table at ∙ ap (λ entries. slice_index_or entries at None) (sym knows'.entries);
        global = λ at. ap (λ globals. slice_get globals at) (sym knows'.globals);
        pages = sym (pages_same store.memory) ∙ sym knows.known;
        entries = size_same store.table ∙ ap length (sym knows'.entries);
        noticed = sym (pages_same store.memory) ∙ sym knows.noticed;
      }

  pub stands_at_start : {S : Type 0} (n : ℕ) (m : Module) (shape : ShapeParts) (sink : S) → shape ≡ parts_of n m
      → StandsAt
      (record {
        recording =
            record { order = parts_at_start shape; memory = memory; tables = tables; sink = sink };
        frozen = None;
        calls = 0;
        broken = false;
      })
      (shape_of n m) (order_start (table_length store.table)) (log_start store) 0
  stands_at_start n m shape sink same =
      record {
        whole = refl;
        counted = refl;
        shaped = ap shape_from same;
        ordered = ap order_start (ap length knows'.entries ∙ sym (size_same store.table));
        shows = shows_opening;
      }

  pub types_at_start : (n : ℕ) (m : Module) (shape : ShapeParts) → shape ≡ parts_of n m
      → AreValues (func_count m) (global_types m) store.globals
      → HaveTypes shape.globals tables.globals
  types_at_start n m shape same typed =
      ap (map (λ value. value.ty)) knows'.globals
      ∙ types_values (func_count m) (global_types m) store.globals typed
      ∙ ap (λ s. map (λ ty. ty.ty) s.globals) (sym same)
