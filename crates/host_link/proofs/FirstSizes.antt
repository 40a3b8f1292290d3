-- The sizes with which a memory and a table begin.
use Rattle.std.proofs.Common.{◌≡◌, ◌*◌, Option, Some, None, refl, ap, ◌∙◌}
use Rattle.std.specs.Prelude.{option_map}
use Rattle.std.proofs.lemmas.List.{length-replicate}
use Rattle.wasm_syntax.specs.declared.limits.TheConstants.{PAGE_SIZE}
use Rattle.wasm_syntax.specs.declared.signatures.Limits.{Limits}
use Rattle.wasm_syntax.specs.declared.modules.Module.{Module}
use Rattle.host_script.specs.declared.scripts.Supply.{Supply}
use Rattle.history_spec.specs.Instantiation.{memory_length, memory_limits, new_memory, new_store, new_table, table_length, table_limits}
use Rattle.wasm_store.specs.Parts.{minimum_of}
use Rattle.wasm_store.proofs.FirstSizes.{new_memory_length}
use Rattle.host_link.specs.Link.{HasLimits, first_of}

new_table_length : (limits : Option Limits) → table_length (option_map new_table limits) ≡ minimum_of limits
new_table_length None = refl
new_table_length (Some limits) = length-replicate limits.min None

pub bytes_at_first : (m : Module) (supply : Supply) → HasLimits m supply
    → memory_length (new_store m supply).memory ≡ minimum_of (first_of supply.memory m.memories) * PAGE_SIZE
bytes_at_first m supply given =
    new_memory_length (memory_limits m supply) ∙ ap (λ limits. minimum_of limits * PAGE_SIZE) given.memory

pub entries_at_first : (m : Module) (supply : Supply) → HasLimits m supply
    → table_length (new_store m supply).table ≡ minimum_of (first_of supply.table m.tables)
entries_at_first m supply given = new_table_length (table_limits m supply) ∙ ap minimum_of given.table
