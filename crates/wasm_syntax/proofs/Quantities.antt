-- The quantities of a module that are past their limits, by kind.
use Rattle.std.proofs.Common.{List, length}
use Rattle.std.specs.Prelude.{filter_map}
use Rattle.wasm_syntax.specs.declared.limits.TheConstants.{MAX_ENTRIES, MAX_PAGES, MAX_PARAMETERS}
use Rattle.wasm_syntax.specs.declared.profile.Which.TheVariants.{Parameters, Table, Memory}
use Rattle.wasm_syntax.specs.declared.modules.Module.{Module}
use Rattle.wasm_syntax.specs.Index.{all_memories, all_tables}
use Rattle.wasm_syntax.specs.Profile.{Refusal, past}

abbrev pub parameters_past : Module → List Refusal
parameters_past m = filter_map (λ ty. past MAX_PARAMETERS Parameters (length ty.params)) m.types

abbrev pub tables_past : Module → List Refusal
tables_past m = filter_map (λ limits. past MAX_ENTRIES Table limits.min) (all_tables m)

abbrev pub memories_past : Module → List Refusal
memories_past m = filter_map (λ limits. past MAX_PAGES Memory limits.min) (all_memories m)
