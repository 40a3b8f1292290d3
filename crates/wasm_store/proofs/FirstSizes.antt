-- The number of bytes with which a memory begins.
use Rattle.std.proofs.Common.{◌≡◌, ◌*◌, Option, Some, None, refl}
use Rattle.std.specs.Prelude.{option_map}
use Rattle.std.proofs.lemmas.List.{length-replicate}
use Rattle.wasm_syntax.specs.declared.limits.TheConstants.{PAGE_SIZE}
use Rattle.wasm_syntax.specs.declared.signatures.Limits.{Limits}
use Rattle.history_spec.specs.Instantiation.{memory_length, new_memory}
use Rattle.wasm_store.specs.Parts.{minimum_of}

pub new_memory_length : (limits : Option Limits)
    → memory_length (option_map new_memory limits) ≡ minimum_of limits * PAGE_SIZE
new_memory_length None = refl
new_memory_length (Some limits) = length-replicate (limits.min * PAGE_SIZE) 0
