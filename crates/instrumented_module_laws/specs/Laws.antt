-- The laws of instrumented modules: they are valid, and accepted if their originals are.
use Rattle.std.specs.Prelude.{ℕ, ◌^◌, ◌≤◌, List, length, true, false}
use Rattle.std.specs.List.{AllByRecursion}
use Rattle.wasm_syntax.specs.declared.instructions.Instr.{Instr}
use Rattle.wasm_syntax.specs.declared.instructions.Instr.TheVariants.{Load, Store}
use Rattle.wasm_syntax.specs.declared.modules.Module.{Module}
use Rattle.wasm_syntax.specs.declared.forms.Form.TheVariants.{Core}
use Rattle.wasm_syntax.specs.Encoding.Encodable.{FitsU32, IsEncodable}
use Rattle.wasm_syntax.specs.Encoding.Forms.{IsCoreModule}
use Rattle.wasm_syntax.specs.Index.{func_indices, all_globals}
use Rattle.wasm_syntax.specs.Profile.{IsAccepted}
use Rattle.wasm_syntax.specs.Validity.{IsValid}
use Rattle.record_replay_spec.specs.Instrumented.{instrumented_module}

-- the offset of a load or a store, which hooks report, is a word
abbrev pub HasWordOffset : Instr → Type 0
HasWordOffset (Load at) = FitsU32 at.offset
HasWordOffset (Store at) = FitsU32 at.offset
HasWordOffset i = Unit {0}

-- the values that hooks report of a module are words: offsets, and indices of functions and of globals
pub record HasWords (m : Module) : Type 0 where
  pub offsets : AllByRecursion (λ f. AllByRecursion HasWordOffset f.body) m.funcs
  pub funcs : length (func_indices m) ≤ 2 ^ 32
  pub globals : length (all_globals m) ≤ 2 ^ 32

-- a module that the form Core encodes is of that form, and its offsets are words
abbrev pub EncodableHaveWords : Type 0
EncodableHaveWords =
    (m : Module) → IsEncodable Core m → length (func_indices m) ≤ 2 ^ 32 → length (all_globals m) ≤ 2 ^ 32
    → IsCoreModule m × HasWords m

-- the instrumented module of a valid module of the form Core is valid
abbrev pub InstrumentedAreValid : Type 0
InstrumentedAreValid =
    (m : Module) (digest : List ℕ) → IsValid m → IsCoreModule m → HasWords m → IsValid (instrumented_module m digest)

-- the instrumented module of an accepted module is accepted, with hooks
abbrev pub InstrumentedAreAccepted : Type 0
InstrumentedAreAccepted =
    (m : Module) (digest : List ℕ) → IsAccepted false m → IsCoreModule m → HasWords m
    → IsAccepted true (instrumented_module m digest)
