-- The laws by which flat code is made of the instrumented modules of modules in files, and run: the values that their
-- hooks report are words, their lists are short, their last imports are the hooks, and stores of their originals are
-- theirs, with functions renumbered.
use Rattle.std.specs.Prelude.{◌≡◌, ℕ, ◌≤◌, List, length, true, false}
use Rattle.wasm_syntax.specs.declared.limits.TheConstants.{MAX_ORIGINAL_BYTES}
use Rattle.wasm_syntax.specs.declared.forms.Form.TheVariants.{Core}
use Rattle.wasm_syntax.specs.declared.modules.Module.{Module}
use Rattle.wasm_syntax.specs.Encoding.Forms.{IsCoreModule}
use Rattle.wasm_syntax.specs.Encoding.Modules.{Encodes}
use Rattle.wasm_syntax.specs.Index.{all_globals, imported_funcs}
use Rattle.wasm_syntax.specs.Profile.{IsAccepted}
use Rattle.wasm_syntax.specs.ListsWithin.{HasListsWithin}
use Rattle.history_spec.specs.Store.{Store}
use Rattle.type_safety.specs.Stores.{IsStore}
use Rattle.wasm_flat.specs.Sizes.{IsShort}
use Rattle.record_replay_spec.specs.Hooks.{renumbered_view}
use Rattle.record_replay_spec.specs.HookedForm.{own_imports, imports_hooks}
use Rattle.record_replay_spec.specs.Instrumented.{instrumented_module}
use Rattle.instrumented_module_laws.specs.Laws.{HasWords}

-- a module that at most `MAX_ORIGINAL_BYTES` bytes encode is of the form Core, and the values that hooks report of it
-- are words
abbrev pub EncodedHaveWords : Type 0
EncodedHaveWords =
    (bytes : List ℕ) (m : Module) → Encodes Core bytes m → length bytes ≤ MAX_ORIGINAL_BYTES
    → IsCoreModule m × HasWords m

-- a module has at most as many globals as there are bytes that encode it
abbrev pub GlobalsAreWithinEncoding : Type 0
GlobalsAreWithinEncoding =
    (bytes : List ℕ) (m : Module) → Encodes Core bytes m → length (all_globals m) ≤ length bytes

-- the instrumented module of an accepted one has short lists, if no list of the original has more than
-- `MAX_ORIGINAL_BYTES` items
abbrev pub InstrumentedAreShort : Type 0
InstrumentedAreShort =
    (m : Module) (digest : List ℕ) (most : ℕ) → IsAccepted false m → IsCoreModule m → HasWords m
    → HasListsWithin most m → most ≤ MAX_ORIGINAL_BYTES → IsShort (instrumented_module m digest)

-- the last imports of functions of an instrumented module are the hooks, no other import is from their module, and
-- before them are as many imports of functions as the original has
abbrev pub InstrumentedImportHooks : Type 0
InstrumentedImportHooks =
    (m : Module) (digest : List ℕ) → IsAccepted false m
    → (imports_hooks (instrumented_module m digest) ≡ true)
    × (own_imports (instrumented_module m digest) ≡ imported_funcs m)

-- a store of a module, with functions renumbered, is a store of its instrumented module
abbrev pub InstrumentedHaveStores : Type 0
InstrumentedHaveStores =
    (m : Module) (digest : List ℕ) (store : Store) → IsStore m store
    → IsStore (instrumented_module m digest) (renumbered_view (imported_funcs m) store)
