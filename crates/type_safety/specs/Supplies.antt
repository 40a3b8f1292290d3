-- Supplies that match a module's imports (Core 1.0, 4.5.2), and modules that can be run.
use Rattle.std.specs.Prelude.{ℕ, ◌<◌, List, [], ◌∷◌, map, Option, Some, None, IsTrue, All}
use Rattle.wasm_syntax.specs.declared.limits.TheConstants.{MAX_ENTRIES, MAX_PAGES}
use Rattle.wasm_syntax.specs.declared.signatures.Limits.{Limits}
use Rattle.wasm_syntax.specs.declared.modules.Module.{Module}
use Rattle.wasm_syntax.specs.Index.{of_kind, memory_import, table_import, imported_globals}
use Rattle.wasm_syntax.specs.Validity.{IsValid}
use Rattle.wasm_syntax.specs.Profile.{IsSupported}
use Rattle.host_script.specs.declared.scripts.Supply.{Supply}
use Rattle.host_script.specs.Supply.{limits_match}
use Rattle.type_safety.specs.Values.{AreValues}
use Rattle.type_safety.specs.Stores.{func_count}

-- data segments hold bytes
abbrev pub HasBytes : Module → Type 0
HasBytes m = All (λ segment. All (λ byte. byte < 256) segment.bytes) m.datas

-- a module that can be run: valid, supported, and its data segments hold bytes
pub record IsRunnable (m : Module) : Type 0 where
  pub valid : IsValid m
  pub supported : IsSupported m
  pub bytes : HasBytes m

-- limits are supplied if there is an import, and match the first one
abbrev pub Match : ℕ → List Limits → Option Limits → Type 0
Match most [] supplied = Unit {0}
Match most (wanted ∷ more) None = ⊥
Match most (wanted ∷ more) (Some given) = IsTrue (limits_match most given wanted)

-- a supply matches the imports, each global by its type
pub record IsSupply (m : Module) (supply : Supply) : Type 0 where
  pub memory : Match MAX_PAGES (of_kind memory_import m.imports) supply.memory
  pub table : Match MAX_ENTRIES (of_kind table_import m.imports) supply.table
  pub globals : AreValues (func_count m) (map (λ global. global.ty) (imported_globals m)) supply.globals
