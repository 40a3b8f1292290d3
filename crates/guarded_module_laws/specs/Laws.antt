-- The laws of a guarded module as a module.
use Rattle.std.specs.Prelude.{◌≡◌, ℕ, ◌+◌, ◌^◌, ◌<◌, ◌≤◌, List, length, All, Some, slice_get}
use Rattle.wasm_syntax.specs.declared.signatures.FuncType.{FuncType}
use Rattle.wasm_syntax.specs.declared.modules.Func.{Func}
use Rattle.wasm_syntax.specs.declared.modules.Module.{Module}
use Rattle.wasm_syntax.specs.Index.{func_type, type_at}
use Rattle.wasm_syntax.specs.Validity.{IsValid}
use Rattle.history_spec.specs.Projection.{Layout}
use Rattle.guarded_module_spec.specs.GuardedModules.{guarded_module}
use Rattle.guarded_module_spec.specs.Forms.{IsGuardable}

-- numbers of 64 bits, of which there are fewer than there are numbers of 32 bits
pub record AreFewWords (words : List ℕ) : Type 0 where
  pub few : length words < 2 ^ 32
  pub small : All (λ word. word < 2 ^ 64) words

-- the guarded module of a valid module is valid
abbrev pub GuardedModulesAreValid : Type 0
GuardedModulesAreValid =
    (m : Module) (layout : Layout) (entry : ℕ) (words : List ℕ)
    → IsValid m → IsGuardable m layout entry → AreFewWords words → IsValid (guarded_module m layout entry words)

-- a guarded module keeps types, the types of functions, and the original's functions, at their indices
pub record KeepsGuarded (m : Module) (layout : Layout) (guarded : Module) : Type 0 where
  pub types : (t : ℕ) (ty : FuncType) → type_at m t ≡ Some ty → type_at guarded t ≡ Some ty
  pub signatures : (f : ℕ) (ty : FuncType) → func_type m f ≡ Some ty → func_type guarded f ≡ Some ty
  pub funcs : (f : ℕ) (func : Func) → layout.imports ≤ f → f < layout.imports + layout.defined
      → slice_get m.funcs f ≡ Some func → slice_get guarded.funcs f ≡ Some func

-- the guarded module keeps the original's functions under their numbers
abbrev pub GuardedModulesKeepOriginals : Type 0
GuardedModulesKeepOriginals =
    (m : Module) (layout : Layout) (entry : ℕ) (words : List ℕ) → IsGuardable m layout entry
    → KeepsGuarded m layout (guarded_module m layout entry words)
