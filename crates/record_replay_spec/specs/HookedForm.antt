-- The hooked form: the modules that declare that they are instrumented, and from which original.
use Rattle.std.specs.Prelude.{ℕ, ◌-◌, List, [], ◌∷◌, length, take, drop, filter, Option, Some, None, Bool, true, false, cond, ◌&&◌, nat_eq, bytes_eq}
use Rattle.wasm_syntax.specs.declared.signatures.FuncType.{FuncType}
use Rattle.wasm_syntax.specs.declared.modules.Import.{Import}
use Rattle.wasm_syntax.specs.declared.modules.ImportKind.{ImportKind}
use Rattle.wasm_syntax.specs.declared.modules.ImportKind.TheVariants.{Func}
use Rattle.wasm_syntax.specs.declared.modules.Custom.{Custom}
use Rattle.wasm_syntax.specs.declared.modules.Module.{Module}
use Rattle.wasm_syntax.specs.Alike.{same_signature}
use Rattle.wasm_syntax.specs.Index.{imported_funcs, type_at}
use Rattle.record_replay_spec.specs.declared.hooks.Hook.{Hook}
use Rattle.record_replay_spec.specs.Hooks.{hooks, hook_count, hook_name, hook_module, hook_type}
use Rattle.record_replay_spec.specs.Instrumented.{section_name, section_bytes}

-- what a module in the hooked form declares: the digest of the original, and the numbers of functions that the
-- original imports and defines
pub record HookedForm : Type 0 where
  pub digest : List ℕ
  pub imports : ℕ
  pub defined : ℕ

-- ---- imports

-- the optional type is this function type
abbrev pub is_of_type : FuncType → Option FuncType → Bool
is_of_type wanted None = false
is_of_type wanted (Some ty) = same_signature ty wanted

-- an import is a function of this type
abbrev pub brings : Module → FuncType → ImportKind → Bool
brings m wanted (Func ty) = is_of_type wanted (type_at m ty)
brings m wanted kind = false

-- an import is from the hooks' module
abbrev pub is_from_hooks : Import → Bool
is_from_hooks import = bytes_eq import.module hook_module

-- an import is this hook
abbrev pub is_hook : Module → Hook → Import → Bool
is_hook m kind import =
    is_from_hooks import && bytes_eq import.name (hook_name kind) && brings m (hook_type kind) import.kind

-- imports are these hooks, in this order
abbrev pub are_hooks : Module → List Hook → List Import → Bool
are_hooks m [] [] = true
are_hooks m (kind ∷ kinds) (import ∷ imports) = is_hook m kind import && are_hooks m kinds imports
are_hooks m kinds imports = false

-- an import is of a function
abbrev pub is_func_kind : ImportKind → Bool
is_func_kind (Func ty) = true
is_func_kind kind = false

-- the imports of functions, in their order
abbrev pub func_imports : Module → List Import
func_imports m = filter (λ import. is_func_kind import.kind) m.imports

-- the number of functions that the original imports, if the last imports of functions are the hooks
abbrev pub own_imports : Module → ℕ
own_imports m = imported_funcs m - hook_count

-- the last imports of functions are the hooks, and no other import is from their module
abbrev pub imports_hooks : Module → Bool
imports_hooks m =
    are_hooks m hooks (drop (own_imports m) (func_imports m))
    && nat_eq (length (filter is_from_hooks m.imports)) hook_count

-- ---- the section

-- the number of bytes of a digest
abbrev pub digest_length : ℕ
digest_length = 32

-- the custom sections with the name of the hooked section
abbrev pub hooked_sections : Module → List Custom
hooked_sections m = filter (λ custom. bytes_eq custom.name section_name) m.customs

-- the form that a single section of this name declares, if it is the section of a module with these numbers of imports
-- and definitions
abbrev pub form_of_sections : (imports defined : ℕ) → List Custom → Option HookedForm
form_of_sections imports defined (custom ∷ []) =
    let digest : List ℕ = take digest_length custom.bytes
    in cond (nat_eq (length digest) digest_length && bytes_eq custom.bytes (section_bytes digest imports defined))
    (Some (record { digest = digest; imports = imports; defined = defined })) None
form_of_sections imports defined customs = None

-- the hooked form of a module, if it has one
abbrev pub hooked_form : Module → Option HookedForm
hooked_form m =
    cond (imports_hooks m) (form_of_sections (own_imports m) (length m.funcs) (hooked_sections m)) None
