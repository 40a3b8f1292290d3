-- The hooked form as the code reads it.
use Rattle.std.specs.Prelude.{ℕ, List, [], ◌∷◌, Option, Some, None, Bool, false, cond, nat_eq}
use Rattle.wasm_syntax.specs.declared.modules.Custom.{Custom}
use Rattle.record_replay_spec.specs.HookedForm as model
use Rattle.hook_insert.specs.declared.forms.HookedForm.{HookedForm}

-- the form that the definitions use
abbrev pub form_of : HookedForm → model.HookedForm
form_of form = record { digest = form.digest; imports = form.imports; defined = form.defined }

-- ---- the section

-- the only section of a list, if there is exactly one
abbrev pub only : List Custom → Option Custom
only (custom ∷ []) = Some custom
only customs = None

-- ---- bytes

-- bytes begin with a byte
abbrev pub begins_with : (byte : ℕ) → List ℕ → Bool
begins_with byte [] = false
begins_with byte (b ∷ bytes) = nat_eq b byte

-- the bytes after a prefix, if they begin with it
abbrev pub left_after : (front bytes : List ℕ) → Option (List ℕ)
left_after [] bytes = Some bytes
left_after (f ∷ front) [] = None
left_after (f ∷ front) (b ∷ bytes) = cond (nat_eq b f) (left_after front bytes) None
