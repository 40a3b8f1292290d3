-- Laws of the form of replay modules.
use Rattle.std.specs.Prelude.{◌≡◌, ℕ, List}
use Rattle.wasm_syntax.specs.declared.modules.Module.{Module}
use Rattle.history_spec.specs.Projection.{Layout}
use Rattle.replay_form.specs.Forms.{AreLayoutBytes, HasLayout}

-- bytes are at most one layout
abbrev pub LayoutBytesAreOne : Type 0
LayoutBytesAreOne = (bytes : List ℕ) (a b : Layout) → AreLayoutBytes bytes a → AreLayoutBytes bytes b → a ≡ b

-- a module declares at most one layout
abbrev pub LayoutsAreOne : Type 0
LayoutsAreOne = (m : Module) (a b : Layout) → HasLayout m a → HasLayout m b → a ≡ b
