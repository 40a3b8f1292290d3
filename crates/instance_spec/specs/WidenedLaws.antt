-- Laws of widened modules: they have an encoding, are accepted, and have short lists, if their originals do.
use Rattle.std.specs.Prelude.{ℕ, ◌+◌, ◌*◌, ◌^◌, ◌≤◌, List, length, All, Bool, IsUtf8}
use Rattle.wasm_syntax.specs.declared.limits.TheConstants.{MAX_PARAMETERS}
use Rattle.wasm_syntax.specs.declared.forms.Form.{Form}
use Rattle.wasm_syntax.specs.declared.forms.Form.TheVariants.{Core, Replay}
use Rattle.wasm_syntax.specs.declared.modules.Module.{Module}
use Rattle.wasm_syntax.specs.Encoding.Encodable.{IsEncodable}
use Rattle.wasm_syntax.specs.Encoding.Forms.{IsCoreModule}
use Rattle.wasm_syntax.specs.ListsWithin.{HasListsWithin}
use Rattle.wasm_syntax.specs.Profile.{IsAccepted, IsSupported}
use Rattle.wasm_syntax.specs.Validity.{IsValid}
use Rattle.instance_spec.specs.declared.decls.Decl.{Decl}
use Rattle.instance_spec.specs.Widened.{widened}
use Rattle.instance_spec.specs.Laws.{AreDecls}

-- ---- the binary format

-- declarations that can be written: their names are text (Core 1.0, 5.2.4), and each type has an index
pub record AreWritable (m : Module) (decls : List Decl) : Type 0 where
  pub are : AreDecls m decls
  pub names : All (λ (d : Decl). IsUtf8 d.name) decls
  pub few_types : length m.types + length decls ≤ 2 ^ 32

-- the widened module of one of the form Core is one
abbrev pub WidenedAreCore : Type 0
WidenedAreCore = (m : Module) (decls : List Decl) → IsCoreModule m → IsCoreModule (widened m decls)

-- the widened module of one that has an encoding has one in the same form; it has one in the form Replay if the
-- original is valid and has one in the form Core
pub record WidenedAreEncodable : Type 0 where
  pub same_form : (form : Form) (m : Module) (decls : List Decl) → IsEncodable form m → AreWritable m decls
      → IsEncodable form (widened m decls)
  pub core_form : (m : Module) (decls : List Decl) → IsEncodable Core m → IsValid m → AreWritable m decls
      → IsEncodable Replay (widened m decls)

-- ---- the accepted profile

-- no declared type has more parameters than one of an accepted module
abbrev pub HaveFewParameters : List Decl → Type 0
HaveFewParameters decls = All (λ (d : Decl). length d.ty.params ≤ MAX_PARAMETERS) decls

-- the widened module of an accepted one is accepted: other indices change no opcode, the quantities are those of the
-- original and of the declared types, and `foreign` is no reserved name
abbrev pub WidenedAreAccepted : Type 0
WidenedAreAccepted =
    (hooked : Bool) (m : Module) (decls : List Decl) → IsAccepted hooked m → AreDecls m decls
    → HaveFewParameters decls → IsAccepted hooked (widened m decls)

-- the widened module of one that can be run can be run
abbrev pub WidenedAreSupported : Type 0
WidenedAreSupported =
    (m : Module) (decls : List Decl) → IsSupported m → HaveFewParameters decls → IsSupported (widened m decls)

-- ---- sizes

-- the list lengths of a widened module are at most the sum of a bound on those of the original, of 2 for each declared
-- function, and of `MAX_PARAMETERS`
abbrev pub WidenedHaveListsWithin : Type 0
WidenedHaveListsWithin =
    (m : Module) (decls : List Decl) (most : ℕ) → HasListsWithin most m → HaveFewParameters decls
    → HasListsWithin (most + 2 * length decls + MAX_PARAMETERS) (widened m decls)
