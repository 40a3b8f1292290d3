-- Laws of declarations that are read from a text.
use Rattle.std.specs.Prelude.{◌≡◌, ℕ, ◌+◌, ◌^◌, ◌<◌, ◌≤◌, List, length, Ok}
use Rattle.wasm_syntax.specs.declared.modules.Module.{Module}
use Rattle.wasm_syntax.specs.Index.{imported_funcs}
use Rattle.wasm_syntax.specs.Validity.{IsValid}
use Rattle.instance_spec.specs.declared.decls.Decl.{Decl}
use Rattle.instance_spec.specs.DeclSizes.{decls_size}
use Rattle.instance_spec.specs.Laws.{AreDecls}
use Rattle.instance_spec.specs.WidenedLaws.{HaveFewParameters}
use Rattle.decl_text.specs.Texts.{decls_of_text}

-- declarations have no greater size than the text that they are read from has bytes
abbrev pub DeclarationsAreWithinTexts : Type 0
DeclarationsAreWithinTexts =
    (m : Module) (bytes : List ℕ) (decls : List Decl) → decls_of_text m bytes ≡ Ok decls
    → decls_size decls ≤ length bytes

-- declarations that are read for a valid module are declarations for it, and have few parameters, if there are not too
-- many functions
abbrev pub DeclarationsFit : Type 0
DeclarationsFit =
    (m : Module) (bytes : List ℕ) (decls : List Decl) → decls_of_text m bytes ≡ Ok decls → IsValid m
    → imported_funcs m + length decls + length m.funcs < 2 ^ 32 → AreDecls m decls × HaveFewParameters decls
