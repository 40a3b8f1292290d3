-- What bytes mean, by what `serde_json` reads.
use Rattle.std.proofs.Common.{◌≡◌, ℕ, List, Some, None, Err, Bool, true, false, cond, refl, ap}
use Rattle.std.specs.Str.{is_utf8, IsUtf8}
use Rattle.std.proofs.lemmas.Str.{IsUtf8-from_is_utf8, is_utf8-from_IsUtf8}
use Rattle.serde_json.specs.Data.{Data}
use Rattle.serde_json.specs.Read.{read}
use Rattle.wasm_syntax.specs.declared.modules.Module.{Module}
use Rattle.decl_text.specs.declared.faults.DeclFault.TheVariants.{NotJson}
use Rattle.decl_text.specs.Texts.{decls_of, decls_read, decls_of_text}

pub text_read : (m : Module) (bytes : List ℕ) (d : Data) → IsUtf8 bytes → read bytes ≡ Some d
    → decls_of_text m bytes ≡ decls_of m d
text_read m bytes d text is = rw (is_utf8-from_IsUtf8 bytes text, is) refl

pub no_text : (m : Module) (bytes : List ℕ) → (IsUtf8 bytes → read bytes ≡ None) → decls_of_text m bytes ≡ Err NotJson
no_text m bytes h = by (is_utf8 bytes) (λ e. h (IsUtf8-from_is_utf8 bytes e))
  where
    by : (b : Bool) → (b ≡ true → read bytes ≡ None) → cond b (decls_read m (read bytes)) (Err NotJson) ≡ Err NotJson
    by true h = ap (decls_read m) (h refl)
    by false h = refl
