-- Names: bytes of a size that are UTF-8.
use Rattle.std.proofs.Common.{◌≡◌, ℕ, List, Some, None, refl, inl, inr}
use Rattle.std.specs.Str.{IsUtf8, is_utf8}
use Rattle.std.proofs.lemmas.Bool.{cases_Bool}
use Rattle.std.proofs.lemmas.Str.{IsUtf8-from_is_utf8, is_utf8-from_IsUtf8}
use Rattle.wasm_syntax.specs.Encoding.Combinators.{first_sized}
use Rattle.wasm_syntax.specs.Encoding.Readers.{first_name, first_bytes}

pub name_read : (bytes content rest : List ℕ) → first_sized Some bytes ≡ Some (content, rest) → IsUtf8 content
    → first_name bytes ≡ Some (content, rest)
unfolding first_name first_bytes
name_read bytes content rest sized text = rw (sized, is_utf8-from_IsUtf8 content text) refl

pub no_name : (bytes content rest : List ℕ) → first_sized Some bytes ≡ Some (content, rest) → (IsUtf8 content → ⊥)
    → first_name bytes ≡ None
unfolding first_name first_bytes
no_name bytes content rest sized other = elim (cases_Bool (is_utf8 content)) [
  | inl text ↦ absurd (other (IsUtf8-from_is_utf8 content text))
  | inr bad ↦ rw (sized, bad) refl
]
