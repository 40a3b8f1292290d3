-- What an index of names holds, and that declared names are text.
use Rattle.std.specs.Prelude.{◌≡◌, ℕ, List, All, IsUtf8}
use Rattle.std.specs.List.{list_any}
use Rattle.std.specs.Str.{bytes_eq}
use Rattle.std.specs.Borrow.{Bor}
use Rattle.instance_spec.specs.declared.decls.Decl.{Decl}

-- an index holds these names
pub record HoldsNames (keys : List (Bor (List ℕ))) (names : List (List ℕ)) : Type 0 where
  pub holds : (name : List ℕ)
      → list_any (λ key. bytes_eq name key.now) keys ≡ list_any (λ other. bytes_eq other name) names

-- each declared name is text (Core 1.0, 5.2.4)
abbrev pub NamesAreText : List Decl → Type 0
NamesAreText decls = All (λ (d : Decl). IsUtf8 d.name) decls
