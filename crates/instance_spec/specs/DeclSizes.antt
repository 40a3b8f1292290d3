-- The sizes of declarations: a JSON text that declares functions has at least as many bytes.
use Rattle.std.specs.Prelude.{ℕ, ◌+◌, ◌*◌, List, [], ◌∷◌, length}
use Rattle.instance_spec.specs.declared.decls.Decl.{Decl}

-- the size of a declaration: its object, its three keys and their values take at least as many bytes of a text
abbrev pub decl_size : Decl → ℕ
decl_size d = 24 + length d.name + 4 * (length d.ty.params + length d.ty.results)

-- the size of declarations
abbrev pub decls_size : List Decl → ℕ
decls_size [] = 0
decls_size (d ∷ decls) = decl_size d + decls_size decls
