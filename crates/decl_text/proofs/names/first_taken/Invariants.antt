use Rattle.std.proofs.Common.{◌≡◌, ◌++◌, map, take, drop}
use Rattle.decl_text.specs.Texts.{first_taken, export_names}
use Rattle.decl_text.specs.Names.{HoldsNames}
use Rattle.decl_text.proofs.names.first_taken.Given as goal

-- the index holds the names of exports and of the declarations so far; the first that is taken is still to come
abbrev pub invariant-decls : goal.invariant-decls
invariant-decls l =
    HoldsNames l.names.keys (export_names l.«module» ++ map (λ decl. decl.name) (take l.decl-index l.decls))
    × (first_taken (export_names l.«module» ++ map (λ decl. decl.name) (take l.decl-index l.decls)) (drop l.decl-index l.decls)
    ≡ first_taken (export_names l.«module») l.decls)
