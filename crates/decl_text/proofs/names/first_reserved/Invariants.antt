use Rattle.std.proofs.Common.{◌≡◌, ◌+◌, drop}
use Rattle.decl_text.specs.Texts.{first_reserved}
use Rattle.decl_text.proofs.names.first_reserved.Given as goal

abbrev pub invariant-imports : goal.invariant-imports
invariant-imports l = first_reserved 0 l.«module».imports ≡ first_reserved (0 + l.place) (drop l.place l.«module».imports)
