use Rattle.std.proofs.Common.{◌≡◌, ◌∷◌, ◌++◌, take}
use Rattle.std.specs.Prelude.{flat_map}
use Rattle.script_text.specs.Walk.{escape_of}
use Rattle.decl_text.proofs.paths.push_part.Given as goal

-- the bytes so far are escaped
abbrev pub invariant-bytes : goal.invariant-bytes
invariant-bytes l = l.path.items ≡ l.fn.path.items ++ (47 ∷ flat_map escape_of (take l.byte-index l.byte-items))
