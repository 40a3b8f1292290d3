-- Where a chain of imports is after some of its imports.
use Rattle.std.specs.Prelude.{◌≡◌, ℕ, ◌+◌, List, [], ◌∷◌, map, Option, Some, None, cond, slice_get, unwrap_or}
use Rattle.wasm_syntax.specs.declared.modules.Import.{Import}
use Rattle.instance_spec.specs.declared.sides.Side.{Side}
use Rattle.instance_spec.specs.declared.sides.Side.TheVariants.{Left, Right}
use Rattle.pair_spec.specs.Pairs.{ModulePair, module_of, other_side, is_from_other, Space, imports_in, exported_index}
use Rattle.pair_ends.specs.declared.jumps.End.TheVariants.{Defined, HostImport}
use Rattle.pair_ends.specs.declared.jumps.Jump.{Jump}
use Rattle.pair_ends.specs.declared.jumps.Jump.TheVariants.{Ends, Missing, Goes}
use Rattle.pair_ends.specs.declared.jumps.Jumps.{Jumps}

-- behind an import from the other side, which has this export
abbrev pub jump_to : Side → Option ℕ → Jump
jump_to side None = Missing
jump_to side (Some index) = Goes side index

-- behind an import, which has this index
abbrev pub jump_of : ModulePair → Space → Side → (index : ℕ) → Import → Jump
jump_of pair space side index i =
    cond (is_from_other side i)
    (jump_to (other_side side) (exported_index space (module_of pair (other_side side)) i.name))
    (Ends (HostImport side index))

-- behind each import of a side's list, of which the first has this index
abbrev pub jumps_of : ModulePair → Space → Side → (index : ℕ) → List Import → List Jump
jumps_of pair space side index [] = []
jumps_of pair space side index (i ∷ imports) =
    jump_of pair space side index i ∷ jumps_of pair space side (index + 1) imports

-- the jumps of a side
abbrev pub side_jumps : Jumps → Side → List Jump
side_jumps jumps Left = jumps.left.items
side_jumps jumps Right = jumps.right.items

-- the jump from an index; a definition is its own end
abbrev pub jump_at : Jumps → Side → (index : ℕ) → Jump
jump_at jumps side index = unwrap_or (slice_get (side_jumps jumps side) index) (Ends (Defined side index))

-- where a chain is after a jump and the jump from there
abbrev pub jump_then : (seconds : Jumps) → Jump → Jump
jump_then seconds (Ends e) = Ends e
jump_then seconds Missing = Missing
jump_then seconds (Goes side index) = jump_at seconds side index

-- jumps over one import each
pub record AreFirstJumps (pair : ModulePair) (space : Space) (jumps : Jumps) : Type 0 where
  pub left : side_jumps jumps Left ≡ jumps_of pair space Left 0 (imports_in space pair.left)
  pub right : side_jumps jumps Right ≡ jumps_of pair space Right 0 (imports_in space pair.right)

-- jumps that are two jumps each
pub record AreJoined (firsts seconds jumps : Jumps) : Type 0 where
  pub left : side_jumps jumps Left ≡ map (jump_then seconds) (side_jumps firsts Left)
  pub right : side_jumps jumps Right ≡ map (jump_then seconds) (side_jumps firsts Right)

-- the same jumps
pub record AreSame (jumps others : Jumps) : Type 0 where
  pub left : side_jumps others Left ≡ side_jumps jumps Left
  pub right : side_jumps others Right ≡ side_jumps jumps Right
