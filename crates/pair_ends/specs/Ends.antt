-- The ends of chains of imports.
use Rattle.std.specs.Prelude.{◌≡◌, ℕ, ◌+◌, Option, Some, None, option_map}
use Rattle.instance_spec.specs.declared.sides.Side.{Side}
use Rattle.pair_spec.specs.Pairs.{ModulePair, Space, Funcs, Tables, Memories, Globals}
use Rattle.pair_spec.specs.Chains as chain
use Rattle.pair_spec.specs.Chains.{ChainEnd, end_after, end_of}
use Rattle.pair_ends.specs.declared.jumps.End.{End}
use Rattle.pair_ends.specs.declared.jumps.End.TheVariants.{Defined, HostImport}
use Rattle.pair_ends.specs.declared.jumps.Jump.{Jump}
use Rattle.pair_ends.specs.declared.jumps.Jump.TheVariants as jump
use Rattle.pair_ends.specs.declared.jumps.Jumps.{Jumps}
use Rattle.pair_ends.specs.declared.ends.Ends.{Ends}
use Rattle.pair_ends.specs.declared.ends.PairEnds.{PairEnds}
use Rattle.pair_ends.specs.declared.spaces.IndexSpace.{IndexSpace}
use Rattle.pair_ends.specs.declared.spaces.IndexSpace.TheVariants as code
use Rattle.pair_ends.specs.Jumps.{jump_at}

-- an end as it is defined
abbrev pub chain_end : End → ChainEnd
chain_end (Defined side index) = chain.Defined side index
chain_end (HostImport side index) = chain.HostImport side index

-- the end of the chain that is there after a jump, if it is among a number of further indices
abbrev pub end_behind : ModulePair → Space → ℕ → Jump → Option ChainEnd
end_behind pair space more (jump.Ends e) = Some (chain_end e)
end_behind pair space more jump.Missing = None
end_behind pair space more (jump.Goes side index) = end_after more pair space side index

-- jumps over a number of imports each
pub record JumpsAfter (count : ℕ) (pair : ModulePair) (space : Space) (jumps : Jumps) : Type 0 where
  pub after : (more : ℕ) (side : Side) (index : ℕ)
      → end_behind pair space more (jump_at jumps side index) ≡ end_after (count + more) pair space side index

-- jumps over a number of imports each, if the first ones are over one
pub record JumpsOfEach (count : ℕ) (firsts jumps : Jumps) : Type 0 where
  pub each : (pair : ModulePair) (space : Space) → JumpsAfter 1 pair space firsts → JumpsAfter count pair space jumps

-- the end where a jump ends
abbrev pub jump_end : Jump → Option End
jump_end (jump.Ends e) = Some e
jump_end jump.Missing = None
jump_end (jump.Goes side index) = None

-- the end of the chain from an index
abbrev pub end_at : Ends → Side → (index : ℕ) → Option End
end_at ends side index = jump_end (jump_at ends.jumps side index)

-- the ends of all chains of a space
pub record AreEnds (pair : ModulePair) (space : Space) (ends : Ends) : Type 0 where
  pub are : (side : Side) (index : ℕ) → option_map chain_end (end_at ends side index) ≡ end_of pair space side index

-- the ends of the chains of a space
abbrev pub ends_on : PairEnds → IndexSpace → Ends
ends_on ends code.Funcs = ends.funcs
ends_on ends code.Tables = ends.tables
ends_on ends code.Memories = ends.memories
ends_on ends code.Globals = ends.globals

-- the ends of all chains of a pair
pub record AreAllEnds (pair : ModulePair) (ends : PairEnds) : Type 0 where
  pub funcs : AreEnds pair Funcs ends.funcs
  pub tables : AreEnds pair Tables ends.tables
  pub memories : AreEnds pair Memories ends.memories
  pub globals : AreEnds pair Globals ends.globals
