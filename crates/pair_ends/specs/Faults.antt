-- The faults of imports, by indices that are counted.
use Rattle.std.specs.Prelude.{ℕ, ◌+◌, ◌≤◌, List, [], ◌∷◌, Option, None, Bool, true, cond}
use Rattle.std.specs.Option.{option_or}
use Rattle.wasm_syntax.specs.declared.modules.Import.{Import}
use Rattle.instance_spec.specs.declared.sides.Side.{Side}
use Rattle.pair_spec.specs.declared.faults.PairFault.{PairFault}
use Rattle.pair_spec.specs.Pairs.{ModulePair, is_from_other, space_of}
use Rattle.pair_spec.specs.Chains.{end_of}
use Rattle.pair_spec.specs.PairRuns.{init_at}
use Rattle.pair_spec.specs.Faults.{fault_by_end, is_one_const}
use Rattle.pair_ends.specs.declared.jumps.End.{End}
use Rattle.pair_ends.specs.declared.jumps.End.TheVariants.{Defined, HostImport}
use Rattle.pair_ends.specs.declared.spaces.IndexSpace.{IndexSpace}
use Rattle.pair_ends.specs.declared.spaces.IndexSpace.TheVariants.{Funcs, Tables, Memories, Globals}
use Rattle.pair_ends.specs.declared.seen.Seen.{Seen}
use Rattle.pair_ends.specs.Spaces.{kind_space}

-- whether a global, if a side defines it, is initialised with one constant
abbrev pub ends_constant : ModulePair → End → Bool
ends_constant pair (Defined side index) = is_one_const (init_at pair side index)
ends_constant pair (HostImport side index) = true

-- ---- imports seen so far

-- none so far
abbrev pub no_seen : Seen
no_seen = record { funcs = 0; tables = 0; memories = 0; globals = 0 }

-- how many there were in a space
abbrev pub seen_on : Seen → IndexSpace → ℕ
seen_on seen Funcs = seen.funcs
seen_on seen Tables = seen.tables
seen_on seen Memories = seen.memories
seen_on seen Globals = seen.globals

-- one more in a space
abbrev pub with_seen : Seen → IndexSpace → Seen
with_seen seen Funcs = record seen { funcs = seen.funcs + 1 }
with_seen seen Tables = record seen { tables = seen.tables + 1 }
with_seen seen Memories = record seen { memories = seen.memories + 1 }
with_seen seen Globals = record seen { globals = seen.globals + 1 }

-- no more than a number in each space
pub record AreWithin (most : ℕ) (seen : Seen) : Type 0 where
  pub funcs : seen.funcs ≤ most
  pub tables : seen.tables ≤ most
  pub memories : seen.memories ≤ most
  pub globals : seen.globals ≤ most

-- ---- faults

-- the fault of the import at a place, which has this index
abbrev pub fault_at : ModulePair → Side → (place index : ℕ) → Import → Option PairFault
fault_at pair side place index i =
    cond (is_from_other side i) (fault_by_end pair side place i.kind (end_of pair (space_of i.kind) side index)) None

-- the first fault among imports, of which the first is at a place, after those seen
abbrev pub first_from : ModulePair → Side → (place : ℕ) → Seen → List Import → Option PairFault
first_from pair side place seen [] = None
first_from pair side place seen (i ∷ imports) =
    option_or (fault_at pair side place (seen_on seen (kind_space i.kind)) i)
    (first_from pair side (place + 1) (with_seen seen (kind_space i.kind)) imports)
