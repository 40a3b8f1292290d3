-- What the linked module of two modules comes with.
use Rattle.std.specs.Prelude.{◌≡◌, ◌+◌, ◌<◌, ◌^◌, Some, None, Result, Ok, Err, length}
use Rattle.instance_spec.specs.declared.sides.Side.TheVariants.{Left, Right}
use Rattle.pair_spec.specs.Pairs.{ModulePair, Funcs, Globals}
use Rattle.pair_spec.specs.Numbers.{count_in, numbers_in}
use Rattle.pair_spec.specs.Linked.{linked}
use Rattle.pair_spec.specs.declared.faults.PairFault.{PairFault}
use Rattle.pair_spec.specs.Faults.{first_pair_fault}
use Rattle.linked_pair.specs.declared.link.Pair.{Pair}

-- each import, type, function and global of both modules has an index
pub record HaveFewIndices (pair : ModulePair) : Type 0 where
  pub imports : length pair.left.imports + length pair.right.imports < 2 ^ 32
  pub types : length pair.left.types + length pair.right.types < 2 ^ 32
  pub funcs : count_in pair Funcs < 2 ^ 32
  pub globals : count_in pair Globals < 2 ^ 32

-- the linked module of a pair, and the numbers of each side's functions and globals in it
pub record IsLinkedPair (pair : ModulePair) (made : Pair) : Type 0 where
  pub «module» : made.«module» ≡ linked pair
  pub left_funcs : made.left.funcs ≡ numbers_in pair Funcs Left
  pub left_globals : made.left.globals ≡ numbers_in pair Globals Left
  pub right_funcs : made.right.funcs ≡ numbers_in pair Funcs Right
  pub right_globals : made.right.globals ≡ numbers_in pair Globals Right

-- the linked module of a pair without a fault, or else the first fault
abbrev pub IsPairOrFault : ModulePair → Result Pair PairFault → Type 0
IsPairOrFault pair (Ok made) = IsLinkedPair pair made × (first_pair_fault pair ≡ None)
IsPairOrFault pair (Err fault) = first_pair_fault pair ≡ Some fault
