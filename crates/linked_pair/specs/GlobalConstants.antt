-- The constant expressions that name globals in the linked module, by the numbers of globals.
use Rattle.std.specs.Prelude.{◌≡◌, ℕ, ◌+◌, ◌<◌, ◌^◌, List, [], ◌∷◌, Option, Some, None, length}
use Rattle.wasm_syntax.specs.declared.instructions.Instr.{Instr}
use Rattle.wasm_syntax.specs.declared.instructions.Instr.TheVariants as instr
use Rattle.instance_spec.specs.declared.sides.Side.{Side}
use Rattle.instance_spec.specs.declared.sides.Side.TheVariants.{Left, Right}
use Rattle.pair_spec.specs.Pairs.{ModulePair, Globals}
use Rattle.pair_spec.specs.PairRuns.{init_at}
use Rattle.pair_spec.specs.Numbers.{numbers_in}
use Rattle.pair_ends.specs.declared.jumps.End.{End}
use Rattle.pair_ends.specs.declared.jumps.End.TheVariants.{Defined, HostImport}
use Rattle.pair_ends.specs.declared.ends.Ends.{Ends}
use Rattle.pair_ends.specs.declared.numbers.Numbers.{Numbers}
use Rattle.pair_ends.specs.Ends.{AreEnds, end_at}

-- the numbers of a side
abbrev pub numbers_on : Numbers → Side → List ℕ
numbers_on numbers Left = numbers.left.items
numbers_on numbers Right = numbers.right.items

-- these are the numbers of the globals of both sides
pub record AreGlobalNumbers (pair : ModulePair) (numbers : Numbers) : Type 0 where
  pub each : (side : Side) → numbers_on numbers side ≡ numbers_in pair Globals side

-- the ends of the chains of globals, of which both modules import fewer than 2^32, and the numbers of all globals
pub record AreGlobals (pair : ModulePair) (chains : Ends) (all : Numbers) : Type 0 where
  pub imports : length pair.left.imports + length pair.right.imports < 2 ^ 32
  pub ends : AreEnds pair Globals chains
  pub numbers : AreGlobalNumbers pair all

-- the constant expression that names a global in the linked module, by its index, its number and the end of its chain
abbrev pub constant_of_end : ModulePair → (index number : ℕ) → Option End → List Instr
constant_of_end pair index number None = instr.GlobalGet index ∷ instr.End ∷ []
constant_of_end pair index number (Some (HostImport side x)) = instr.GlobalGet number ∷ instr.End ∷ []
constant_of_end pair index number (Some (Defined side x)) = init_at pair side x

-- those that name globals of a side, of which the first has this index, by their numbers
abbrev pub constants_of_ends : ModulePair → Ends → Side → (first : ℕ) → (numbers : List ℕ) → List (List Instr)
constants_of_ends pair ends side first [] = []
constants_of_ends pair ends side first (number ∷ numbers) =
    constant_of_end pair first number (end_at ends side first)
    ∷ constants_of_ends pair ends side (first + 1) numbers
