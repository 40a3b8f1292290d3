-- What the indices of one module of a pair are in the linked module, by lists.
use Rattle.std.specs.Prelude.{ℕ, ◌+◌, List, [], ◌∷◌, ◌≡◌, length, map, slice_get, unwrap_or}
use Rattle.wasm_syntax.specs.declared.instructions.Instr.{Instr}
use Rattle.wasm_syntax.specs.declared.instructions.Instr.TheVariants.{End, GlobalGet}
use Rattle.instance_spec.specs.declared.sides.Side.{Side}
use Rattle.instance_spec.specs.Instances.{Instance, moved_up}
use Rattle.instance_spec.specs.ForeignRuns.{count_from}
use Rattle.pair_spec.specs.Pairs.{ModulePair, module_of, Funcs, Globals, imports_in, defined_in}
use Rattle.pair_spec.specs.Numbers.{types_before, numbers_in, number_at}
use Rattle.pair_spec.specs.Linked.{linked_constant}
use Rattle.linked_pair.specs.declared.numbers.SideNumbers.{SideNumbers}

-- the instance that these lists give
abbrev pub instance_by : SideNumbers → Instance
instance_by numbers =
    record {
      types = moved_up numbers.types;
      funcs = number_at numbers.funcs.items;
      globals = number_at numbers.globals.items;
    }

-- the constant expressions of the linked module that name a side's globals, in their order
abbrev pub constants_in : ModulePair → Side → List (List Instr)
constants_in pair side =
    map (λ index. linked_constant pair side (GlobalGet index ∷ End ∷ []))
    (count_from 0 (length (imports_in Globals (module_of pair side)) + defined_in Globals (module_of pair side)))

-- a constant expression, by those that name globals
abbrev pub constant_from : (constants : List (List Instr)) → (body : List Instr) → List Instr
constant_from constants (GlobalGet x ∷ End ∷ []) = unwrap_or (slice_get constants x) []
constant_from constants body = body

-- these lists are those of a side of a pair
pub record AreNumbersOf (pair : ModulePair) (side : Side) (numbers : SideNumbers) : Type 0 where
  pub types : numbers.types ≡ types_before pair side
  pub funcs : numbers.funcs.items ≡ numbers_in pair Funcs side
  pub globals : numbers.globals.items ≡ numbers_in pair Globals side
  pub constants : numbers.constants ≡ constants_in pair side
