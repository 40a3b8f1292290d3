-- The numbers of functions and globals in the run of a pair: first the host's imports, those of the left module before
-- those of the right one, then the definitions, those of the left module before those of the right one.
use Rattle.std.specs.Prelude.{ℕ, ◌+◌, ◌-◌, ◌^◌, List, length, map, take}
use Rattle.std.specs.List.{slice_index_or}
use Rattle.std.specs.Option.{option_map_or}
use Rattle.instance_spec.specs.declared.sides.Side.{Side}
use Rattle.instance_spec.specs.declared.sides.Side.TheVariants.{Left, Right}
use Rattle.instance_spec.specs.Instances.{Instance, moved_up}
use Rattle.instance_spec.specs.ForeignRuns.{count_from}
use Rattle.pair_spec.specs.Pairs.{ModulePair, module_of, host_imports, Space, Funcs, Globals, imports_in, defined_in}
use Rattle.pair_spec.specs.Chains.{ChainEnd, Defined, HostImport, end_of}

-- the number of the host's imports of a side, in a space
abbrev pub host_count : ModulePair → Space → Side → ℕ
host_count pair space side = length (host_imports side (imports_in space (module_of pair side)))

-- of both sides
abbrev pub all_hosts : ModulePair → Space → ℕ
all_hosts pair space = host_count pair space Left + host_count pair space Right

-- the number of host's imports before those of a side
abbrev pub hosts_before : ModulePair → Space → Side → ℕ
hosts_before pair space Left = 0
hosts_before pair space Right = host_count pair space Left

-- the number of the host's imports and of definitions before the definitions of a side
abbrev pub defined_before : ModulePair → Space → Side → ℕ
defined_before pair space Left = all_hosts pair space
defined_before pair space Right = all_hosts pair space + defined_in space pair.left

-- how many of a space the run has
abbrev pub count_in : ModulePair → Space → ℕ
count_in pair space = all_hosts pair space + defined_in space pair.left + defined_in space pair.right

-- the number of the end of a chain
abbrev pub number_of : ModulePair → Space → ChainEnd → ℕ
number_of pair space (HostImport side index) =
    hosts_before pair space side
    + length (host_imports side (take index (imports_in space (module_of pair side))))
number_of pair space (Defined side index) =
    defined_before pair space side + (index - length (imports_in space (module_of pair side)))

-- a number that nothing has
abbrev pub no_number : ℕ
no_number = 2 ^ 32 - 1

-- the numbers of a side's indices, in order
abbrev pub numbers_in : ModulePair → Space → Side → List ℕ
numbers_in pair space side =
    map (λ index. option_map_or (number_of pair space) (end_of pair space side index) no_number)
    (count_from 0 (length (imports_in space (module_of pair side)) + defined_in space (module_of pair side)))

-- the number in a list of an index
abbrev pub number_at : List ℕ → (index : ℕ) → ℕ
number_at numbers index = slice_index_or numbers index no_number

-- the number of types before those of a side
abbrev pub types_before : ModulePair → Side → ℕ
types_before pair Left = 0
types_before pair Right = length pair.left.types

-- what the indices of a side's module name in the run (Core 1.0, 4.2.5)
abbrev pub side_instance : ModulePair → Side → Instance
side_instance pair side =
    record {
      types = moved_up (types_before pair side);
      funcs = number_at (numbers_in pair Funcs side);
      globals = number_at (numbers_in pair Globals side);
    }
