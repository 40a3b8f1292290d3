-- What is counted for the numbers of functions and globals in the run of a pair.
use Rattle.std.specs.Prelude.{◌≡◌, ℕ, ◌+◌, ◌-◌, ◌<◌, ◌^◌, List, [], ◌∷◌, Option, Some, None, IfSome, cond, length, slice_get, unwrap_or}
use Rattle.wasm_syntax.specs.declared.modules.Import.{Import}
use Rattle.wasm_syntax.specs.Validity.{IsValid}
use Rattle.instance_spec.specs.declared.sides.Side.{Side}
use Rattle.instance_spec.specs.declared.sides.Side.TheVariants.{Left, Right}
use Rattle.pair_spec.specs.Pairs.{ModulePair, module_of, is_from_other, Space, imports_in, defined_in}
use Rattle.pair_spec.specs.Numbers.{count_in, no_number}
use Rattle.pair_ends.specs.declared.jumps.End.{End}
use Rattle.pair_ends.specs.declared.jumps.End.TheVariants.{Defined, HostImport}
use Rattle.pair_ends.specs.declared.ends.Ends.{Ends}
use Rattle.pair_ends.specs.declared.numbers.Hosts.{Hosts}
use Rattle.pair_ends.specs.declared.numbers.Counts.{Counts}
use Rattle.pair_ends.specs.Ends.{end_at}

-- both modules are valid, and there are fewer imports and fewer of a space than 2^32
pub record AreCountable (pair : ModulePair) (space : Space) : Type 0 where
  pub left : IsValid pair.left
  pub right : IsValid pair.right
  pub imports : length pair.left.imports + length pair.right.imports < 2 ^ 32
  pub few : count_in pair space < 2 ^ 32

-- ---- the host's imports

-- 1 if an import of a side is the host's
abbrev pub host_weight : Side → Import → ℕ
host_weight side i = cond (is_from_other side i) 0 1

-- how many of the host's come before each import, beside those counted before
abbrev pub hosts_before_each : Side → (count : ℕ) → List Import → List ℕ
hosts_before_each side count [] = []
hosts_before_each side count (i ∷ imports) = count ∷ hosts_before_each side (count + host_weight side i) imports

-- how many are the host's, with those counted before
abbrev pub hosts_with : Side → (count : ℕ) → List Import → ℕ
hosts_with side count [] = count
hosts_with side count (i ∷ imports) = hosts_with side (count + host_weight side i) imports

-- the host's imports of a side are counted
pub record AreHosts (pair : ModulePair) (space : Space) (side : Side) (hosts : Hosts) : Type 0 where
  pub before : hosts.before.items ≡ hosts_before_each side 0 (imports_in space (module_of pair side))
  pub count : hosts.count ≡ hosts_with side 0 (imports_in space (module_of pair side))

-- how many of the host's come before an index
abbrev pub hosts_at : Hosts → (index : ℕ) → ℕ
hosts_at hosts index = unwrap_or (slice_get hosts.before.items index) hosts.count

-- ---- the numbers

-- all is counted for a space
pub record AreCounts (pair : ModulePair) (space : Space) (counts : Counts) : Type 0 where
  pub left : AreHosts pair space Left counts.left
  pub right : AreHosts pair space Right counts.right
  pub left_defined : counts.left_defined ≡ defined_in space pair.left

-- the host's imports of a side
abbrev pub hosts_on : Counts → Side → Hosts
hosts_on counts Left = counts.left
hosts_on counts Right = counts.right

-- the number of the host's imports before those of a side
abbrev pub counted_before : Counts → Side → ℕ
counted_before counts Left = 0
counted_before counts Right = counts.left.count

-- the number of the host's imports and of definitions before the definitions of a side
abbrev pub counted_defined : Counts → Side → ℕ
counted_defined counts Left = counts.left.count + counts.right.count
counted_defined counts Right = counts.left.count + counts.right.count + counts.left_defined

-- the number of an end
abbrev pub number_by : Counts → End → ℕ
number_by counts (HostImport side index) = counted_before counts side + hosts_at (hosts_on counts side) index
number_by counts (Defined side index) =
    counted_defined counts side + (index - length (hosts_on counts side).before.items)

-- the number of an end, or one that nothing has
abbrev pub number_if : Counts → Option End → ℕ
number_if counts None = no_number
number_if counts (Some e) = number_by counts e

-- the numbers of the ends of chains from the first indices fit into 32 bits
pub record AreFew (counts : Counts) (ends : Ends) (side : Side) (size : ℕ) : Type 0 where
  pub few : (index : ℕ) → index < size → IfSome (end_at ends side index) (λ e. number_by counts e < 2 ^ 32)
