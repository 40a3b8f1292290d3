-- What is needed of both modules of a pair for their numbers, and what an answer of the call gives.
use Rattle.std.proofs.Common.{◌≡◌, ◌⊎◌, inr, ◌+◌, ◌<◌, ◌≤◌, ◌^◌, length, None, Some, Result, Ok, Err, IfOk, IfErr, sym, ap, arith}
use Rattle.wasm_syntax.specs.declared.modules.Module.{Module}
use Rattle.instance_spec.specs.declared.sides.Side.{Side}
use Rattle.instance_spec.specs.declared.sides.Side.TheVariants.{Left, Right}
use Rattle.pair_spec.specs.declared.faults.PairFault.{PairFault}
use Rattle.pair_spec.specs.declared.faults.PairFault.TheVariants.{Memory}
use Rattle.pair_spec.specs.Pairs.{ModulePair, Funcs, Globals}
use Rattle.pair_spec.specs.Numbers.{numbers_in}
use Rattle.pair_spec.specs.Faults.{first_pair_fault}
use Rattle.pair_laws.specs.Laws.{AreLinkable}
use Rattle.pair_ends.specs.declared.numbers.Numbers.{Numbers}
use Rattle.pair_ends.specs.Numbers.{AreCountable}
use Rattle.linked_pair.specs.declared.link.Pair.{Pair}
use Rattle.linked_pair.specs.GlobalConstants.{AreGlobalNumbers, numbers_on}
use Rattle.linked_pair.specs.LinkedPairs.{HaveFewIndices, IsLinkedPair, IsPairOrFault}

-- ---- numbers

pub funcs_countable : (pair : ModulePair) → AreLinkable pair → HaveFewIndices pair → AreCountable pair Funcs
funcs_countable pair linkable few =
    record { left = linkable.left; right = linkable.right; imports = few.imports; few = few.funcs }

pub globals_countable : (pair : ModulePair) → AreLinkable pair → HaveFewIndices pair → AreCountable pair Globals
globals_countable pair linkable few =
    record { left = linkable.left; right = linkable.right; imports = few.imports; few = few.globals }

pub on_each : (pair : ModulePair) (numbers : Numbers) → numbers.left.items ≡ numbers_in pair Globals Left
    → numbers.right.items ≡ numbers_in pair Globals Right → AreGlobalNumbers pair numbers
on_each pair numbers left right = record { each = by }
  where
    by : (side : Side) → numbers_on numbers side ≡ numbers_in pair Globals side
    by Left = left
    by Right = right

pub left_types : (pair : ModulePair) (m : Module) → m ≡ pair.left → HaveFewIndices pair → length m.types < 2 ^ 32
left_types pair m is few =
    let same : length m.types ≡ length pair.left.types = ap (λ (m : Module). length m.types) is in
    let all = few.types in
    omega (arith, same, all)

pub all_types : (pair : ModulePair) → HaveFewIndices pair → length pair.left.types + length pair.right.types ≤ 2 ^ 32
all_types pair few = let all = few.types in omega (arith, all)

-- ---- answers

module _ (pair : ModulePair) where
  pub if_linked : (r : Result Pair PairFault) → IsPairOrFault pair r → IfOk r (λ made. IsLinkedPair pair made)
  if_linked (Ok made) h = h.0
  if_linked (Err fault) h = tt

  pub if_taken : (r : Result Pair PairFault) → IsPairOrFault pair r → IfOk r (λ made. first_pair_fault pair ≡ None)
  if_taken (Ok made) h = h.1
  if_taken (Err fault) h = tt

  pub if_refused : (r : Result Pair PairFault) → IsPairOrFault pair r
      → IfErr r (λ fault. (fault ≡ Memory) ⊎ (first_pair_fault pair ≡ Some fault))
  if_refused (Ok made) h = tt
  if_refused (Err fault) h = inr h
