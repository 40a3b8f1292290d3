-- The numbers of ends, by what is counted.
use Rattle.std.proofs.Common.{◌≡◌, ℕ, zero, suc, ◌+◌, ◌-◌, ◌<◌, ◌≤◌, ◌^◌, List, [], ◌∷◌, ◌++◌, map, filter, take, length, Option, Some, None, IfSome, Bool, true, false, cond, not, slice_get, option_map, unwrap_or, refl, sym, ap, ap₂, ◌∙◌, arith}
use Rattle.std.specs.Option.{option_map_or}
use Rattle.std.proofs.lemmas.List.{map-append}
use Rattle.wasm_syntax.specs.declared.modules.Import.{Import}
use Rattle.instance_spec.specs.declared.sides.Side.{Side}
use Rattle.instance_spec.specs.declared.sides.Side.TheVariants.{Left, Right}
use Rattle.instance_spec.specs.ForeignRuns.{count_from}
use Rattle.pair_spec.specs.Pairs.{ModulePair, module_of, is_from_other, host_imports, Space, imports_in, defined_in}
use Rattle.pair_spec.specs.Chains as chain
use Rattle.pair_spec.specs.Chains.{ChainEnd, end_of}
use Rattle.pair_spec.specs.Numbers.{host_count, hosts_before, defined_before, count_in, number_of, no_number, numbers_in}
use Rattle.pair_ends.specs.declared.jumps.End.{End}
use Rattle.pair_ends.specs.declared.jumps.End.TheVariants.{Defined, HostImport}
use Rattle.pair_ends.specs.declared.ends.Ends.{Ends}
use Rattle.pair_ends.specs.declared.numbers.Counts.{Counts}
use Rattle.pair_ends.specs.Ends.{chain_end, end_at, AreEnds}
use Rattle.pair_ends.specs.Numbers.{AreCountable, host_weight, hosts_before_each, hosts_with, AreHosts, hosts_at, AreCounts, hosts_on, counted_before, counted_defined, number_by, number_if, AreFew}
use Rattle.pair_ends.proofs.EndsThere.{size, IsEndThere, ends_there}

-- ---- the host's imports, counted

module _ (side : Side) where
  pub each_counted : (n : ℕ) (is : List Import) → length (hosts_before_each side n is) ≡ length is
  each_counted n [] = refl
  each_counted n (i ∷ is) = ap suc (each_counted (n + host_weight side i) is)

  -- one import more
  one_host : (n : ℕ) (i : Import) (is : List Import)
      → n + host_weight side i + length (host_imports side is) ≡ n + length (host_imports side (i ∷ is))
  one_host n i is = by (is_from_other side i)
    where
      by : (b : Bool)
          → n + cond b 0 1 + length (host_imports side is)
          ≡ n + length (cond (not b) (i ∷ host_imports side is) (host_imports side is))
      by true = omega arith
      by false = omega arith

  all_counted : (n : ℕ) (is : List Import) → hosts_with side n is ≡ n + length (host_imports side is)
  all_counted n [] = omega arith
  all_counted n (i ∷ is) = all_counted (n + host_weight side i) is ∙ one_host n i is

  counted_at : (n : ℕ) (is : List Import) (k : ℕ)
      → unwrap_or (slice_get (hosts_before_each side n is) k) (hosts_with side n is) ≡ n + length (host_imports side (take k is))
  counted_at n [] zero = omega arith
  counted_at n [] (suc k) = omega arith
  counted_at n (i ∷ is) zero = omega arith
  counted_at n (i ∷ is) (suc k) = counted_at (n + host_weight side i) is k ∙ one_host n i (take k is)

-- no more pass of the first items than of all
few_pass : {X : Type 0} (p : X → Bool) (xs : List X) (k : ℕ) → length (filter p (take k xs)) ≤ length (filter p xs)
few_pass p [] zero = omega arith
few_pass p [] (suc k) = omega arith
few_pass p (x ∷ xs) zero = omega arith
few_pass p (x ∷ xs) (suc k) = by (p x) (few_pass p xs k)
  where
    by : (b : Bool) → length (filter p (take k xs)) ≤ length (filter p xs)
        → length (cond b (x ∷ filter p (take k xs)) (filter p (take k xs))) ≤ length (cond b (x ∷ filter p xs) (filter p xs))
    by true h = omega (arith, h)
    by false h = h

-- ---- the number of an end

module _ (pair : ModulePair) (space : Space) (counts : Counts) (are : AreCounts pair space counts) where
  hosts_are : (side : Side) → AreHosts pair space side (hosts_on counts side)
  hosts_are Left = are.left
  hosts_are Right = are.right

  pub count_is : (side : Side) → (hosts_on counts side).count ≡ host_count pair space side
  count_is side =
      let all = all_counted side 0 (imports_in space (module_of pair side)) in
      (hosts_are side).count ∙ all ∙ omega arith

  pub count_in_is : (right : ℕ) → right ≡ defined_in space pair.right
      → counts.left.count + counts.right.count + counts.left_defined + right ≡ count_in pair space
  count_in_is right is =
      ap₂ (λ a b. a + b) (ap₂ (λ a b. a + b) (ap₂ (λ a b. a + b) (count_is Left) (count_is Right)) are.left_defined) is

  pub length_is : (side : Side) → length (hosts_on counts side).before.items ≡ length (imports_in space (module_of pair side))
  length_is side = ap length (hosts_are side).before ∙ each_counted side 0 (imports_in space (module_of pair side))

  hosts_at_is : (side : Side) (x : ℕ)
      → hosts_at (hosts_on counts side) x ≡ length (host_imports side (take x (imports_in space (module_of pair side))))
  hosts_at_is side x =
      ap₂ (λ items n. unwrap_or (slice_get items x) n) (hosts_are side).before (hosts_are side).count
      ∙ counted_at side 0 (imports_in space (module_of pair side)) x ∙ omega arith

  before_is : (side : Side) → counted_before counts side ≡ hosts_before pair space side
  before_is Left = refl
  before_is Right = count_is Left

  defined_is : (side : Side) → counted_defined counts side ≡ defined_before pair space side
  defined_is Left = ap₂ (λ a b. a + b) (count_is Left) (count_is Right)
  defined_is Right = ap₂ (λ a b. a + b) (ap₂ (λ a b. a + b) (count_is Left) (count_is Right)) are.left_defined

  pub number_is : (e : End) → number_by counts e ≡ number_of pair space (chain_end e)
  number_is (HostImport side x) = ap₂ (λ a b. a + b) (before_is side) (hosts_at_is side x)
  number_is (Defined side x) = ap₂ (λ a n. a + (x - n)) (defined_is side) (length_is side)

  number_if_is : (o : Option End) → number_if counts o ≡ option_map_or (number_of pair space) (option_map chain_end o) no_number
  number_if_is None = refl
  number_if_is (Some e) = number_is e

-- an end that is there has a number below their count
low_number : (pair : ModulePair) (space : Space) (e : ChainEnd) → IsEndThere pair space e
    → number_of pair space e ≤ count_in pair space
low_number pair space (chain.HostImport Left x) there =
    let few = few_pass (λ i. not (is_from_other Left i)) (imports_in space pair.left) x in
    omega (arith, few)
low_number pair space (chain.HostImport Right x) there =
    let few = few_pass (λ i. not (is_from_other Right i)) (imports_in space pair.right) x in
    omega (arith, few)
low_number pair space (chain.Defined Left x) there = omega (arith, there)
low_number pair space (chain.Defined Right x) there = omega (arith, there)

module _ (pair : ModulePair) (space : Space) (counts : Counts) (ends : Ends) (countable : AreCountable pair space)
    (are_counts : AreCounts pair space counts) (are_ends : AreEnds pair space ends) where
  pub few_numbers : (side : Side) (n : ℕ) → n ≡ size space (module_of pair side) → AreFew counts ends side n
  few_numbers side n same = record { few = λ x within. by x (omega (arith, within, same)) (end_at ends side x) refl }
    where
      by : (x : ℕ) → x < size space (module_of pair side) → (o : Option End) → end_at ends side x ≡ o
          → IfSome o (λ e. number_by counts e < 2 ^ 32)
      by x within None is = tt
      by x within (Some e) is =
          let at : end_of pair space side x ≡ Some (chain_end e) = sym (are_ends.are side x) ∙ ap (option_map chain_end) is in
          let there = ends_there pair space countable.left countable.right side x within (chain_end e) at in
          let low = low_number pair space (chain_end e) there in
          let same = number_is pair space counts are_counts e in
          omega (arith, low, same, countable.few)

  each_number : (side : Side) (x : ℕ)
      → number_if counts (end_at ends side x) ≡ option_map_or (number_of pair space) (end_of pair space side x) no_number
  each_number side x =
      number_if_is pair space counts are_counts (end_at ends side x)
      ∙ ap (λ o. option_map_or (number_of pair space) o no_number) (are_ends.are side x)

  pub numbers_are : (side : Side) (n : ℕ) → n ≡ size space (module_of pair side)
      → map (λ x. number_if counts (end_at ends side x)) (count_from 0 n) ≡ numbers_in pair space side
  numbers_are side n same =
      all (count_from 0 n)
      ∙ ap (λ k. map (λ x. option_map_or (number_of pair space) (end_of pair space side x) no_number) (count_from 0 k)) same
    where
      all : (xs : List ℕ) → map (λ x. number_if counts (end_at ends side x)) xs
          ≡ map (λ x. option_map_or (number_of pair space) (end_of pair space side x) no_number) xs
      all [] = refl
      all (x ∷ xs) = ap₂ (λ y ys. y ∷ ys) (each_number side x) (all xs)

-- ---- a loop over indices

counted_on : (first count : ℕ) → count_from first (suc count) ≡ count_from first count ++ (first + count) ∷ []
counted_on first zero = let e : first ≡ first + 0 = omega arith in ap (λ n. n ∷ []) e
counted_on first (suc count) =
    let e : first + 1 + count ≡ first + suc count = omega arith in
    ap (λ ns. first ∷ ns) (counted_on (first + 1) count ∙ ap (λ n. count_from (first + 1) count ++ n ∷ []) e)

pub one_more : (F : ℕ → ℕ) (i : ℕ) (items new : List ℕ) (value : ℕ) → items ≡ map F (count_from 0 i) → value ≡ F i
    → new ≡ items ++ value ∷ [] → new ≡ map F (count_from 0 (i + 1))
one_more F i items new value before is after =
    let next : suc i ≡ i + 1 = omega arith in
    let from : 0 + i ≡ i = omega arith in
    after ∙ ap₂ (λ xs v. xs ++ v ∷ []) before is
    ∙ ap (λ n. map F (count_from 0 i) ++ F n ∷ []) (sym from)
    ∙ sym (map-append F (count_from 0 i) ((0 + i) ∷ []))
    ∙ ap (map F) (sym (counted_on 0 i))
    ∙ ap (λ n. map F (count_from 0 n)) next
