-- Jumps over the imports of chains.
use Rattle.std.proofs.Common.{◌≡◌, ℕ, zero, suc, ◌+◌, List, [], ◌∷◌, map, length, Option, Some, None, Result, Ok, Err, IfOk, Bool, true, false, cond, slice_get, option_map, option_and_then, unwrap_or, refl, ap, ◌∙◌, arith}
use Rattle.std.proofs.lemmas.Option.{slice_get-map}
use Rattle.base.specs.declared.NoMemory.{NoMemory}
use Rattle.wasm_syntax.specs.declared.modules.Import.{Import}
use Rattle.instance_spec.specs.declared.sides.Side.{Side}
use Rattle.instance_spec.specs.declared.sides.Side.TheVariants.{Left, Right}
use Rattle.pair_spec.specs.Pairs.{ModulePair, module_of, other_side, is_from_other, Space, imports_in, exported_index}
use Rattle.pair_spec.specs.Chains as chain
use Rattle.pair_spec.specs.Chains.{ChainEnd, end_by, end_after, end_of}
use Rattle.pair_ends.specs.declared.jumps.End.TheVariants.{Defined, HostImport}
use Rattle.pair_ends.specs.declared.jumps.Jump.{Jump}
use Rattle.pair_ends.specs.declared.jumps.Jump.TheVariants.{Ends, Missing, Goes}
use Rattle.pair_ends.specs.declared.jumps.Jumps.{Jumps}
use Rattle.pair_ends.specs.declared.ends.Ends.{Ends as AllEnds}
use Rattle.pair_ends.specs.Jumps.{jump_to, jump_of, jumps_of, side_jumps, jump_at, jump_then, AreFirstJumps, AreJoined, AreSame}
use Rattle.pair_ends.specs.Ends.{chain_end, end_behind, JumpsAfter, JumpsOfEach, jump_end, end_at, AreEnds}

-- ---- the first jumps

module _ (pair : ModulePair) (space : Space) where
  -- the jump of an import in a list
  jump_in : (side : Side) (first : ℕ) (imports : List Import) (x : ℕ)
      → slice_get (jumps_of pair space side first imports) x ≡ option_map (jump_of pair space side (first + x)) (slice_get imports x)
  jump_in side first [] x = refl
  jump_in side first (i ∷ imports) zero =
      let same : first ≡ first + 0 = omega arith in
      ap (λ n. Some (jump_of pair space side n i)) same
  jump_in side first (i ∷ imports) (suc x) =
      let same : first + 1 + x ≡ first + suc x = omega arith in
      jump_in side (first + 1) imports x ∙ ap (λ n. option_map (jump_of pair space side n) (slice_get imports x)) same

  behind_to : (n : ℕ) (side : Side) (o : Option ℕ)
      → end_behind pair space n (jump_to side o) ≡ option_and_then (end_after n pair space side) o
  behind_to n side None = refl
  behind_to n side (Some y) = refl

  behind_import : (n : ℕ) (side : Side) (x : ℕ) (i : Import)
      → end_behind pair space n (jump_of pair space side x i) ≡ end_by (end_after n pair space) pair space side x (Some i)
  behind_import n side x i = by (is_from_other side i)
    where
      by : (b : Bool)
          → end_behind pair space n
          (cond b (jump_to (other_side side) (exported_index space (module_of pair (other_side side)) i.name)) (Ends (HostImport side x)))
          ≡ cond b (option_and_then (end_after n pair space (other_side side)) (exported_index space (module_of pair (other_side side)) i.name))
          (Some (chain.HostImport side x))
      by true = behind_to n (other_side side) (exported_index space (module_of pair (other_side side)) i.name)
      by false = refl

  behind_first : (n : ℕ) (side : Side) (x : ℕ) (o : Option Import)
      → end_behind pair space n (unwrap_or (option_map (jump_of pair space side x) o) (Ends (Defined side x)))
      ≡ end_by (end_after n pair space) pair space side x o
  behind_first n side x None = refl
  behind_first n side x (Some i) = behind_import n side x i

  first_on : (jumps : Jumps) → AreFirstJumps pair space jumps → (side : Side)
      → side_jumps jumps side ≡ jumps_of pair space side 0 (imports_in space (module_of pair side))
  first_on jumps first Left = first.left
  first_on jumps first Right = first.right

  pub first_jumps : (jumps : Jumps) → AreFirstJumps pair space jumps → JumpsAfter 1 pair space jumps
  first_jumps jumps first = record { after = after }
    where
      after : (more : ℕ) (side : Side) (x : ℕ)
          → end_behind pair space more (jump_at jumps side x) ≡ end_after (1 + more) pair space side x
      after more side x =
          let imports = imports_in space (module_of pair side) in
          let one : suc more ≡ 1 + more = omega arith in
          let from : 0 + x ≡ x = omega arith in
          ap (λ js. end_behind pair space more (unwrap_or (slice_get js x) (Ends (Defined side x)))) (first_on jumps first side)
          ∙ ap (λ o. end_behind pair space more (unwrap_or o (Ends (Defined side x)))) (jump_in side 0 imports x)
          ∙ ap (λ n. end_behind pair space more (unwrap_or (option_map (jump_of pair space side n) (slice_get imports x)) (Ends (Defined side x)))) from
          ∙ behind_first more side x (slice_get imports x)
          ∙ ap (λ k. end_after k pair space side x) one

  -- ---- jumps joined

  joined_on : (firsts seconds jumps : Jumps) → AreJoined firsts seconds jumps → (side : Side)
      → side_jumps jumps side ≡ map (jump_then seconds) (side_jumps firsts side)
  joined_on firsts seconds jumps are Left = are.left
  joined_on firsts seconds jumps are Right = are.right

  joined_at : (firsts seconds jumps : Jumps) → AreJoined firsts seconds jumps → (side : Side) (x : ℕ)
      → jump_at jumps side x ≡ jump_then seconds (jump_at firsts side x)
  joined_at firsts seconds jumps are side x =
      ap (λ js. unwrap_or (slice_get js x) (Ends (Defined side x))) (joined_on firsts seconds jumps are side)
      ∙ ap (λ o. unwrap_or o (Ends (Defined side x))) (slice_get-map (jump_then seconds) (side_jumps firsts side) x)
      ∙ on (slice_get (side_jumps firsts side) x)
    where
      on : (o : Option Jump)
          → unwrap_or (option_map (jump_then seconds) o) (Ends (Defined side x)) ≡ jump_then seconds (unwrap_or o (Ends (Defined side x)))
      on None = refl
      on (Some j) = refl

  behind_then : (b : ℕ) (seconds : Jumps) → JumpsAfter b pair space seconds → (more : ℕ) (j : Jump)
      → end_behind pair space more (jump_then seconds j) ≡ end_behind pair space (b + more) j
  behind_then b seconds are more (Ends e) = refl
  behind_then b seconds are more Missing = refl
  behind_then b seconds are more (Goes side x) = are.after more side x

  pub jumps_joined : (a b : ℕ) (firsts seconds jumps : Jumps) → JumpsAfter a pair space firsts
      → JumpsAfter b pair space seconds → AreJoined firsts seconds jumps → JumpsAfter (a + b) pair space jumps
  jumps_joined a b firsts seconds jumps are_firsts are_seconds are = record { after = after }
    where
      after : (more : ℕ) (side : Side) (x : ℕ)
          → end_behind pair space more (jump_at jumps side x) ≡ end_after (a + b + more) pair space side x
      after more side x =
          let all : a + (b + more) ≡ a + b + more = omega arith in
          ap (end_behind pair space more) (joined_at firsts seconds jumps are side x)
          ∙ behind_then b seconds are_seconds more (jump_at firsts side x)
          ∙ are_firsts.after (b + more) side x
          ∙ ap (λ k. end_after k pair space side x) all

  same_on : (jumps others : Jumps) → AreSame jumps others → (side : Side) → side_jumps others side ≡ side_jumps jumps side
  same_on jumps others same Left = same.left
  same_on jumps others same Right = same.right

  pub same_jumps : (k : ℕ) (jumps others : Jumps) → AreSame jumps others → JumpsAfter k pair space jumps
      → JumpsAfter k pair space others
  same_jumps k jumps others same are =
      record {
        after = λ more side x.
            ap (λ js. end_behind pair space more (unwrap_or (slice_get js x) (Ends (Defined side x)))) (same_on jumps others same side)
            ∙ are.after more side x;
      }

  -- ---- ends

  ended : (j : Jump) → option_map chain_end (jump_end j) ≡ end_behind pair space 0 j
  ended (Ends e) = refl
  ended Missing = refl
  ended (Goes side x) = refl

  pub are_ends : (jumps : Jumps) (ends : AllEnds) → ends.jumps ≡ jumps
      → JumpsAfter (length pair.left.imports + length pair.right.imports + 1) pair space jumps
      → AreEnds pair space ends
  are_ends jumps ends same are = record { are = at }
    where
      at : (side : Side) (x : ℕ) → option_map chain_end (end_at ends side x) ≡ end_of pair space side x
      at side x =
          let count = length pair.left.imports + length pair.right.imports + 1 in
          let none : count + 0 ≡ count = omega arith in
          ap (λ js. option_map chain_end (jump_end (jump_at js side x))) same
          ∙ ended (jump_at jumps side x)
          ∙ are.after 0 side x
          ∙ ap (λ k. end_after k pair space side x) none

-- ---- jumps, if the first ones are over one import

pub joined_each : (a b : ℕ) (firsts one other jumps : Jumps) → JumpsOfEach a firsts one → JumpsOfEach b firsts other
    → AreJoined one other jumps → JumpsOfEach (a + b) firsts jumps
joined_each a b firsts one other jumps h k are =
    record { each = λ pair space first. jumps_joined pair space a b one other jumps (h.each pair space first) (k.each pair space first) are }

pub first_each : (firsts : Jumps) → JumpsOfEach 1 firsts firsts
first_each firsts = record { each = λ pair space first. first }

-- jumps joined with themselves, and with the first ones
pub joined_thrice : (a : ℕ) (firsts one double : Jumps) (result : Result Jumps NoMemory) → JumpsOfEach a firsts one
    → AreJoined one one double → IfOk result (AreJoined double firsts)
    → IfOk result (JumpsOfEach (a + a + 1) firsts)
joined_thrice a firsts one double (Err fault) h twice more = tt
joined_thrice a firsts one double (Ok jumps) h twice more =
    joined_each (a + a) 1 firsts double firsts jumps (joined_each a a firsts one one double h h twice) (first_each firsts) more
