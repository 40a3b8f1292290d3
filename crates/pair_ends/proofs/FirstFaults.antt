-- The first fault of a pair, by indices of imports that are counted.
use Rattle.std.proofs.Common.{◌≡◌, ℕ, ◌+◌, ◌≤◌, List, [], ◌∷◌, ◌++◌, filter, take, length, nat_le, Option, Some, None, Result, IfOk, Bool, true, false, cond, option_map, refl, sym, ap, ap₂, ◌∙◌, subst, arith}
use Rattle.std.specs.Option.{option_or}
use Rattle.std.proofs.Math.Seq.{take-append_seam}
use Rattle.std.proofs.lemmas.List.{length-append, append_assoc}
use Rattle.std.proofs.lemmas.List.Elements.{filter-append}
use Rattle.wasm_syntax.specs.declared.modules.Import.{Import}
use Rattle.wasm_syntax.specs.declared.modules.ImportKind.{ImportKind}
use Rattle.wasm_syntax.specs.declared.modules.ImportKind.TheVariants as import
use Rattle.instance_spec.specs.declared.sides.Side.{Side}
use Rattle.instance_spec.specs.declared.sides.Side.TheVariants.{Left, Right}
use Rattle.pair_spec.specs.Pairs.{ModulePair, module_of, is_from_other, is_in, space_of}
use Rattle.pair_spec.specs.Chains.{end_of}
use Rattle.pair_spec.specs.declared.faults.PairFault.{PairFault}
use Rattle.pair_spec.specs.declared.faults.PairFault.TheVariants.{TwoMemories, TwoTables, TwoStarts}
use Rattle.pair_spec.specs.Pairs as spaces
use Rattle.pair_spec.specs.Numbers.{count_in}
use Rattle.pair_spec.specs.Faults.{fault_unless, import_index, import_fault, first_import_fault, has_one_start, first_pair_fault}
use Rattle.base.specs.declared.NoMemory.{NoMemory}
use Rattle.pair_ends.specs.declared.spaces.IndexSpace.{IndexSpace}
use Rattle.pair_ends.specs.declared.spaces.IndexSpace.TheVariants.{Funcs, Tables, Memories, Globals}
use Rattle.pair_ends.specs.declared.ends.PairEnds.{PairEnds}
use Rattle.pair_ends.specs.declared.seen.Seen.{Seen}
use Rattle.pair_ends.specs.Spaces.{kind_space, space}
use Rattle.pair_ends.specs.Ends.{chain_end, end_at, AreEnds, ends_on, AreAllEnds}
use Rattle.pair_ends.specs.Faults.{no_seen, seen_on, with_seen, AreWithin, fault_at, first_from}

-- ---- index spaces

pub space_is : (kind : ImportKind) → space (kind_space kind) ≡ space_of kind
space_is (import.Func ty) = refl
space_is (import.Table limits) = refl
space_is (import.Memory limits) = refl
space_is (import.Global ty) = refl

pub ends_in_space : (pair : ModulePair) (ends : PairEnds) → AreAllEnds pair ends → (sp : IndexSpace)
    → AreEnds pair (space sp) (ends_on ends sp)
ends_in_space pair ends are Funcs = are.funcs
ends_in_space pair ends are Tables = are.tables
ends_in_space pair ends are Memories = are.memories
ends_in_space pair ends are Globals = are.globals

-- ---- imports seen so far

counted : (kind : ImportKind) (sp : IndexSpace) (seen : Seen)
    → seen_on (with_seen seen (kind_space kind)) sp ≡ seen_on seen sp + cond (is_in (space sp) kind) 1 0
counted (import.Func ty) Funcs seen = refl
counted (import.Func ty) sp seen = omega arith
counted (import.Table limits) Tables seen = refl
counted (import.Table limits) sp seen = omega arith
counted (import.Memory limits) Memories seen = refl
counted (import.Memory limits) sp seen = omega arith
counted (import.Global ty) Globals seen = refl
counted (import.Global ty) sp seen = omega arith

-- what is seen is how many imports of each space there were
pub record HasSeen (seen : Seen) (before : List Import) : Type 0 where
  pub on : (sp : IndexSpace) → seen_on seen sp ≡ length (filter (λ i. is_in (space sp) i.kind) before)

seen_more : (seen : Seen) (before : List Import) (i : Import) → HasSeen seen before
    → HasSeen (with_seen seen (kind_space i.kind)) (before ++ i ∷ [])
seen_more seen before i has = record { on = on }
  where
    one : (n : ℕ) (b : Bool) → n + cond b 1 0 ≡ n + length (cond b (i ∷ []) [])
    one n true = refl
    one n false = refl

    on : (sp : IndexSpace)
        → seen_on (with_seen seen (kind_space i.kind)) sp ≡ length (filter (λ j. is_in (space sp) j.kind) (before ++ i ∷ []))
    on sp =
        let test : Import → Bool = λ j. is_in (space sp) j.kind in
        counted i.kind sp seen
        ∙ ap (λ n. n + cond (is_in (space sp) i.kind) 1 0) (has.on sp)
        ∙ one (length (filter test before)) (is_in (space sp) i.kind)
        ∙ sym (length-append (filter test before) (filter test (i ∷ [])))
        ∙ sym (ap length (filter-append test before (i ∷ [])))

-- ---- the first fault of a side

module _ (pair : ModulePair) (side : Side) where
  faults_from : (before imports : List Import) (seen : Seen) → (module_of pair side).imports ≡ before ++ imports
      → HasSeen seen before
      → first_from pair side (length before) seen imports ≡ first_import_fault pair side (length before) imports
  faults_from before [] seen all has = refl
  faults_from before (i ∷ imports) seen all has =
      let place = length before in
      let so_far : take place (module_of pair side).imports ≡ before = ap (take place) all ∙ take-append_seam before (i ∷ imports) in
      let index : seen_on seen (kind_space i.kind) ≡ import_index (module_of pair side) place i.kind =
      has.on (kind_space i.kind)
      ∙ ap (λ sp. length (filter (λ (j : Import). is_in sp j.kind) before)) (space_is i.kind)
      ∙ ap (λ js. length (filter (λ (j : Import). is_in (space_of i.kind) j.kind) js)) (sym so_far) in
      let here : fault_at pair side place (seen_on seen (kind_space i.kind)) i ≡ import_fault pair side place i =
      ap (λ n. fault_at pair side place n i) index in
      let next : length (before ++ i ∷ []) ≡ place + 1 = length-append before (i ∷ []) in
      let later = with_seen seen (kind_space i.kind) in
      let rest = faults_from (before ++ i ∷ []) imports later (all ∙ sym (append_assoc before (i ∷ []) imports)) (seen_more seen before i has) in
      ap₂ option_or here
      (subst (λ n. first_from pair side n later imports ≡ first_import_fault pair side n imports) next rest)

  none_seen : HasSeen no_seen []
  none_seen = record { on = on }
    where
      on : (sp : IndexSpace) → seen_on no_seen sp ≡ 0
      on Funcs = refl
      on Tables = refl
      on Memories = refl
      on Globals = refl

  pub faults_are : first_from pair side 0 no_seen (module_of pair side).imports
      ≡ first_import_fault pair side 0 (module_of pair side).imports
  faults_are = faults_from [] (module_of pair side).imports no_seen refl none_seen

-- ---- the first fault of a pair

abbrev pub joint_of : ModulePair → Option PairFault
joint_of pair =
    option_or (fault_unless (nat_le (count_in pair spaces.Memories) 1) TwoMemories)
    (option_or (fault_unless (nat_le (count_in pair spaces.Tables) 1) TwoTables) (fault_unless (has_one_start pair) TwoStarts))

first_or : {X : Type 0} (a b rest : Option X) (x : X) → option_or a b ≡ Some x → option_or a (option_or b rest) ≡ Some x
first_or None None rest x is = cc
first_or None (Some y) rest x is = is
first_or (Some y) b rest x is = is

later_or : {X : Type 0} (a b rest : Option X) → option_or a b ≡ None → option_or a (option_or b rest) ≡ rest
later_or None None rest is = refl
later_or None (Some y) rest is = cc
later_or (Some y) b rest is = cc

module _ (pair types : ModulePair) (same : types ≡ pair) (found : Option PairFault)
    (is : found ≡ option_or (first_import_fault types Left 0 types.left.imports) (first_import_fault types Right 0 types.right.imports)) where
  of_pair : found ≡ option_or (first_import_fault pair Left 0 pair.left.imports) (first_import_fault pair Right 0 pair.right.imports)
  of_pair = is ∙ ap (λ p. option_or (first_import_fault p Left 0 p.left.imports) (first_import_fault p Right 0 p.right.imports)) same

  pub fault_of_import : (fault : PairFault) → found ≡ Some fault → Some fault ≡ first_pair_fault pair
  fault_of_import fault some =
      sym (first_or (first_import_fault pair Left 0 pair.left.imports) (first_import_fault pair Right 0 pair.right.imports) _ fault (sym of_pair ∙ some))

  pub no_fault_of_imports : found ≡ None → (result : Result (Option PairFault) NoMemory)
      → IfOk result (λ fault. fault ≡ joint_of pair) → IfOk result (λ fault. fault ≡ first_pair_fault pair)
  no_fault_of_imports none result given =
      subst (λ o. IfOk result (λ fault. fault ≡ o))
      (sym (later_or (first_import_fault pair Left 0 pair.left.imports) (first_import_fault pair Right 0 pair.right.imports) (joint_of pair)
      (sym of_pair ∙ none)))
      given
