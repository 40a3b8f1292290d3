-- The calls of an import in groups.
use Rattle.std.proofs.Common.{◌≡◌, ℕ, zero, suc, ◌+◌, ◌*◌, ◌/◌, ◌%◌, ◌<◌, List, [], ◌∷◌, ◌++◌, length, take, drop, Some, None, slice_get, refl, sym, ap, ◌∙◌, arith, option_map}
use Rattle.std.specs.List.{range_with_len}
use Rattle.std.proofs.lemmas.List.FromFn.{length-range_with_len, get_or-range_with_len}
use Rattle.std.proofs.lemmas.Option.{get_or_from_slice_get, slice_get-map}
use Rattle.base.proofs.Lists.{item_there}
use Rattle.wasm_syntax.specs.declared.instructions.Instr.{Instr}
use Rattle.wasm_syntax.specs.declared.modules.Module.{Module}
use Rattle.trace_model.specs.declared.tapes.Next.{Next}
use Rattle.trace_model.specs.declared.tapes.Next.TheVariants.{Call, Return, End, Trap}
use Rattle.trace_model.specs.declared.tapes.Segment.{Segment}
use Rattle.replay_module_spec.specs.declared.groups.TheConstants.{GROUP_CALLS}
use Rattle.replay_module_spec.specs.Segments.{effects_code, next_code, segments_code}
use Rattle.replay_module_spec.specs.Functions.{group_count, groups}

-- ---- lists

-- a number in a range
pub range_there : (first count i : ℕ) → i < count → slice_get (range_with_len first count) i ≡ Some (first + i)
range_there first count i below =
    let long = length-range_with_len first count in
    let there = item_there (range_with_len first count) i (omega (arith, long, below)) in
    let is : there.0 ≡ first + i =
    sym (get_or_from_slice_get (range_with_len first count) i there.0 0 there.1)
    ∙ get_or-range_with_len first count i 0 below
    in
    there.1 ∙ ap (λ n. Some n) is

pub get_taken : {X : Type 0} (xs : List X) (count i : ℕ) → i < count → slice_get (take count xs) i ≡ slice_get xs i
get_taken xs zero i below = absurd (omega (arith, below))
get_taken [] (suc count) i below = refl
get_taken (x ∷ xs) (suc count) zero below = refl
get_taken (x ∷ xs) (suc count) (suc i) below = get_taken xs count i (omega (arith, below))

pub get_dropped : {X : Type 0} (xs : List X) (count i j : ℕ) → j ≡ count + i
    → slice_get (drop count xs) i ≡ slice_get xs j
get_dropped xs zero i j e = let same : i ≡ j = omega (arith, e) in ap (slice_get xs) same
get_dropped [] (suc count) i j e = refl
get_dropped (x ∷ xs) (suc count) i zero e = absurd (omega (arith, e))
get_dropped (x ∷ xs) (suc count) i (suc j) e = get_dropped xs count i j (omega (arith, e))

-- ---- groups

module _ (calls : List (List Segment)) (call : ℕ) (below : call < length calls) where
  -- the group that holds a call
  abbrev pub group_at : List (List Segment)
  group_at = take GROUP_CALLS (drop (GROUP_CALLS * (call / GROUP_CALLS)) calls)

  pub group_within : call / GROUP_CALLS < group_count (length calls)
  group_within = omega (arith, below)

  pub group_there : slice_get (groups calls) (call / GROUP_CALLS) ≡ Some group_at
  group_there =
      let cut = λ (number : ℕ). take GROUP_CALLS (drop (GROUP_CALLS * number) calls) in
      let sum : 0 + call / GROUP_CALLS ≡ call / GROUP_CALLS = omega arith in
      slice_get-map cut (range_with_len 0 (group_count (length calls))) (call / GROUP_CALLS)
      ∙ ap (option_map cut) (range_there 0 (group_count (length calls)) (call / GROUP_CALLS) group_within)
      ∙ ap (λ n. Some (cut n)) sum

  -- a call is in its group
  pub call_there : slice_get group_at (call % GROUP_CALLS) ≡ slice_get calls call
  call_there =
      let within : call % 256 < 256 = omega arith in
      let parts : call ≡ 256 * (call / 256) + call % 256 = omega arith in
      get_taken (drop (GROUP_CALLS * (call / GROUP_CALLS)) calls) GROUP_CALLS (call % GROUP_CALLS) within
      ∙ get_dropped calls (GROUP_CALLS * (call / GROUP_CALLS)) (call % GROUP_CALLS) call parts

-- ---- code that is not empty

module _ (m : Module) where
  pub record IsCode (code : List Instr) : Type 0 where
    pub first : Instr
    pub more : List Instr
    pub is : code ≡ first ∷ more

  after_any : (code more : List Instr) → IsCode more → IsCode (code ++ more)
  after_any [] more r = r
  after_any (i ∷ code) more r = record { first = i; more = code ++ more; is = refl }

  pub next_some : (next : Next) (after : List Instr) → IsCode (next_code m next after)
  next_some (Call func []) after = record { first = _; more = _; is = refl }
  next_some (Call func (value ∷ args)) after = record { first = _; more = _; is = refl }
  next_some (Return None) after = record { first = _; more = _; is = refl }
  next_some (Return (Some value)) after = record { first = _; more = _; is = refl }
  next_some End after = record { first = _; more = _; is = refl }
  next_some Trap after = record { first = _; more = _; is = refl }

  pub segments_some : (segments : List Segment) → IsCode (segments_code m segments)
  segments_some [] = record { first = _; more = _; is = refl }
  segments_some (segment ∷ later) =
      after_any (effects_code segment.effects) (next_code m segment.next (segments_code m later))
      (next_some segment.next (segments_code m later))
