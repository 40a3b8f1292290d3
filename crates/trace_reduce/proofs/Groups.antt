-- Bytes in groups: what one more group has, sorted groups, and the bytes of all groups by their addresses.
use Rattle.std.proofs.Common.{◌≡◌, ℕ, suc, zero, ◌+◌, ◌-◌, ◌*◌, ◌/◌, ◌%◌, ◌≤◌, ◌<◌, List, [], ◌∷◌, ◌++◌, length, drop, min, take, Option, Some, None, Bool, true, false, cond, nat_eq, nat_lt, slice_get, unwrap_or, refl, sym, ap, ◌∙◌, subst, arith}
use Rattle.std.specs.List.{filter}
use Rattle.std.specs.List.Sorted.{IsNonDecreasingBy, ties}
use Rattle.std.specs.Option.{option_flatten, option_or}
use Rattle.std.specs.Ordering.{is_lt, nat_cmp}
use Rattle.std.proofs.lemmas.Bool.Decides.{nat_tests}
use Rattle.std.proofs.lemmas.Option.{slice_get_past}
use Rattle.std.proofs.lemmas.List.{length-append, length-take, take-append-drop}
use Rattle.base.proofs.Options.{or_none, or_assoc}
pub use Rattle.history_spec.proofs.PlacedBytes.{byte_past as among_past}
use Rattle.history_spec.proofs.PlacedBytes.{byte_below, byte_moved}
use Rattle.record_replay_spec.specs.Known.{byte_among}
use Rattle.trace_reduce.specs.declared.byte_groups.TheConstants.{GROUP}
use Rattle.trace_reduce.specs.ByteGroups.{AreInOrder, TakesFront, both_slots, bytes_of, byte_at, group_byte, merged_from, merged_groups, slot_at, slot_bytes}
use Rattle.trace_reduce.proofs.Bytes.{at_key, Ascend, none_below}

-- ---- bytes among others

-- ---- one group

-- a group has the bytes for the addresses from `at` on
group_has : (slots : List (Option ℕ)) (at : ℕ) (front : List ℕ) → at % GROUP + length front ≤ GROUP
    → ((place : ℕ) → slot_at slots place ≡ byte_among (at % GROUP) front place)
    → (q : ℕ) → group_byte (at / GROUP, slots) q ≡ byte_among at front q
group_has slots at front within has q = go (nat_eq (at / GROUP) (q / GROUP)) refl
  where
    go : (b : Bool) → nat_eq (at / GROUP) (q / GROUP) ≡ b
        → cond b (slot_at slots (q % GROUP)) None ≡ byte_among at front q
    go true same =
        let group : at / GROUP ≡ q / GROUP = grind (arith, nat_tests, same) in
        let from : at ≡ GROUP * (at / GROUP) + at % GROUP = omega arith in
        let place : q ≡ GROUP * (at / GROUP) + q % GROUP = omega (arith, group) in
        has (q % GROUP)
        ∙ sym ((λ i. byte_among (from i) front (place i))
        ∙ byte_moved (GROUP * (at / GROUP)) (at % GROUP) front (q % GROUP))
    go false apart = sym (outside (nat_lt q at) refl)
      where
        outside : (b : Bool) → nat_lt q at ≡ b → byte_among at front q ≡ None
        outside true less = byte_below at front q (grind (arith, nat_tests, less))
        outside false past =
            let after : at ≤ q = grind (arith, nat_tests, past) in
            let other : at / GROUP ≡ q / GROUP → ⊥ = grind (arith, nat_tests, apart) in
            among_past at front q (beyond after other)
          where
            beyond : at ≤ q → (at / GROUP ≡ q / GROUP → ⊥) → at + length front ≤ q
            beyond after other = omega (arith, after, other, within)

-- one more group after the others
group_snoc : (groups : List (ℕ × List (Option ℕ))) (group : ℕ × List (Option ℕ)) (q : ℕ)
    → byte_at (groups ++ group ∷ []) q ≡ option_or (byte_at groups q) (group_byte group q)
group_snoc [] group q = or_none (group_byte group q)
group_snoc (first ∷ groups) group q =
    ap (option_or (group_byte first q)) (group_snoc groups group q)
    ∙ sym (or_assoc (group_byte first q) (byte_at groups q) (group_byte group q))

-- ---- the bytes of all groups

one_on : (start n : ℕ) → start + suc n ≡ start + 1 + n
one_on start n = omega arith

next : (n : ℕ) → n + 1 ≡ suc n
next n = omega arith

lower : {X : Type 0} (low high : ℕ) (entries : List (ℕ × X)) → low ≤ high → Ascend high entries → Ascend low entries
lower low high [] le h = tt
lower low high (entry ∷ entries) le h = (omega (arith, le, h.0), h.1)

slots_ascend : (start : ℕ) (slots : List (Option ℕ)) (rest : List (ℕ × ℕ)) → Ascend (start + length slots) rest
    → Ascend start (slot_bytes start slots ++ rest)
slots_ascend start [] rest h = lower start (start + length {A = Option ℕ} []) rest (omega arith) h
slots_ascend start (None ∷ slots) rest h =
    lower start (start + 1) (slot_bytes (start + 1) slots ++ rest) (omega arith)
    (slots_ascend (start + 1) slots rest (subst (λ n. Ascend n rest) (one_on start (length slots)) h))
slots_ascend start (Some byte ∷ slots) rest h = (
  omega arith,
  subst (λ n. Ascend n (slot_bytes (start + 1) slots ++ rest)) (next start)
      (slots_ascend (start + 1) slots rest (subst (λ n. Ascend n rest) (one_on start (length slots)) h)),
)

few : (slots : List (Option ℕ)) → length (take GROUP slots) ≤ GROUP
few slots = grind (arith, length-take GROUP slots)

pub bytes_ascend : (low : ℕ) (groups : List (ℕ × List (Option ℕ))) → Ascend low groups
    → Ascend (low * GROUP) (bytes_of groups)
bytes_ascend low [] h = tt
bytes_ascend low (group ∷ groups) h =
    lower (low * GROUP) (group.0 * GROUP) (bytes_of (group ∷ groups)) (omega (arith, h.0))
    (slots_ascend (group.0 * GROUP) (take GROUP group.1) (bytes_of groups)
    (lower (group.0 * GROUP + length (take GROUP group.1)) (suc group.0 * GROUP) (bytes_of groups)
    (omega (arith, few group.1)) (bytes_ascend (suc group.0) groups h.1)))

-- the byte that slots have at a place of theirs
slot_there : (start : ℕ) (slots : List (Option ℕ)) (rest : List (ℕ × ℕ)) (place : ℕ)
    → Ascend (start + length slots) rest
    → at_key (slot_bytes start slots ++ rest) (start + place)
    ≡ option_or (slot_at slots place) (at_key rest (start + place))
slot_there start [] rest place h = refl
slot_there start (None ∷ slots) rest zero h =
    let further : Ascend (start + 1 + length slots) rest = subst (λ n. Ascend n rest) (one_on start (length slots)) h in
    none_below (start + 1) (slot_bytes (start + 1) slots ++ rest) (start + 0)
    (slots_ascend (start + 1) slots rest further) (omega arith)
    ∙ sym (none_below (start + suc (length slots)) rest (start + 0) h (omega arith))
slot_there start (Some byte ∷ slots) rest zero h =
    let same : nat_eq start (start + 0) ≡ true = grind (arith, nat_tests) in
    ap (λ b. cond b (Some byte) (at_key (slot_bytes (start + 1) slots ++ rest) (start + 0))) same
slot_there start (None ∷ slots) rest (suc place) h =
    let further : Ascend (start + 1 + length slots) rest = subst (λ n. Ascend n rest) (one_on start (length slots)) h in
    let at : start + suc place ≡ start + 1 + place = one_on start place in
    ap (at_key (slot_bytes (start + 1) slots ++ rest)) at
    ∙ slot_there (start + 1) slots rest place further
    ∙ ap (λ q. option_or (slot_at slots place) (at_key rest q)) (sym at)
slot_there start (Some byte ∷ slots) rest (suc place) h =
    let further : Ascend (start + 1 + length slots) rest = subst (λ n. Ascend n rest) (one_on start (length slots)) h in
    let at : start + suc place ≡ start + 1 + place = one_on start place in
    let apart : nat_eq start (start + suc place) ≡ false = grind (arith, nat_tests) in
    ap (λ b. cond b (Some byte) (at_key (slot_bytes (start + 1) slots ++ rest) (start + suc place))) apart
    ∙ ap (at_key (slot_bytes (start + 1) slots ++ rest)) at
    ∙ slot_there (start + 1) slots rest place further
    ∙ ap (λ q. option_or (slot_at slots place) (at_key rest q)) (sym at)

taken_slot : (slots : List (Option ℕ)) (place : ℕ) → place < GROUP → slot_at (take GROUP slots) place ≡ slot_at slots place
taken_slot slots place less = ap option_flatten (taken GROUP slots place less)
  where
    taken : (n : ℕ) (xs : List (Option ℕ)) (i : ℕ) → i < n → slice_get (take n xs) i ≡ slice_get xs i
    taken zero xs i less = absurd (omega (arith, less))
    taken (suc n) [] i less = refl
    taken (suc n) (x ∷ xs) zero less = refl
    taken (suc n) (x ∷ xs) (suc i) less = taken n xs i (omega (arith, less))

no_slot : (slots : List (Option ℕ)) (place : ℕ) → GROUP ≤ place → slot_at (take GROUP slots) place ≡ None
no_slot slots place past =
    ap option_flatten (slice_get_past (take GROUP slots) place (omega (arith, few slots, past)))

bytes_key : (low : ℕ) (groups : List (ℕ × List (Option ℕ))) (at : ℕ) → Ascend low groups
    → at_key (bytes_of groups) at ≡ slot_at (unwrap_or (at_key groups (at / GROUP)) []) (at % GROUP)
bytes_key low [] at h = refl
bytes_key low (group ∷ groups) at h =
    go (bytes_key (suc group.0) groups at h.1) (nat_lt at (group.0 * GROUP)) refl (nat_eq group.0 (at / GROUP)) refl
  where
    start : ℕ
    start = group.0 * GROUP

    slots : List (Option ℕ)
    slots = take GROUP group.1

    after : Ascend (start + length slots) (bytes_of groups)
    after =
        lower (start + length slots) (suc group.0 * GROUP) (bytes_of groups) (omega (arith, few group.1))
        (bytes_ascend (suc group.0) groups h.1)

    there : start ≤ at → at_key (bytes_of (group ∷ groups)) at
        ≡ option_or (slot_at slots (at - start)) (at_key (bytes_of groups) at)
    there from =
        let e : start + (at - start) ≡ at = omega (arith, from) in
        subst
        (λ q. at_key (bytes_of (group ∷ groups)) q ≡ option_or (slot_at slots (at - start)) (at_key (bytes_of groups) q))
        e (slot_there start slots (bytes_of groups) (at - start) after)

    go : at_key (bytes_of groups) at ≡ slot_at (unwrap_or (at_key groups (at / GROUP)) []) (at % GROUP)
        → (b : Bool) → nat_lt at (group.0 * GROUP) ≡ b → (c : Bool) → nat_eq group.0 (at / GROUP) ≡ c
        → at_key (bytes_of (group ∷ groups)) at
        ≡ slot_at (unwrap_or (cond (nat_eq group.0 (at / GROUP)) (Some group.1) (at_key groups (at / GROUP))) [])
        (at % GROUP)
    go later true less true same = absurd (grind (arith, nat_tests, less, same))
    go later true less false apart =
        let under : at < start = grind (arith, nat_tests, less) in
        none_below start (bytes_of (group ∷ groups)) at (slots_ascend start slots (bytes_of groups) after) under
        ∙ sym (none_below (start + length slots) (bytes_of groups) at after (omega (arith, under)))
        ∙ later
        ∙ sym (ap (λ b. slot_at (unwrap_or (cond b (Some group.1) (at_key groups (at / GROUP))) []) (at % GROUP)) apart)
    go later false from true same =
        let number : group.0 ≡ at / GROUP = grind (arith, nat_tests, same) in
        let low : start ≤ at = grind (arith, nat_tests, from) in
        let place : at - start ≡ at % GROUP = omega (arith, number) in
        let small : at % GROUP < GROUP = omega arith in
        let none : at_key groups (at / GROUP) ≡ None =
        none_below (suc group.0) groups (at / GROUP) h.1 (omega (arith, number)) in
        there low
        ∙ ap (option_or (slot_at slots (at - start))) (later ∙ ap (λ o. slot_at (unwrap_or o []) (at % GROUP)) none)
        ∙ or_none (slot_at slots (at - start))
        ∙ ap (slot_at slots) place
        ∙ taken_slot group.1 (at % GROUP) small
        ∙ sym (ap (λ b. slot_at (unwrap_or (cond b (Some group.1) (at_key groups (at / GROUP))) []) (at % GROUP)) same)
    go later false from false apart =
        let low : start ≤ at = grind (arith, nat_tests, from) in
        let other : group.0 ≡ at / GROUP → ⊥ = grind (arith, nat_tests, apart) in
        let past : GROUP ≤ at - start = omega (arith, low, other) in
        there low
        ∙ ap (λ o. option_or o (at_key (bytes_of groups) at)) (no_slot group.1 (at - start) past)
        ∙ later
        ∙ sym (ap (λ b. slot_at (unwrap_or (cond b (Some group.1) (at_key groups (at / GROUP))) []) (at % GROUP)) apart)

-- ---- sorted groups

-- the byte at an address of two merged groups
both_bytes : (first second : ℕ × List (Option ℕ)) (at : ℕ) → first.0 ≡ second.0
    → group_byte (first.0, both_slots first.1 second.1) at
    ≡ option_or (group_byte first at) (group_byte second at)
both_bytes first second at same =
    go (nat_eq first.0 (at / GROUP))
    ∙ ap (λ n. option_or (group_byte first at) (group_byte (n, second.1) at)) same
  where
    here : (place : ℕ) → place < GROUP
        → slot_at (both_slots first.1 second.1) place ≡ option_or (slot_at first.1 place) (slot_at second.1 place)
    here zero less = refl
    here (suc zero) less = refl
    here (suc (suc zero)) less = refl
    here (suc (suc (suc zero))) less = refl
    here (suc (suc (suc (suc place)))) less = absurd (omega (arith, less))

    go : (b : Bool) → cond b (slot_at (both_slots first.1 second.1) (at % GROUP)) None
        ≡ option_or (cond b (slot_at first.1 (at % GROUP)) None) (cond b (slot_at second.1 (at % GROUP)) None)
    go true = here (at % GROUP) (omega arith)
    go false = refl

none_under : (low : ℕ) (groups : List (ℕ × List (Option ℕ))) (at : ℕ) → AreInOrder low groups → at / GROUP < low
    → byte_at groups at ≡ None
none_under low [] at h less = refl
none_under low (group ∷ groups) at h less =
    let apart : nat_eq group.0 (at / GROUP) ≡ false = grind (arith, nat_tests, h.0, less) in
    ap (λ b. option_or (cond b (slot_at group.1 (at % GROUP)) None) (byte_at groups at)) apart
    ∙ none_under group.0 groups at h.1 (omega (arith, h.0, less))

merged_from_ascend : (low : ℕ) (group : ℕ × List (Option ℕ)) (groups : List (ℕ × List (Option ℕ))) → low ≤ group.0
    → AreInOrder group.0 groups → Ascend low (merged_from group groups)
merged_from_ascend low group [] from h = (from, tt)
merged_from_ascend low group (next ∷ later) from h =
    go (nat_eq group.0 next.0) refl
    (λ o. merged_from_ascend low (group.0, both_slots group.1 next.1) later from o)
    (λ past. merged_from_ascend (suc group.0) next later past h.1)
  where
    go : (b : Bool) → nat_eq group.0 next.0 ≡ b
        → (AreInOrder group.0 later → Ascend low (merged_from (group.0, both_slots group.1 next.1) later))
        → (group.0 < next.0 → Ascend (suc group.0) (merged_from next later))
        → Ascend low (cond b (merged_from (group.0, both_slots group.1 next.1) later) (group ∷ merged_from next later))
    go true same together apart =
        let number : next.0 ≡ group.0 = grind (arith, nat_tests, same) in
        together (subst (λ n. AreInOrder n later) number h.1)
    go false other together apart =
        let more : group.0 < next.0 = grind (arith, nat_tests, other, h.0) in
        (from, apart more)

merged_from_bytes : (group : ℕ × List (Option ℕ)) (groups : List (ℕ × List (Option ℕ))) (at : ℕ) → AreInOrder group.0 groups
    → slot_at (unwrap_or (at_key (merged_from group groups) (at / GROUP)) []) (at % GROUP)
    ≡ option_or (group_byte group at) (byte_at groups at)
merged_from_bytes group [] at h = go (nat_eq group.0 (at / GROUP))
  where
    go : (b : Bool) → slot_at (unwrap_or (cond b (Some group.1) None) []) (at % GROUP)
        ≡ option_or (cond b (slot_at group.1 (at % GROUP)) None) None
    go true = sym (or_none (slot_at group.1 (at % GROUP)))
    go false = refl
merged_from_bytes group (next ∷ later) at h =
    go (nat_eq group.0 next.0) refl (nat_eq group.0 (at / GROUP)) refl
    (λ o. merged_from_bytes (group.0, both_slots group.1 next.1) later at o) (merged_from_bytes next later at h.1)
  where
    rest : Option ℕ
    rest = byte_at (next ∷ later) at

    go : (b : Bool) → nat_eq group.0 next.0 ≡ b → (c : Bool) → nat_eq group.0 (at / GROUP) ≡ c
        → (AreInOrder group.0 later
        → slot_at (unwrap_or (at_key (merged_from (group.0, both_slots group.1 next.1) later) (at / GROUP)) []) (at % GROUP)
        ≡ option_or (group_byte (group.0, both_slots group.1 next.1) at) (byte_at later at))
        → slot_at (unwrap_or (at_key (merged_from next later) (at / GROUP)) []) (at % GROUP) ≡ rest
        → slot_at
        (unwrap_or
        (at_key (cond b (merged_from (group.0, both_slots group.1 next.1) later) (group ∷ merged_from next later)) (at / GROUP))
        [])
        (at % GROUP)
        ≡ option_or (group_byte group at) rest
    go true same c key together apart =
        let number : next.0 ≡ group.0 = grind (arith, nat_tests, same) in
        together (subst (λ n. AreInOrder n later) number h.1)
        ∙ ap (λ o. option_or o (byte_at later at)) (both_bytes group next at (sym number))
        ∙ or_assoc (group_byte group at) (group_byte next at) (byte_at later at)
    go false other true key together apart =
        let under : at / GROUP < next.0 = grind (arith, nat_tests, other, key, h.0) in
        let ordered : AreInOrder next.0 (next ∷ later) = (omega arith, h.1) in
        ap (λ c. slot_at (unwrap_or (cond c (Some group.1) (at_key (merged_from next later) (at / GROUP))) []) (at % GROUP)) key
        ∙ sym (ap (option_or (group_byte group at)) (none_under next.0 (next ∷ later) at ordered under)
        ∙ or_none (group_byte group at)
        ∙ ap (λ c. cond c (slot_at group.1 (at % GROUP)) None) key)
    go false other false key together apart =
        ap (λ c. slot_at (unwrap_or (cond c (Some group.1) (at_key (merged_from next later) (at / GROUP))) []) (at % GROUP)) key
        ∙ apart
        ∙ sym (ap (λ c. option_or (cond c (slot_at group.1 (at % GROUP)) None) rest) key)

pub merged_groups_ascend : (groups : List (ℕ × List (Option ℕ))) → AreInOrder 0 groups → Ascend 0 (merged_groups groups)
merged_groups_ascend [] h = tt
merged_groups_ascend (group ∷ groups) h = merged_from_ascend 0 group groups h.0 h.1

-- the bytes of sorted groups, by their addresses
pub byte_looked_up : (groups : List (ℕ × List (Option ℕ))) (at : ℕ) → AreInOrder 0 groups
    → at_key (bytes_of (merged_groups groups)) at ≡ byte_at groups at
byte_looked_up groups at h = bytes_key 0 (merged_groups groups) at (merged_groups_ascend groups h) ∙ all groups h
  where
    all : (groups : List (ℕ × List (Option ℕ))) → AreInOrder 0 groups
        → slot_at (unwrap_or (at_key (merged_groups groups) (at / GROUP)) []) (at % GROUP) ≡ byte_at groups at
    all [] h = refl
    all (group ∷ groups) h = merged_from_bytes group groups at h.1

-- ---- groups, sorted

in_order : (group : ℕ × List (Option ℕ)) (groups : List (ℕ × List (Option ℕ)))
    → IsNonDecreasingBy (λ g. g.0) (group ∷ groups) → AreInOrder group.0 groups
in_order group [] h = tt
in_order group (next ∷ later) h = (
  h 0 1 group (omega arith) (omega arith),
  in_order next later (λ i j d up within. h (suc i) (suc j) d (omega (arith, up)) (omega (arith, within))),
)

pub all_in_order : (groups : List (ℕ × List (Option ℕ))) → IsNonDecreasingBy (λ g. g.0) groups → AreInOrder 0 groups
all_in_order [] h = tt
all_in_order (group ∷ groups) h = (omega arith, in_order group groups h)

abbrev number_below : (group other : ℕ × List (Option ℕ)) → Bool
number_below group other = is_lt (nat_cmp group.0 other.0)

-- groups of other numbers have no byte at an address
of_number : (groups : List (ℕ × List (Option ℕ))) (at : ℕ)
    → byte_at (filter (ties number_below (at / GROUP, [])) groups) at ≡ byte_at groups at
of_number [] at = refl
of_number (group ∷ groups) at = go (of_number groups at) (nat_eq group.0 (at / GROUP)) refl
  where
    tied : ties number_below (at / GROUP, []) group ≡ nat_eq group.0 (at / GROUP)
    tied = grind (arith, nat_tests)

    go : byte_at (filter (ties number_below (at / GROUP, [])) groups) at ≡ byte_at groups at
        → (b : Bool) → nat_eq group.0 (at / GROUP) ≡ b
        → byte_at (filter (ties number_below (at / GROUP, [])) (group ∷ groups)) at ≡ byte_at (group ∷ groups) at
    go later true same =
        ap
        (λ b. byte_at
        (cond b (group ∷ filter (ties number_below (at / GROUP, [])) groups)
        (filter (ties number_below (at / GROUP, [])) groups)) at)
        (tied ∙ same)
        ∙ ap (option_or (group_byte group at)) later
    go later false apart =
        ap
        (λ b. byte_at
        (cond b (group ∷ filter (ties number_below (at / GROUP, [])) groups)
        (filter (ties number_below (at / GROUP, [])) groups)) at)
        (tied ∙ apart)
        ∙ later
        ∙ sym (ap (λ b. option_or (cond b (slot_at group.1 (at % GROUP)) None) (byte_at groups at)) apart)

-- a stable sort leaves the byte at each address
pub same_bytes : (old new : List (ℕ × List (Option ℕ)))
    → ((group : ℕ × List (Option ℕ)) → filter (ties number_below group) new ≡ filter (ties number_below group) old)
    → (at : ℕ) → byte_at new at ≡ byte_at old at
same_bytes old new stable at =
    sym (of_number new at) ∙ ap (λ groups. byte_at groups at) (stable (at / GROUP, [])) ∙ of_number old at

-- ---- all of some bytes

pub front_is : (old new : List (ℕ × List (Option ℕ))) (slots : List (Option ℕ)) (at number from count : ℕ)
    (bytes front later : List ℕ)
    → number ≡ at / GROUP → from ≡ at % GROUP → count ≡ min (length bytes) (GROUP - from) → front ≡ take count bytes
    → later ≡ drop count bytes → length front ≡ count
    → ((place : ℕ) → slot_at slots place ≡ byte_among from front place)
    → new ≡ old ++ (number, slots) ∷ []
    → TakesFront old at bytes new later
front_is old new slots at number from count bytes front later group place many first rest long has more =
    record {
      front = front;
      parts = whole;
      fewer = λ some. fewer_left some (ap length whole ∙ length-append front later);
      byte =
          λ q. ap (λ groups. byte_at groups q) more
          ∙ group_snoc old (number, slots) q
          ∙ ap (option_or (byte_at old q))
          (ap (λ n. group_byte (n, slots) q) group
          ∙ group_has slots at front (subst (λ n. n + length front ≤ GROUP) place fits)
          (λ p. subst (λ n. slot_at slots p ≡ byte_among n front p) place (has p)) q);
    }
  where
    whole : bytes ≡ front ++ later
    whole = sym ((λ i. first i ++ rest i) ∙ take-append-drop count bytes)

    small : from < GROUP
    small = omega (arith, place)

    fits : from + length front ≤ GROUP
    fits = grind (arith, small, many, long)

    fewer_left : 0 < length bytes → length bytes ≡ length front + length later → length later < length bytes
    fewer_left some parts = grind (arith, some, parts, small, many, long)
