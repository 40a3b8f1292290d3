-- Lists with items written in place of others.
use Rattle.std.proofs.Common.{◌≡◌, ℕ, zero, suc, ◌+◌, ◌≤◌, List, [], ◌∷◌, ◌++◌, length, take, drop, Some, nat_le, refl, sym, ap, ◌∙◌, arith, length-append, length-take-le}
use Rattle.std.proofs.lemmas.Bool.Decides.{nat_tests}
use Rattle.std.proofs.lemmas.List.{append_assoc, length-drop, take-append-drop}
use Rattle.base.proofs.Options.{map_some, cond_some}
use Rattle.history_spec.specs.Store.{Memory, with_bytes_at, with_items_at}
use Rattle.record_replay_spec.specs.TapeRun.{memory_with}

module _ {X : Type 0} where
  pub take_front : (front more : List X) (count : ℕ) → count ≡ length front → take count (front ++ more) ≡ front
  take_front [] more zero e = refl
  take_front [] more (suc count) e = absurd (omega (arith, e))
  take_front (x ∷ front) more zero e = absurd (omega (arith, e))
  take_front (x ∷ front) more (suc count) e = ap (λ l. x ∷ l) (take_front front more count (omega (arith, e)))

  pub drop_front : (front more : List X) (count : ℕ) → count ≡ length front → drop count (front ++ more) ≡ more
  drop_front [] more zero e = refl
  drop_front [] more (suc count) e = absurd (omega (arith, e))
  drop_front (x ∷ front) more zero e = absurd (omega (arith, e))
  drop_front (x ∷ front) more (suc count) e = drop_front front more count (omega (arith, e))

  pub drop_over : (xs : List X) (first second all : ℕ) → all ≡ first + second → drop all xs
      ≡ drop second (drop first xs)
  drop_over xs zero second all e = let same : all ≡ second = omega (arith, e) in ap (λ n. drop n xs) same
  drop_over [] (suc first) zero zero e = refl
  drop_over [] (suc first) zero (suc all) e = refl
  drop_over [] (suc first) (suc second) zero e = refl
  drop_over [] (suc first) (suc second) (suc all) e = refl
  drop_over (x ∷ xs) (suc first) second zero e = absurd (omega (arith, e))
  drop_over (x ∷ xs) (suc first) second (suc all) e = drop_over xs first second all (omega (arith, e))

  pub written_length : (items news : List X) (at : ℕ) → at + length news ≤ length items
      → length (with_items_at items at news) ≡ length items
  written_length items news at within =
      let before : length (take at items) ≡ at = length-take-le at items (omega (arith, within)) in
      let rest = drop (at + length news) items in
      let own : length (with_items_at items at news) ≡ length (take at items) + length (news ++ rest) =
      length-append (take at items) (news ++ rest) in
      let more = length-append news rest in
      let left = length-drop (at + length news) items in
      omega (arith, within, before, own, more, left)

  -- items that are written in two parts, the second part after the first
  pub written_twice : (items first second : List X) (at : ℕ) → at + length first ≤ length items
      → with_items_at (with_items_at items at first) (at + length first) second
      ≡ with_items_at items at (first ++ second)
  written_twice items first second at within =
      let before : length (take at items) ≡ at = length-take-le at items (omega (arith, within)) in
      let front = take at items ++ first in
      let rest = drop (at + length first) items in
      let long : at + length first ≡ length front =
      (let own = length-append (take at items) first in omega (arith, own, before)) in
      let parts : with_items_at items at first ≡ front ++ rest = sym (append_assoc (take at items) first rest) in
      let all = length-append first second in
      ap (λ own. take (at + length first) own ++ (second ++ drop (at + length first + length second) own)) parts
      ∙ ap (λ own. own ++ (second ++ drop (at + length first + length second) (front ++ rest)))
      (take_front front rest (at + length first) long)
      ∙ ap (λ own. front ++ (second ++ own))
      (drop_over (front ++ rest) (at + length first) (length second) (at + length first + length second) refl
      ∙ ap (drop (length second)) (drop_front front rest (at + length first) long)
      ∙ sym (drop_over items (at + length first) (length second) (at + length (first ++ second)) (omega (arith, all))))
      ∙ append_assoc (take at items) first (second ++ drop (at + length (first ++ second)) items)
      ∙ ap (λ own. take at items ++ own)
      (sym (append_assoc first second (drop (at + length (first ++ second)) items)))

  -- no items are written
  pub written_nothing : (items : List X) (at : ℕ) → with_items_at items at [] ≡ items
  written_nothing items at =
      let same : at + 0 ≡ at = omega arith in
      ap (λ n. take at items ++ drop n items) same ∙ take-append-drop at items

-- ---- bytes of a memory

-- a memory with bytes put into it has these bytes, which are within it
pub bytes_placed : (memory larger : Memory) (address : ℕ) (bytes : List ℕ)
    → memory_with address bytes memory ≡ Some larger
    → (address + length bytes ≤ length memory.bytes)
    × (record memory { bytes = with_items_at memory.bytes address bytes } ≡ larger)
bytes_placed memory larger address bytes h =
    let n =
    map_some (λ (all : List ℕ). record memory { bytes = all }) (with_bytes_at memory.bytes address bytes) larger h
    in
    let c =
    cond_some (nat_le (address + length bytes) (length memory.bytes))
    (Some (with_items_at memory.bytes address bytes)) n.0 n.1
    in
    let within : address + length bytes ≤ length memory.bytes = (let t = c.0 in grind (arith, nat_tests, t)) in
    let is : with_items_at memory.bytes address bytes ≡ n.0 = (let q = c.1 in cc) in
    (within, ap (λ all. record memory { bytes = all }) is ∙ n.2)
