-- Counting the bytes of a run that are the known ones, page by page.
use Rattle.std.proofs.Common.{◌≡◌, ℕ, ◌+◌, ◌-◌, ◌*◌, ◌/◌, ◌%◌, ◌≤◌, ◌<◌, ◌⊎◌, ◌==◌, inl, inr, List, length, take, drop, Bool, slice_index, sym, ap, ◌∙◌, subst, arith}
use Rattle.std.proofs.lemmas.Bool.{cases_lt}
use Rattle.std.proofs.lemmas.List.{get_or-drop, get_or-take, length-drop, length-take}
use Rattle.page_arena.specs.declared.TheConstants.{PAGE_LENGTH}
use Rattle.shadow_memory.specs.KnownBytes.{AreBytesOf}
use Rattle.shadow_memory.specs.Runs.{is_alike, is_known, IsLeadingCount}

part_item : (items : List ℕ) (from part k : ℕ) → k < part
    → slice_index (take (from + part - from) (drop from items)) k ≡ slice_index items (from + k)
part_item items from part k below =
    get_or-take (from + part - from) (drop from items) k 0 (omega (arith, below)) ∙ get_or-drop from items k 0

module _ (kept : List ℕ) (address : ℕ) (bytes page : List ℕ) (count part : ℕ)
    (there : AreBytesOf kept ((address + count) / PAGE_LENGTH) page)
    (fits : (address + count) % PAGE_LENGTH + part ≤ PAGE_LENGTH) (left : part ≤ length bytes - count) where
  abbrev offset : ℕ
  offset = (address + count) % PAGE_LENGTH

  -- the known bytes in this page; the bytes of the run in this page
  abbrev known_part : List ℕ
  known_part = take (offset + part - offset) (drop offset page)

  abbrev run_part : List ℕ
  run_part = take (count + part - count) (drop count bytes)

  run_length : length run_part ≡ part
  run_length =
      omega (arith, left, length-take (count + part - count) (drop count bytes), length-drop count bytes)

  same_test : (k : ℕ) → k < part → is_alike known_part run_part k ≡ is_known kept address bytes (count + k)
  same_test k below =
      let place : ((address + count) / PAGE_LENGTH) * PAGE_LENGTH + (offset + k) ≡ address + (count + k) =
      omega arith in
      let known : slice_index known_part k ≡ slice_index kept (address + (count + k)) =
      part_item page offset part k below
      ∙ there.byte (offset + k) (omega (arith, fits, below))
      ∙ ap (slice_index kept) place in
      ap (λ b. b == slice_index run_part k) known
      ∙ ap (λ b. slice_index kept (address + (count + k)) == b) (part_item bytes count part k below)

  abbrev Leads : Bool → ℕ → Type 0
  Leads answer more = IsLeadingCount (is_alike known_part run_part) answer (length run_part) more

  pub counted_within : (answer : Bool) (more : ℕ) → Leads answer more → count ≤ length bytes
      → count + more ≤ length bytes
  counted_within answer more leading within = omega (arith, leading.within, run_length, left, within)

  pub counted_more : (answer : Bool) (more : ℕ) → Leads answer more
      → ((k : ℕ) → k < count → is_known kept address bytes k ≡ answer)
      → (k : ℕ) → k < count + more → is_known kept address bytes k ≡ answer
  counted_more answer more leading before k below = go (cases_lt k count)
    where
      go : (k < count) ⊎ (count ≤ k) → is_known kept address bytes k ≡ answer
      go (inl earlier) = before k earlier
      go (inr later) =
          let e : count + (k - count) ≡ k = omega arith in
          subst (λ k. is_known kept address bytes k ≡ answer) e
          (sym (same_test (k - count) (omega (arith, leading.within, run_length, later, below)))
          ∙ leading.alike (k - count) (omega (arith, later, below)))

  pub counted_last : (answer : Bool) (more : ℕ) → Leads answer more → count ≤ length bytes → more < part
      → ((k : ℕ) → k < count → is_known kept address bytes k ≡ answer)
      → IsLeadingCount (is_known kept address bytes) answer (length bytes) (count + more)
  counted_last answer more leading within fewer before =
      record {
        within = counted_within answer more leading within;
        alike = counted_more answer more leading before;
        ended = λ less. sym (same_test more fewer) ∙ leading.ended (omega (arith, run_length, fewer));
      }
