-- The memories of two stores: what is read of them, what is written, and how they grow.
use Rattle.std.proofs.Common.{◌≡◌, ℕ, ◌+◌, ◌-◌, ◌*◌, ◌/◌, ◌<◌, ◌≤◌, List, [], ◌∷◌, ◌++◌, length, take, drop, Option, Some, None, true, cond, nat_le, slice_get, slice_index, refl, sym, ap, ◌∙◌, subst, arith, append-nil, length-append, length-take-le, leb-true}
use Rattle.std.specs.Prelude.{IfSome, option_map}
use Rattle.std.proofs.Math.Nat.{add-mul-div_right, sub_self}
use Rattle.std.proofs.lemmas.List.{length-replicate, length-drop, length-take, get_or-take, get_or-drop}
use Rattle.std.proofs.lemmas.Grind.{same_number_lists}
use Rattle.std.proofs.lemmas.Bool.Decides.{nat_tests}
use Rattle.std.proofs.lemmas.Option.{slice_get-get_or, slice_get_within, get_or_from_slice_get}
use Rattle.base.proofs.Options.{cond_some}
use Rattle.wasm_syntax.specs.declared.limits.TheConstants.{PAGE_SIZE}
use Rattle.history_spec.specs.Store.{Store, Memory, pages, with_memory, zeros}
use Rattle.record_replay_spec.specs.Observations.{Writes, Resizes}
use Rattle.record_replay_spec.specs.Known.{byte_among, byte_of}
use Rattle.record_replay_spec.specs.StoreAnswers.{HoldsBytes}
use Rattle.record_replay_spec.specs.Changes.{with_bytes, with_pages, IsChangedAs}

-- ---- reads

-- the bytes of a range, if it is within the memory
abbrev pub range : List ℕ → (address count : ℕ) → List ℕ
range bytes address count = take count (drop address bytes)

pub range_length : (bytes : List ℕ) (address count : ℕ) → nat_le (address + count) (length bytes) ≡ true
    → length (range bytes address count) ≡ count
range_length bytes address count within =
    let fits : address + count ≤ length bytes = leb-true (address + count) (length bytes) within in
    let left = length-drop address bytes in
    length-take-le count (drop address bytes) (omega (arith, fits, left))

-- a byte of a run, by its place
among : (address : ℕ) (bytes : List ℕ) (place : ℕ) → place < length bytes
    → byte_among address bytes (address + place) ≡ Some (slice_index bytes place)
among address bytes place below =
    let not_before : nat_le address (address + place) ≡ true = grind (arith, nat_tests) in
    let same : address + place - address ≡ place = omega arith in
    ap (λ b. cond b (slice_get bytes (address + place - address)) None) not_before
    ∙ ap (slice_get bytes) same ∙ slice_get-get_or bytes place 0 below

byte_of_range : (bytes : List ℕ) (address count place : ℕ) → place < count
    → slice_index (range bytes address count) place ≡ slice_index bytes (address + place)
byte_of_range bytes address count place below =
    get_or-take count (drop address bytes) place 0 below ∙ get_or-drop address bytes place 0

-- a store that answers a read of another store has the bytes that were read
pub same_range : (store : Store) (memory : Memory) → store.memory ≡ Some memory → (address count : ℕ) (found : List ℕ)
    → length found ≡ count → nat_le (address + count) (length memory.bytes) ≡ true
    → HoldsBytes store address found → range memory.bytes address count ≡ found
same_range store memory is address count found long within holds =
    same_number_lists (range memory.bytes address count) found size each
  where
    size : length (range memory.bytes address count) ≡ length found
    size = range_length memory.bytes address count within ∙ sym long

    each : (place : ℕ) → place < length (range memory.bytes address count)
        → slice_index (range memory.bytes address count) place ≡ slice_index found place
    each place below =
        let inside : place < length found = omega (arith, below, size) in
        byte_of_range memory.bytes address count place (omega (arith, inside, long))
        ∙ subst (λ o. byte_of o (address + place) ≡ slice_index found place) is
        (holds (address + place) (slice_index found place) (among address found place inside))

-- a store holds what is read of it
pub own_range : (store : Store) (memory : Memory) → store.memory ≡ Some memory → (address count : ℕ)
    → HoldsBytes store address (range memory.bytes address count)
own_range store memory is address count at byte h =
    let there = cond_some (nat_le address at) (slice_get bytes (at - address)) byte h in
    let not_before : address ≤ at = leb-true address at there.0 in
    let place : ℕ = at - address in
    let below : place < length bytes = slice_get_within bytes place byte there.1 in
    let long = length-take count (drop address memory.bytes) in
    let short : length bytes ≤ count = omega (arith, long) in
    let same : address + place ≡ at = omega (arith, not_before) in
    subst (λ o. byte_of o at ≡ byte) (sym is)
    (ap (slice_index memory.bytes) (sym same)
    ∙ sym (byte_of_range memory.bytes address count place (omega (arith, below, short)))
    ∙ get_or_from_slice_get bytes place byte 0 there.1)
  where
    bytes : List ℕ
    bytes = range memory.bytes address count

-- ---- writes

pub written_memory : (store : Store) (memory : Memory) → store.memory ≡ Some memory → (address : ℕ) (bytes : List ℕ)
    → nat_le (address + length bytes) (length memory.bytes) ≡ true
    → IsChangedAs store (Writes address bytes ∷ []) (with_memory store (with_bytes address bytes memory))
written_memory store memory is address bytes within =
    record {
      possible = (
        subst (λ o. IfSome o (λ (m : Memory). address + length bytes ≤ length m.bytes)) (sym is)
            (leb-true (address + length bytes) (length memory.bytes) within),
        tt,
      );
      changed = ap (λ o. record store { memory = option_map (with_bytes address bytes) o }) (sym is);
    }

-- ---- sizes

none_more : (n : ℕ) (memory : Memory) → with_pages (n - n) memory ≡ memory
none_more n memory =
    ap (λ k. with_pages k memory) (sub_self n) ∙ ap (λ bytes. record memory { bytes = bytes }) (append-nil memory.bytes)

pub same_size : (n : ℕ) (store : Store) → IsChangedAs store (Resizes n n ∷ []) store
same_size n store = record { possible = (omega arith, tt); changed = go store.memory }
  where
    go : (o : Option Memory) → record store { memory = o } ≡ record store { memory = option_map (with_pages (n - n)) o }
    go None = refl
    go (Some memory) = ap (λ m. record store { memory = Some m }) (sym (none_more n memory))

pub larger_size : (memory : Memory) (by : ℕ) → pages (with_pages by memory) ≡ pages memory + by
larger_size memory by =
    let long : length (memory.bytes ++ zeros (by * PAGE_SIZE)) ≡ length memory.bytes + by * PAGE_SIZE =
    length-append memory.bytes (zeros (by * PAGE_SIZE))
    ∙ ap (λ n. length memory.bytes + n) (length-replicate (by * PAGE_SIZE) 0) in
    ap (λ n. n / PAGE_SIZE) long ∙ add-mul-div_right (length memory.bytes) by (omega arith)

pub grown_size : (store : Store) (memory : Memory) → store.memory ≡ Some memory → (found : Memory) (by : ℕ)
    → IsChangedAs store (Resizes (pages found) (pages (with_pages by found)) ∷ [])
    (with_memory store (with_pages by memory))
grown_size store memory is found by =
    let size = larger_size found by in
    let more : pages (with_pages by found) - pages found ≡ by = omega (arith, size) in
    record {
      possible = (omega (arith, size), tt);
      changed =
          ap (λ o. record store { memory = option_map (with_pages by) o }) (sym is)
          ∙ ap (λ k. record store { memory = option_map (with_pages k) store.memory }) (sym more);
    }
