-- Bytes that are kept in pages: what a write to a page, and a new page, do to them.
use Rattle.std.proofs.Common.{◌≡◌, ℕ, ◌+◌, ◌-◌, ◌*◌, ◌/◌, ◌%◌, ◌≤◌, ◌<◌, ◌⊎◌, List, [], ◌++◌, length, take, drop, Option, Some, None, true, slice_index, refl, sym, ap, ◌∙◌, subst, arith, inl, inr, length-append, length-drop, length-take-le, length-set, get_or-set_same, get_or-set_other}
use Rattle.std.specs.Prelude.{is_some, slice_set, unwrap_or}
use Rattle.std.proofs.lemmas.Bool.{cases_eq, cases_order}
use Rattle.std.proofs.lemmas.List.{drop-drop, get_or-replicate, length-replicate}
use Rattle.base.proofs.Lists.{mapped_item}
use Rattle.history_spec.proofs.PlacedBytes.{byte_moved}
use Rattle.page_arena.specs.declared.TheConstants.{PAGE_LENGTH}
use Rattle.page_arena.specs.declared.PageId.{PageId}
use Rattle.page_arena.specs.Pages.{page_at}
use Rattle.shadow_memory.specs.Shadow.{byte_among, AreSame, AreWritten, IsBlock}
use Rattle.shadow_memory.specs.KnownBytes.{AreExtended, AreKept, AreBytesOf, bytes_of_place, bytes_of_places, is_touched, kept_of, page_of}
use Rattle.shadow_memory.proofs.Flat.{flat_item}
use Rattle.shadow_memory.proofs.WrittenBytes.{among_below, among_past, replaced_part}

module _ (places : List (Option PageId)) (pages : List (List ℕ))
    (whole : (number : ℕ) → number < length pages → length (page_at pages number) ≡ PAGE_LENGTH)
    (there : (place : ℕ) (id : PageId) → page_of places place ≡ Some id → id.number < length pages) where
  whole_place : (place : ℕ) → length (bytes_of_place pages (page_of places place)) ≡ PAGE_LENGTH
  whole_place place = go (page_of places place) refl
    where
      go : (id : Option PageId) → page_of places place ≡ id → length (bytes_of_place pages id) ≡ PAGE_LENGTH
      go None is = length-replicate {A = ℕ} PAGE_LENGTH 0
      go (Some id) is = whole id.number (there place id is)

  pub kept_byte : (place k : ℕ) → k < PAGE_LENGTH
      → slice_index (bytes_of_places pages places) (place * PAGE_LENGTH + k)
      ≡ slice_index (bytes_of_place pages (page_of places place)) k
  kept_byte place k below =
      flat_item (bytes_of_place pages) PAGE_LENGTH None places place k (λ j h. whole_place j)
      (get_or-replicate PAGE_LENGTH k 0 0 below) below

  -- the page of a place, or zeros without a page, has the bytes of the place
  pub bytes_there : (place : ℕ) → AreBytesOf (bytes_of_places pages places) place (bytes_of_place pages (page_of places place))
  bytes_there place = record { size = whole_place place; byte = λ k below. sym (kept_byte place k below) }

  pub bytes_are : (place : ℕ) (id : Option PageId) (bytes : List ℕ) → id ≡ page_of places place
      → bytes ≡ bytes_of_place pages id → AreBytesOf (bytes_of_places pages places) place bytes
  bytes_are place id bytes is here =
      subst (AreBytesOf (bytes_of_places pages places) place) (sym (here ∙ ap (bytes_of_place pages) is)) (bytes_there place)

  -- the page of a place is a block of its bytes; without a page, no bytes are
  pub block_is : (place : ℕ) (id : PageId) (bytes : List ℕ) → Some id ≡ page_of places place
      → bytes ≡ page_at pages id.number → IsBlock (bytes_of_places pages places) place bytes
  block_is place id bytes is here =
      let are = bytes_are place (Some id) bytes is here in record { size = inr are.size; byte = are.byte }

  pub no_block : (place : ℕ) → None ≡ page_of places place → IsBlock (bytes_of_places pages places) place []
  no_block place is =
      record {
        size = inl refl;
        byte = λ k below.
            sym
            (kept_byte place k below
            ∙ ap (λ o. slice_index (bytes_of_place pages o) k) (sym is)
            ∙ get_or-replicate PAGE_LENGTH k 0 0 below);
      }

pub touched_is : (places frozen : List (Option PageId)) (pages : List (List ℕ)) (place : ℕ)
    → is_touched (kept_of places frozen pages) place ≡ is_some (page_of places place)
touched_is places frozen pages place = mapped_item is_some places place None

-- ---- a write to a page

-- a list after a part of it was lent and written
abbrev pub with_part : (items : List ℕ) (from : ℕ) (bytes news : List ℕ) → List ℕ
with_part items from bytes news =
    take from items ++ (news ++ drop (from + length bytes - from) (drop from items))

pub part_length : (items : List ℕ) (from : ℕ) (bytes news : List ℕ) → from + length bytes ≤ length items
    → news ≡ bytes → length (with_part items from bytes news) ≡ length items
part_length items from bytes news fits is =
    let rest = drop (from + length bytes - from) (drop from items) in
    omega (
      arith,
      fits,
      ap length is,
      length-append (take from items) (news ++ rest),
      length-append news rest,
      length-drop (from + length bytes - from) (drop from items),
      length-drop from items,
      length-take-le from items (omega arith),
    )

pub written_part : (items : List ℕ) (from : ℕ) (bytes news : List ℕ) → from + length bytes ≤ length items
    → news ≡ bytes → AreWritten items from bytes (with_part items from bytes news)
written_part items from bytes news fits is at =
    let e : from + (from + length bytes - from) ≡ from + length bytes = omega arith in
    let rest : drop (from + length bytes - from) (drop from items) ≡ drop (from + length bytes) items =
    drop-drop (from + length bytes - from) from items ∙ ap (λ n. drop n items) e in
    ap (λ part. slice_index (take from items ++ (part ++ drop (from + length bytes - from) (drop from items))) at) is
    ∙ ap (λ part. slice_index (take from items ++ (bytes ++ part)) at) rest
    ∙ replaced_part items from bytes fits at

module _ (places : List (Option PageId)) (pages : List (List ℕ)) (kept : AreKept places pages) (id : PageId)
    (page : List ℕ) (size : length page ≡ PAGE_LENGTH) (there : id.number < length pages) where
  abbrev written_pages : List (List ℕ)
  written_pages = slice_set pages id.number page

  pub written_kept : AreKept places written_pages
  written_kept =
      record {
        whole = λ number below. go number (cases_eq number id.number)
            (omega (arith, below, length-set pages id.number page));
        there = λ place other is. omega (arith, kept.there place other is, length-set pages id.number page);
        apart = kept.apart;
      }
    where
      go : (number : ℕ) → (number ≡ id.number) ⊎ (number ≡ id.number → ⊥) → number < length pages
          → length (page_at written_pages number) ≡ PAGE_LENGTH
      go number (inl same) below =
          ap (λ n. length (page_at written_pages n)) same
          ∙ (ap length (get_or-set_same pages id.number page [] there) ∙ size)
      go number (inr other) below =
          ap length (get_or-set_other pages id.number number page [] other) ∙ kept.whole number below

  -- a byte by its place and its offset
  pub written_byte : (place from : ℕ) (bytes : List ℕ) → page_of places place ≡ Some id
      → AreWritten (page_at pages id.number) from bytes page → from + length bytes ≤ PAGE_LENGTH
      → (other k : ℕ) → k < PAGE_LENGTH
      → slice_index (bytes_of_place written_pages (page_of places other)) k
      ≡ unwrap_or (byte_among (place * PAGE_LENGTH + from) bytes (other * PAGE_LENGTH + k))
      (slice_index (bytes_of_place pages (page_of places other)) k)
  written_byte place from bytes is written fits other k below = go (cases_eq other place)
    where
      or_old : Option ℕ → ℕ
      or_old o = unwrap_or o (slice_index (bytes_of_place pages (page_of places other)) k)

      -- what is written at this offset of a place
      written_at : ℕ → Option ℕ
      written_at n = byte_among (place * PAGE_LENGTH + from) bytes (n * PAGE_LENGTH + k)

      outside : (other ≡ place → ⊥) → byte_among (place * PAGE_LENGTH + from) bytes (other * PAGE_LENGTH + k) ≡ None
      outside apart = from_order (cases_order other place)
        where
          from_order : (other ≡ place) ⊎ ((other < place) ⊎ (place < other))
              → byte_among (place * PAGE_LENGTH + from) bytes (other * PAGE_LENGTH + k) ≡ None
          from_order (inl same) = absurd (apart same)
          from_order (inr (inl less)) =
              among_below (place * PAGE_LENGTH + from) bytes (other * PAGE_LENGTH + k) (omega arith)
          from_order (inr (inr more)) =
              among_past (place * PAGE_LENGTH + from) bytes (other * PAGE_LENGTH + k) (omega arith)

      untouched : (o : Option PageId) → page_of places other ≡ o → (o ≡ Some id → ⊥)
          → slice_index (bytes_of_place written_pages o) k ≡ slice_index (bytes_of_place pages o) k
      untouched None e other_page = refl
      untouched (Some found) e other_page =
          ap (λ bytes. slice_index bytes k)
          (get_or-set_other pages id.number found.number page []
          (λ same. other_page (ap (λ n. Some (record { number = n })) same)))

      go : (other ≡ place) ⊎ (other ≡ place → ⊥)
          → slice_index (bytes_of_place written_pages (page_of places other)) k
          ≡ or_old (byte_among (place * PAGE_LENGTH + from) bytes (other * PAGE_LENGTH + k))
      go (inl same) =
          let here : page_of places other ≡ Some id = ap (page_of places) same ∙ is in
          ap (λ o. slice_index (bytes_of_place written_pages o) k) here
          ∙ ap (λ bytes. slice_index bytes k) (get_or-set_same pages id.number page [] there)
          ∙ written k
          ∙ ap (λ o. unwrap_or o (slice_index (page_at pages id.number) k))
          (sym (byte_moved (place * PAGE_LENGTH) from bytes k))
          ∙ ap (λ n. unwrap_or (written_at n) (slice_index (page_at pages id.number) k)) (sym same)
          ∙ ap (λ o. unwrap_or (written_at other) (slice_index (bytes_of_place pages o) k)) (sym here)
      go (inr apart) =
          untouched (page_of places other) refl (λ found. apart (kept.apart other place id found is))
          ∙ ap or_old (sym (outside apart))

  pub page_written : (place from : ℕ) (bytes : List ℕ) → page_of places place ≡ Some id
      → AreWritten (page_at pages id.number) from bytes page → from + length bytes ≤ PAGE_LENGTH
      → AreWritten (bytes_of_places pages places) (place * PAGE_LENGTH + from) bytes (bytes_of_places written_pages places)
  page_written place from bytes is written fits at =
      let k : ℕ = at % PAGE_LENGTH in
      let other : ℕ = at / PAGE_LENGTH in
      let below : k < PAGE_LENGTH = omega arith in
      let e : other * PAGE_LENGTH + k ≡ at = omega arith in
      subst (λ at. slice_index (bytes_of_places written_pages places) at
      ≡ unwrap_or (byte_among (place * PAGE_LENGTH + from) bytes at) (slice_index (bytes_of_places pages places) at)) e
      (kept_byte places written_pages written_kept.whole written_kept.there other k below
      ∙ written_byte place from bytes is written fits other k below
      ∙ ap (unwrap_or (byte_among (place * PAGE_LENGTH + from) bytes (other * PAGE_LENGTH + k)))
      (sym (kept_byte places pages kept.whole kept.there other k below)))

-- ---- more pages

pub same_bytes : (places : List (Option PageId)) (pages : List (List ℕ)) (more_places : List (Option PageId))
    (more_pages : List (List ℕ)) → AreKept places pages → AreExtended places pages more_places more_pages
    → AreSame (bytes_of_places pages places) (bytes_of_places more_pages more_places)
same_bytes places pages more_places more_pages kept extended at =
    let k : ℕ = at % PAGE_LENGTH in
    let place : ℕ = at / PAGE_LENGTH in
    let below : k < PAGE_LENGTH = omega arith in
    let e : place * PAGE_LENGTH + k ≡ at = omega arith in
    subst (λ at. slice_index (bytes_of_places more_pages more_places) at ≡ slice_index (bytes_of_places pages places) at) e
    (kept_byte more_places more_pages extended.kept.whole extended.kept.there place k below
    ∙ ap (λ bytes. slice_index bytes k) (extended.same place)
    ∙ sym (kept_byte places pages kept.whole kept.there place k below))

pub still_touched : (places frozen : List (Option PageId)) (pages : List (List ℕ)) (more_places : List (Option PageId))
    (more_pages : List (List ℕ)) → AreExtended places pages more_places more_pages → (place : ℕ)
    → is_touched (kept_of places frozen pages) place ≡ true
    → is_touched (kept_of more_places frozen more_pages) place ≡ true
still_touched places frozen pages more_places more_pages extended place is =
    touched_is more_places frozen more_pages place
    ∙ extended.touched place (sym (touched_is places frozen pages place) ∙ is)
