-- How known bytes, and frozen ones, are kept: in pages, one for each place that was touched.
use Rattle.std.specs.Prelude.{◌≡◌, ℕ, ◌+◌, ◌*◌, ◌≤◌, ◌<◌, List, [], ◌∷◌, ◌++◌, length, Option, Some, None, Bool, true, false, map, is_some, replicate, slice_index, slice_index_or}
use Rattle.std.specs.List.{flat_map, All}
use Rattle.page_arena.specs.declared.TheConstants.{PAGE_LENGTH}
use Rattle.page_arena.specs.declared.PageId.{PageId}
use Rattle.page_arena.specs.Pages.{page_at}

-- bytes, flags of the places that were touched, and frozen bytes; a place is the bytes of one page
pub record Kept : Type 0 where
  pub bytes : List ℕ
  pub touched : List Bool
  pub frozen : List ℕ

-- whether a place was touched
abbrev pub is_touched : Kept → ℕ → Bool
is_touched kept place = slice_index_or kept.touched place false

-- the bytes of a place: zeros if it was not touched
abbrev pub bytes_of_place : List (List ℕ) → Option PageId → List ℕ
bytes_of_place pages None = replicate PAGE_LENGTH 0
bytes_of_place pages (Some id) = page_at pages id.number

-- the page of a place
abbrev pub page_of : List (Option PageId) → ℕ → Option PageId
page_of places place = slice_index_or places place None

-- the bytes of all places
abbrev pub bytes_of_places : List (List ℕ) → List (Option PageId) → List ℕ
bytes_of_places pages places = flat_map (bytes_of_place pages) places

-- the bytes, flags and frozen bytes that these pages keep
abbrev pub kept_of : (places frozen : List (Option PageId)) → List (List ℕ) → Kept
kept_of places frozen pages =
    record {
      bytes = bytes_of_places pages places;
      touched = map is_some places;
      frozen = bytes_of_places pages frozen;
    }

-- pages are whole, the pages of places exist, and no two places have the same page
pub record AreKept (places : List (Option PageId)) (pages : List (List ℕ)) : Type 0 where
  pub whole : (number : ℕ) → number < length pages → length (page_at pages number) ≡ PAGE_LENGTH
  pub there : (place : ℕ) (id : PageId) → page_of places place ≡ Some id → id.number < length pages
  pub apart : (place other : ℕ) (id : PageId) → page_of places place ≡ Some id → page_of places other ≡ Some id
      → place ≡ other

-- the pages of frozen places exist, and no place that may be written has one of them
pub record AreFrozen (places frozen : List (Option PageId)) (pages : List (List ℕ)) : Type 0 where
  pub there : (place : ℕ) (id : PageId) → page_of frozen place ≡ Some id → id.number < length pages
  pub apart : (place other : ℕ) (id : PageId) → page_of places place ≡ Some id → page_of frozen other ≡ Some id → ⊥

-- a slice holds the bytes of a place
pub record AreBytesOf (bytes : List ℕ) (place : ℕ) (found : List ℕ) : Type 0 where
  pub size : length found ≡ PAGE_LENGTH
  pub byte : (k : ℕ) → k < PAGE_LENGTH → slice_index found k ≡ slice_index bytes (place * PAGE_LENGTH + k)

-- there are the same pages, and possibly more
pub record AreMore (pages more_pages : List (List ℕ)) : Type 0 where
  pub count : length pages ≤ length more_pages
  pub same : (number : ℕ) → number < length pages → page_at more_pages number ≡ page_at pages number

-- other pages keep the same bytes, with all touched places and possibly more; no place has another page that was
-- there before
pub record AreExtended (places : List (Option PageId)) (pages : List (List ℕ))
    (more_places : List (Option PageId)) (more_pages : List (List ℕ)) : Type 0 where
  pub kept : AreKept more_places more_pages
  pub more : AreMore pages more_pages
  pub earlier : (place : ℕ) (id : PageId) → page_of more_places place ≡ Some id → id.number < length pages
      → page_of places place ≡ Some id
  pub same : (place : ℕ) → bytes_of_place more_pages (page_of more_places place)
      ≡ bytes_of_place pages (page_of places place)
  pub touched : (place : ℕ) → is_some (page_of places place) ≡ true → is_some (page_of more_places place) ≡ true

-- a page that has a number from `low` on and below `high`, or no page
abbrev pub IsBetween : (low high : ℕ) → Option PageId → Type 0
IsBetween low high None = Unit {0}
IsBetween low high (Some id) = (low ≤ id.number) × (id.number < high)

-- the copy of a page is made behind all pages; a place without a page has none
abbrev pub IsCopy : Option PageId → (pages : List (List ℕ)) → (copy : Option PageId) → (more_pages : List (List ℕ))
    → Type 0
IsCopy None pages copy more_pages = (copy ≡ None) × (more_pages ≡ pages)
IsCopy (Some id) pages copy more_pages =
    (copy ≡ Some (record { number = length pages })) × (more_pages ≡ pages ++ page_at pages id.number ∷ [])

-- places whose pages were made later than all of `pages`, with the same bytes as other places
pub record AreCopies (places : List (Option PageId)) (pages : List (List ℕ)) (copies : List (Option PageId))
    (more_pages : List (List ℕ)) : Type 0 where
  pub later : All (IsBetween (length pages) (length more_pages)) copies
  pub same : bytes_of_places more_pages copies ≡ bytes_of_places pages places
