-- The data segments of a memory, block by block.
use Rattle.std.proofs.Common.{◌≡◌, ◌⊎◌, inl, inr, ℕ, zero, suc, ◌+◌, ◌-◌, ◌*◌, ◌/◌, ◌<◌, ◌≤◌, List, [], ◌∷◌, ◌++◌, length, map, take, drop, get_or, refl, sym, ap, ◌∙◌, arith, append_assoc, length-take, length-drop}
use Rattle.std.specs.Prelude.{slice_index}
use Rattle.std.specs.List.{range_with_len}
use Rattle.std.proofs.lemmas.List.{append-nil, get_or-take, get_or-drop, drop-drop}
use Rattle.std.proofs.lemmas.List.FromFn.{length-map-range_with_len, get_or-map-range_with_len, fill_by_all}
use Rattle.wasm_syntax.specs.declared.modules.DataSeg.{DataSeg}
use Rattle.rest_spec.specs.StateSegments.{zeros_before, without_last_zeros, with_segment, with_block, block_segments}

-- ---- segments before others

pub segment_before : (address : ℕ) (bytes : List ℕ) (later : List DataSeg)
    → with_segment address bytes [] ++ later ≡ with_segment address bytes later
segment_before address [] later = refl
segment_before address (byte ∷ bytes) later = refl

pub block_before : (address : ℕ) (block : List ℕ) (later : List DataSeg)
    → with_block address block [] ++ later ≡ with_block address block later
block_before address block later =
    segment_before (address + zeros_before block) (without_last_zeros (drop (zeros_before block) block)) later

-- ---- zeros

-- bytes that are all zero
abbrev AreZeros : List ℕ → Type 0
AreZeros bytes = (k : ℕ) → k < length bytes → get_or bytes k 0 ≡ 0

nothing_left : (bytes : List ℕ) → AreZeros bytes → drop (zeros_before bytes) bytes ≡ []
nothing_left [] zeros = refl
nothing_left (zero ∷ bytes) zeros = nothing_left bytes (λ k below. zeros (suc k) (omega (arith, below)))
nothing_left (suc byte ∷ bytes) zeros = let no = zeros 0 (omega arith) in absurd (omega (arith, no))

-- a block of zeros has no segment
zero_block : (address : ℕ) (block : List ℕ) (later : List DataSeg) → AreZeros block
    → with_block address block later ≡ later
zero_block address block later zeros =
    ap (λ bytes. with_segment (address + zeros_before block) (without_last_zeros bytes) later) (nothing_left block zeros)

-- ---- blocks

module _ (f : ℕ → ℕ) (size total : ℕ) where
  -- the bytes of a block of a memory, which are the values from its address on
  block_at : (at : ℕ) → at + size ≤ total
      → take size (drop at (map f (range_with_len 0 total))) ≡ map (λ k. f (at + k)) (range_with_len 0 size)
  block_at at within =
      let bytes = map f (range_with_len 0 total) in
      let all : length bytes ≡ total = length-map-range_with_len f 0 total in
      let long : length (take size (drop at bytes)) ≡ size =
      omega (arith, all, length-take size (drop at bytes), length-drop at bytes) in
      fill_by_all (λ k. f (at + k)) (take size (drop at bytes)) size 0 long
      (λ k below.
      get_or-take size (drop at bytes) k 0 below
      ∙ get_or-drop at bytes k 0
      ∙ get_or-map-range_with_len f 0 total (at + k) (at + k) 0 (omega (arith, below, within)) (omega arith))

-- a block as it is kept: no bytes if all are zeros
pub kept_block : (kept block : List ℕ) (size total at address : ℕ) → (block ≡ []) ⊎ (length block ≡ size)
    → ((k : ℕ) → k < size → slice_index block k ≡ slice_index kept (at + k)) → at + size ≤ total
    → with_block address block []
    ≡ with_block address (take size (drop at (map (slice_index kept) (range_with_len 0 total)))) []
kept_block kept block size total at address (inl none) same within =
    let f : ℕ → ℕ = slice_index kept in
    let bytes = map (λ k. f (at + k)) (range_with_len 0 size) in
    let long : length bytes ≡ size = length-map-range_with_len (λ k. f (at + k)) 0 size in
    ap (λ b. with_block address b []) none
    ∙ sym
    (zero_block address bytes []
    (λ k below.
    get_or-map-range_with_len (λ k. f (at + k)) 0 size k k 0 (omega (arith, below, long)) (omega arith)
    ∙ sym (same k (omega (arith, below, long)))
    ∙ ap (λ b. slice_index b k) none))
    ∙ sym (ap (λ b. with_block address b []) (block_at f size total at within))
kept_block kept block size total at address (inr long) same within =
    let f : ℕ → ℕ = slice_index kept in
    ap (λ b. with_block address b []) (fill_by_all (λ k. f (at + k)) block size 0 long same)
    ∙ sym (ap (λ b. with_block address b []) (block_at f size total at within))

-- the segments of a number of blocks are that of the first and those of the others
pub blocks_from : (size count place : ℕ) (bytes : List ℕ) → place < count
    → with_block (place * size) (take size (drop (place * size) bytes)) []
    ++ block_segments size (count - (place + 1)) ((place + 1) * size) (drop ((place + 1) * size) bytes)
    ≡ block_segments size (count - place) (place * size) (drop (place * size) bytes)
blocks_from size count place bytes below =
    let rest = count - (place + 1) in
    let left : suc rest ≡ count - place = omega (arith, below) in
    let next : (place + 1) * size ≡ place * size + size = omega arith in
    ap
    (λ at. with_block (place * size) (take size (drop (place * size) bytes)) []
    ++ block_segments size rest at (drop at bytes))
    next
    ∙ block_before (place * size) (take size (drop (place * size) bytes))
    (block_segments size rest (place * size + size) (drop (place * size + size) bytes))
    ∙ ap
    (λ b. with_block (place * size) (take size (drop (place * size) bytes))
    (block_segments size rest (place * size + size) b))
    (sym (drop-drop size (place * size) bytes))
    ∙ ap (λ n. block_segments size n (place * size) (drop (place * size) bytes)) left

-- ---- the loop over places

-- the bytes of a memory of a size, by what is kept of it
abbrev all_bytes : (kept : List ℕ) (total : ℕ) → List ℕ
all_bytes kept total = map (slice_index kept) (range_with_len 0 total)

-- before the first block all segments are still to make
pub none_made : (size count : ℕ) (bytes : List ℕ) (made : List DataSeg) → made ≡ []
    → made ++ block_segments size (count - 0) (0 * size) (drop (0 * size) bytes) ≡ block_segments size count 0 bytes
none_made size count bytes made none =
    let left : count - 0 ≡ count = omega arith in
    let at : 0 * size ≡ 0 = omega arith in
    ap (λ segments. segments ++ block_segments size (count - 0) (0 * size) (drop (0 * size) bytes)) none
    ∙ ap (λ n. block_segments size n (0 * size) (drop (0 * size) bytes)) left
    ∙ ap (λ address. block_segments size count address (drop address bytes)) at

-- the segment of one more block is made
pub one_made : (size count total place : ℕ) (kept block : List ℕ) (before after all : List DataSeg) → place < count
    → place * size + size ≤ total → (block ≡ []) ⊎ (length block ≡ size)
    → ((k : ℕ) → k < size → slice_index block k ≡ slice_index kept (place * size + k))
    → after ≡ before ++ with_block (place * size) block []
    → before ++ block_segments size (count - place) (place * size) (drop (place * size) (all_bytes kept total)) ≡ all
    → after ++ block_segments size (count - (place + 1)) ((place + 1) * size)
    (drop ((place + 1) * size) (all_bytes kept total))
    ≡ all
one_made size count total place kept block before after all below within long same pushed made =
    let bytes = all_bytes kept total in
    let later =
    block_segments size (count - (place + 1)) ((place + 1) * size) (drop ((place + 1) * size) bytes) in
    ap (λ segments. segments ++ later) pushed
    ∙ append_assoc before (with_block (place * size) block []) later
    ∙ ap (λ segments. before ++ (segments ++ later))
    (kept_block kept block size total (place * size) (place * size) long same within)
    ∙ ap (λ segments. before ++ segments) (blocks_from size count place bytes below)
    ∙ made

-- behind the last block all segments are made
pub all_made : (size count place : ℕ) (bytes : List ℕ) (made all : List DataSeg) → place ≡ count
    → made ++ block_segments size (count - place) (place * size) (drop (place * size) bytes) ≡ all → made ≡ all
all_made size count place bytes made all is_last are =
    let none : count - place ≡ 0 = omega (arith, is_last) in
    sym (append-nil made)
    ∙ ap (λ n. made ++ block_segments size n (place * size) (drop (place * size) bytes)) (sym none)
    ∙ are

-- the number of blocks of a number of pages
pub block_count : (kept : List ℕ) (pages count : ℕ) → count ≡ pages
    → count * 16 ≡ length (all_bytes kept (pages * 65536)) / 4096
block_count kept pages count is =
    let long : length (all_bytes kept (pages * 65536)) ≡ pages * 65536 =
    length-map-range_with_len (slice_index kept) 0 (pages * 65536) in
    omega (arith, long, is)

-- the number of pages
pub page_count : (kept : List ℕ) (pages : ℕ) → length (all_bytes kept (pages * 65536)) / 65536 ≡ pages
page_count kept pages =
    let long : length (all_bytes kept (pages * 65536)) ≡ pages * 65536 =
    length-map-range_with_len (slice_index kept) 0 (pages * 65536) in
    omega (arith, long)
