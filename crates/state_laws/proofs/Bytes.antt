-- The data segments of bytes are within these, and give them back if they are written into zeros.
use Rattle.std.proofs.Common.{◌≡◌, ℕ, zero, suc, ◌+◌, ◌*◌, ◌≤◌, List, [], ◌∷◌, ◌++◌, length, take, drop, refl, sym, ap, ◌∙◌, arith}
use Rattle.std.specs.Prelude.{fold, All}
use Rattle.std.proofs.lemmas.List.{append_assoc, length-append, length-replicate, length-take-le, nil_from_length, replicate-append-replicate, take-append-drop}
use Rattle.std.proofs.lemmas.List.Elements.{All-cons, All-nil}
use Rattle.wasm_syntax.specs.declared.values.Val.{Val}
use Rattle.wasm_syntax.specs.declared.modules.DataSeg.{DataSeg}
use Rattle.history_spec.specs.Store.{zeros}
use Rattle.history_spec.specs.Instantiation.{offset_of, with_data}
use Rattle.rest_spec.specs.StateSegments.{offset_at, zeros_before, with_byte, without_last_zeros, with_segment, with_block, block_segments}
use Rattle.state_laws.proofs.WrittenItems.{written_between}

-- ---- the parts of a block

zeros_first : (block : List ℕ) → zeros (zeros_before block) ++ drop (zeros_before block) block ≡ block
zeros_first [] = refl
zeros_first (zero ∷ bytes) = ap (λ l. 0 ∷ l) (zeros_first bytes)
zeros_first (suc byte ∷ bytes) = refl

zeros_last : (bytes : List ℕ) → (n : ℕ) × (without_last_zeros bytes ++ zeros n ≡ bytes)
zeros_last [] = (0, refl)
zeros_last (byte ∷ bytes) = go byte (without_last_zeros bytes) (zeros_last bytes)
  where
    go : (byte : ℕ) (rest : List ℕ) → (n : ℕ) × (rest ++ zeros n ≡ bytes)
        → (n : ℕ) × (with_byte byte rest ++ zeros n ≡ byte ∷ bytes)
    go zero [] p = (suc p.0, ap (λ l. 0 ∷ l) p.1)
    go zero (next ∷ later) p = (p.0, ap (λ l. 0 ∷ l) p.1)
    go (suc byte) rest p = (p.0, ap (λ l. suc byte ∷ l) p.1)

-- the bytes of a block's segment
abbrev pub block_bytes : List ℕ → List ℕ
block_bytes block = without_last_zeros (drop (zeros_before block) block)

-- zeros, the bytes of the segment, and zeros
pub record BlockParts (block : List ℕ) : Type 0 where
  pub last : ℕ
  pub whole : zeros (zeros_before block) ++ (block_bytes block ++ zeros last) ≡ block
  pub size : zeros_before block + (length (block_bytes block) + last) ≡ length block

pub block_parts : (block : List ℕ) → BlockParts block
block_parts block =
    let lead = zeros_before block in
    let last = zeros_last (drop lead block) in
    let whole : zeros lead ++ (block_bytes block ++ zeros last.0) ≡ block =
    ap (λ l. zeros lead ++ l) last.1 ∙ zeros_first block in
    record {
      last = last.0;
      whole = whole;
      size =
          omega (
            arith,
            ap length whole,
            length-append (zeros lead) (block_bytes block ++ zeros last.0),
            length-append (block_bytes block) (zeros last.0),
            length-replicate {A = ℕ} lead 0,
            length-replicate {A = ℕ} last.0 0,
          );
    }

zeros_both : (m n : ℕ) → zeros (m + n) ≡ zeros m ++ zeros n
zeros_both m n = sym (replicate-append-replicate m n 0)

module _ (imported : List Val) where
  -- bytes with segments written
  abbrev datas_written : List ℕ → List DataSeg → List ℕ
  datas_written bytes datas = fold (with_data imported) bytes datas

  -- a segment that is written behind other bytes, over zeros
  segment_written : (done news behind : List ℕ) (address : ℕ) (later : List DataSeg) → address ≡ length done
      → datas_written (done ++ (zeros (length news) ++ behind)) (with_segment address news later)
      ≡ datas_written (done ++ (news ++ behind)) later
  segment_written done [] behind address later here = refl
  segment_written done (byte ∷ news) behind address later here =
      let own = byte ∷ news in
      ap (λ l. datas_written l later)
      (written_between done (zeros (length own)) own behind address here (length-replicate {A = ℕ} (length own) 0))

  -- a block that is written behind other bytes, over zeros
  block_written : (done block : List ℕ) (rest : ℕ) (later : List DataSeg)
      → datas_written (done ++ zeros (length block + rest)) (with_block (length done) block later)
      ≡ datas_written ((done ++ block) ++ zeros rest) later
  block_written done block rest later =
      ap (λ l. datas_written l (with_block (length done) block later)) front
      ∙ segment_written (done ++ zeros lead) news (zeros last ++ zeros rest) (length done + lead) later
      (omega (arith, length-append done (zeros lead), length-replicate {A = ℕ} lead 0))
      ∙ ap (λ l. datas_written l later) back
    where
      lead : ℕ
      lead = zeros_before block

      news : List ℕ
      news = block_bytes block

      last : ℕ
      last = (block_parts block).last

      total : length block + rest ≡ lead + (length news + (last + rest))
      total = let s = (block_parts block).size in omega (arith, s)

      front : done ++ zeros (length block + rest)
          ≡ (done ++ zeros lead) ++ (zeros (length news) ++ (zeros last ++ zeros rest))
      front =
          ap (λ k. done ++ zeros k)
          total
          ∙ ap (λ l. done ++ l)
          (zeros_both lead (length news + (last + rest))
          ∙ ap (λ l. zeros lead ++ l)
          (zeros_both (length news) (last + rest) ∙ ap (λ l. zeros (length news) ++ l) (zeros_both last rest)))
          ∙ sym (append_assoc done (zeros lead) (zeros (length news) ++ (zeros last ++ zeros rest)))

      back : (done ++ zeros lead) ++ (news ++ (zeros last ++ zeros rest)) ≡ (done ++ block) ++ zeros rest
      back =
          append_assoc done (zeros lead) (news ++ (zeros last ++ zeros rest))
          ∙ ap (λ l. done ++ (zeros lead ++ l)) (sym (append_assoc news (zeros last) (zeros rest)))
          ∙ ap (λ l. done ++ l) (sym (append_assoc (zeros lead) (news ++ zeros last) (zeros rest)))
          ∙ ap (λ l. done ++ (l ++ zeros rest)) (block_parts block).whole
          ∙ sym (append_assoc done block (zeros rest))

  -- the first block of whole blocks, and the others
  record FirstBlock (size count : ℕ) (bytes : List ℕ) : Type 0 where
    first : length (take size bytes) ≡ size
    rest : length (drop size bytes) ≡ count * size
    split : length bytes ≡ length (take size bytes) + length (drop size bytes)

  first_block : (size count : ℕ) (bytes : List ℕ) → length bytes ≡ suc count * size → FirstBlock size count bytes
  first_block size count bytes whole =
      let first = length-take-le size bytes (omega (arith, whole)) in
      let split = sym (ap length (take-append-drop size bytes)) ∙ length-append (take size bytes) (drop size bytes) in
      record { first = first; split = split; rest = omega (arith, whole, first, split) }

  -- all blocks, written behind other bytes
  pub blocks_written : (size count : ℕ) (done bytes : List ℕ) → length bytes ≡ count * size
      → datas_written (done ++ zeros (length bytes)) (block_segments size count (length done) bytes) ≡ done ++ bytes
  blocks_written size zero done bytes whole =
      let none : length bytes ≡ 0 = omega (arith, whole) in
      ap (λ n. done ++ zeros n) none ∙ ap (λ l. done ++ l) (sym (nil_from_length bytes none))
  blocks_written size (suc count) done bytes whole =
      let block = take size bytes in
      let rest = drop size bytes in
      let parts = first_block size count bytes whole in
      let moved : length done + size ≡ length (done ++ block) =
      omega (arith, length-append done block, parts.first) in
      let later = block_segments size count (length done + size) rest in
      ap (λ k. datas_written (done ++ zeros k) (with_block (length done) block later)) parts.split
      ∙ block_written done block (length rest) later
      ∙ ap (λ at. datas_written ((done ++ block) ++ zeros (length rest)) (block_segments size count at rest)) moved
      ∙ blocks_written size count (done ++ block) rest parts.rest
      ∙ append_assoc done block rest
      ∙ ap (λ l. done ++ l) (take-append-drop size bytes)

  -- a segment ends at most at an address
  abbrev pub EndsWithin : (most : ℕ) → DataSeg → Type 0
  EndsWithin most segment = offset_of imported segment.offset + length segment.bytes ≤ most

  segment_within : (most address : ℕ) (news : List ℕ) (later : List DataSeg) → address + length news ≤ most
      → All (EndsWithin most) later → All (EndsWithin most) (with_segment address news later)
  segment_within most address [] later within all = all
  segment_within most address (byte ∷ news) later within all =
      All-cons (EndsWithin most) (record { memory = 0; offset = offset_at address; bytes = byte ∷ news }) later within
      all

  -- all blocks are within the bytes
  pub blocks_within : (most size count address : ℕ) (bytes : List ℕ) → length bytes ≡ count * size
      → address + length bytes ≤ most → All (EndsWithin most) (block_segments size count address bytes)
  blocks_within most size zero address bytes whole within = All-nil (EndsWithin most)
  blocks_within most size (suc count) address bytes whole within =
      let parts = first_block size count bytes whole in
      let own = (block_parts (take size bytes)).size in
      let lead = zeros_before (take size bytes) in
      segment_within most (address + lead) (block_bytes (take size bytes))
      (block_segments size count (address + size) (drop size bytes))
      (omega (arith, own, parts.split, within))
      (blocks_within most size count (address + size) (drop size bytes) parts.rest
      (omega (arith, parts.first, parts.split, within)))
