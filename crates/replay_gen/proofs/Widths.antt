-- Laws on stores: the widest one comes first.
use Rattle.std.proofs.Common.{◌≡◌, ◌∙◌, refl, ap, sym, append_assoc, ℕ, zero, suc, ◌+◌, ◌-◌, ◌/◌, ◌%◌, ◌<◌, ◌≤◌, List, ◌∷◌, ◌++◌, replicate, length, drop, take, arith, length-append, length-drop}
use Rattle.std.specs.Int.{w64, from_le_bytes}
use Rattle.std.proofs.lemmas.List.{drop-replicate}
use Rattle.std.proofs.lemmas.Bool.{cond-true, le-leb}
use Rattle.wasm_syntax.specs.declared.values.ValType.{ValType}
use Rattle.wasm_syntax.specs.declared.instructions.Instr.{Instr}
use Rattle.history_spec.specs.Store.{number_of}
use Rattle.history_spec.proofs.ByteNumbers.{number_of-zeros, from_le_bytes-number_of}
use Rattle.replay_module_spec.specs.Effects.{Width, Eight, Four, Two, One, byte_count, store_type, store_opcode, store_code, store_widths, stores_code}
use Rattle.replay_gen.specs.Pieces.{store_of, widest}

abbrev widths_of : (eights fours twos ones : ℕ) → List Width
widths_of eights fours twos ones =
    replicate eights Eight ++ (replicate fours Four ++ (replicate twos Two ++ replicate ones One))

eight_less : (n : ℕ) → 8 ≤ n → store_widths n ≡ Eight ∷ store_widths (n - 8)
eight_less n many =
    let eights : n / 8 ≡ suc ((n - 8) / 8) = omega (arith, many) in
    let fours : n / 4 % 2 ≡ (n - 8) / 4 % 2 = omega (arith, many) in
    let twos : n / 2 % 2 ≡ (n - 8) / 2 % 2 = omega (arith, many) in
    let ones : n % 2 ≡ (n - 8) % 2 = omega (arith, many) in
    ap (λ k. widths_of k (n / 4 % 2) (n / 2 % 2) (n % 2)) eights
    ∙ (ap (λ k. widths_of (suc ((n - 8) / 8)) k (n / 2 % 2) (n % 2)) fours
    ∙ (ap (λ k. widths_of (suc ((n - 8) / 8)) ((n - 8) / 4 % 2) k (n % 2)) twos
    ∙ ap (λ k. widths_of (suc ((n - 8) / 8)) ((n - 8) / 4 % 2) ((n - 8) / 2 % 2) k) ones))

eight_first : (n : ℕ) → 8 ≤ n → store_widths n ≡ widest n ∷ store_widths (n - byte_count (widest n))
eight_first n many =
    let wide : widest n ≡ Eight = cond-true _ _ _ (le-leb _ _ many) in
    eight_less n many ∙ sym (ap (λ w. w ∷ store_widths (n - byte_count w)) wide)

-- the widest store comes first
pub widest_first : (n : ℕ) → 0 < n → store_widths n ≡ widest n ∷ store_widths (n - byte_count (widest n))
widest_first zero some = absurd (omega arith)
widest_first (suc zero) some = refl
widest_first (suc (suc zero)) some = refl
widest_first (suc (suc (suc zero))) some = refl
widest_first (suc (suc (suc (suc zero)))) some = refl
widest_first (suc (suc (suc (suc (suc zero))))) some = refl
widest_first (suc (suc (suc (suc (suc (suc zero)))))) some = refl
widest_first (suc (suc (suc (suc (suc (suc (suc zero))))))) some = refl
widest_first (suc (suc (suc (suc (suc (suc (suc (suc n)))))))) some =
    let many : 8 ≤ suc (suc (suc (suc (suc (suc (suc (suc n))))))) = omega arith in eight_first _ many

-- one more store is written
pub store_more : (rest part after : List ℕ) (at width number op : ℕ) (ty : ValType) (before now whole : List Instr)
    → 0 < length rest → width ≡ byte_count (widest (length rest)) → ty ≡ store_type (widest (length rest))
    → op ≡ store_opcode (widest (length rest)) → part ≡ take width rest → after ≡ drop width rest
    → number ≡ number_of part → now ≡ before ++ store_of ty op at number
    → before ++ stores_code (store_widths (length rest)) at rest ≡ whole
    → now ++ stores_code (store_widths (length after)) (at + width) after ≡ whole
store_more rest part after at width number op ty before now whole some width-is ty-is op-is part-is after-is number-is written invariant =
    let w : Width = widest (length rest) in
    let code : List Instr = store_code w at (number_of (take (byte_count w) rest)) in
    let later : List Instr = stores_code (store_widths (length after)) (at + width) after in
    let first-is : store_of ty op at number ≡ code =
    ap (λ t. store_of t op at number) ty-is
    ∙ (ap (λ o. store_of (store_type w) o at number) op-is
    ∙ ap (store_of (store_type w) (store_opcode w) at) (number-is ∙ ap number_of (part-is ∙ ap (λ k. take k rest) width-is))) in
    let later-is : later ≡ stores_code (store_widths (length rest - byte_count w)) (at + byte_count w) (drop (byte_count w) rest) =
    ap (λ (xs : List ℕ). stores_code (store_widths (length xs)) (at + width) xs) (after-is ∙ ap (λ k. drop k rest) width-is)
    ∙ (ap (λ k. stores_code (store_widths (length (drop (byte_count w) rest))) (at + k) (drop (byte_count w) rest)) width-is
    ∙ ap (λ k. stores_code (store_widths k) (at + byte_count w) (drop (byte_count w) rest)) (length-drop (byte_count w) rest)) in
    ap (λ l. l ++ later) written
    ∙ (append_assoc before (store_of ty op at number) later
    ∙ (ap (λ l. before ++ l) (ap (λ l. l ++ later) first-is
    ∙ (ap (λ l. code ++ l) later-is ∙ sym (ap (λ ws. stores_code ws at rest) (widest_first (length rest) some))))
    ∙ invariant))

-- ---- numbers

-- the number of a word whose lowest bytes these are, all others being 0
pub number_of_word : (bytes part : List ℕ) (number : ℕ) → length bytes ≤ 8 → part ≡ bytes
    → number ≡ from_le_bytes w64 (part ++ drop (length bytes) (replicate 8 0)) → number ≡ number_of bytes
number_of_word bytes part number small same is =
    is ∙ (ap (λ (p : List ℕ). from_le_bytes w64 (p ++ drop (length bytes) (replicate 8 0))) same
    ∙ (from_le_bytes-number_of (bytes ++ drop (length bytes) (replicate 8 0))
    (omega (arith, length-append {A = ℕ} bytes (drop (length bytes) (replicate 8 0)), length-drop {A = ℕ} (length bytes) (replicate 8 0)))
    ∙ rw drop-replicate (number_of-zeros bytes (8 - length bytes))))
