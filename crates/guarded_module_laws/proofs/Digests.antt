-- Digests are one to one in each word.
use Rattle.std.proofs.Common.{◌≡◌, ◌∙◌, ℕ, zero, suc, ◌+◌, ◌*◌, ◌/◌, ◌%◌, ◌^◌, ◌<◌, ◌≤◌, List, [], ◌∷◌, ◌++◌, length, refl, sym, ap, ap₂, subst, arith, length-append}
use Rattle.std.specs.Prelude.{take, drop}
use Rattle.std.specs.Int.Bits.{bit_xor, xor_assoc, xor_self, xor_zero_r}
use Rattle.std.specs.List.{AllByRecursion}
use Rattle.std.proofs.Math.Nat.{mod-eq_of_lt, mod-lt, mul_assoc, add-mul-mod_self_right}
use Rattle.std.proofs.lemmas.List.{drop-append-le, take-append-le, length-drop}
use Rattle.std.proofs.lemmas.List.Elements.{All-drop, All-take, recursion_from_All}
use Rattle.std.proofs.lemmas.Nat.{mul-mod_first, xor_comm, xor_lt}
use Rattle.std.proofs.Math.Seq.{drop-append_seam, take-append_seam}
use Rattle.wasm_numeric.specs.Integer.{rotl_by}
use Rattle.wasm_numeric.proofs.Bitwise.{xor_is}
use Rattle.history_spec.specs.Store.{number_of}
use Rattle.replay_module_laws.proofs.TypedEffects.{number_small}
use Rattle.guarded_module_spec.specs.declared.words.TheConstants.{DIGEST_FACTOR, DIGEST_ROTATION}
use Rattle.guarded_module_spec.specs.Words.{digest_of, digest_with}
use Rattle.guarded_module_laws.specs.DigestLaws.{AreBytes, OneWordIsFound}

-- ---- the three parts

-- the inverse of the factor
abbrev inverse : ℕ
inverse = 17428512612931826493

back : (a : ℕ) → a < 2 ^ 64 → (a * DIGEST_FACTOR % 2 ^ 64) * inverse % 2 ^ 64 ≡ a
back a small =
    let product : a * (DIGEST_FACTOR * inverse) ≡ a + a * 10771413168148108919 * 2 ^ 64 = omega arith in
    mul-mod_first (a * DIGEST_FACTOR) inverse (2 ^ 64)
    ∙ ap (λ x. x % 2 ^ 64) (mul_assoc a DIGEST_FACTOR inverse ∙ product)
    ∙ add-mul-mod_self_right a (a * 10771413168148108919) (2 ^ 64)
    ∙ mod-eq_of_lt small

factor_one : (a b : ℕ) → a < 2 ^ 64 → b < 2 ^ 64 → a * DIGEST_FACTOR % 2 ^ 64 ≡ b * DIGEST_FACTOR % 2 ^ 64 → a ≡ b
factor_one a b p q e = sym (back a p) ∙ ap (λ x. x * inverse % 2 ^ 64) e ∙ back b q

-- a rotation in two parts
turned : (a : ℕ) → a < 2 ^ 64
    → rotl_by 64 a DIGEST_ROTATION ≡ a % 34359738368 * 536870912 + a / 34359738368
turned a small =
    let kept : (a * 536870912) % 18446744073709551616 ≡ a % 34359738368 * 536870912 = omega arith in
    ap (λ x. x + a / 34359738368) kept

rotation_one : (a b : ℕ) → a < 2 ^ 64 → b < 2 ^ 64
    → rotl_by 64 a DIGEST_ROTATION ≡ rotl_by 64 b DIGEST_ROTATION → a ≡ b
rotation_one a b p q e =
    let parts : a % 34359738368 * 536870912 + a / 34359738368 ≡ b % 34359738368 * 536870912 + b / 34359738368 =
    sym (turned a p) ∙ e ∙ turned b q in
    omega (arith, p, q, parts)

rotation_small : (a : ℕ) → a < 2 ^ 64 → rotl_by 64 a DIGEST_ROTATION < 2 ^ 64
rotation_small a small =
    let parts = turned a small in
    subst (λ x. x < 2 ^ 64) (sym parts) (omega (arith, small))

xor_one : (a b d : ℕ) → bit_xor a d ≡ bit_xor b d → a ≡ b
xor_one a b d e = sym (undone a) ∙ ap (λ x. bit_xor x d) e ∙ undone b
  where
    undone : (x : ℕ) → bit_xor (bit_xor x d) d ≡ x
    undone x = xor_assoc x d d ∙ ap (bit_xor x) (xor_self d) ∙ xor_zero_r x

-- ---- one word more

mixed : (word digest : ℕ) → word < 2 ^ 64 → digest < 2 ^ 64
    → digest_with word digest ≡ rotl_by 64 (bit_xor word digest) DIGEST_ROTATION * DIGEST_FACTOR % 2 ^ 64
mixed word digest p q =
    ap (λ x. rotl_by 64 x DIGEST_ROTATION * DIGEST_FACTOR % 2 ^ 64) (xor_is 64 word digest p q)

xor_back : (a b : ℕ) → a < 2 ^ 64 → b < 2 ^ 64
    → rotl_by 64 a DIGEST_ROTATION * DIGEST_FACTOR % 2 ^ 64 ≡ rotl_by 64 b DIGEST_ROTATION * DIGEST_FACTOR % 2 ^ 64
    → a ≡ b
xor_back a b p q e =
    rotation_one a b p q
    (factor_one (rotl_by 64 a DIGEST_ROTATION) (rotl_by 64 b DIGEST_ROTATION) (rotation_small a p) (rotation_small b q) e)

word_one : (word other digest : ℕ) → word < 2 ^ 64 → other < 2 ^ 64 → digest < 2 ^ 64
    → digest_with word digest ≡ digest_with other digest → word ≡ other
word_one word other digest p q r e =
    xor_one word other digest
    (xor_back (bit_xor word digest) (bit_xor other digest) (xor_lt 64 word digest p r) (xor_lt 64 other digest q r)
    (sym (mixed word digest p r) ∙ e ∙ mixed other digest q r))

digest_one : (word digest other : ℕ) → word < 2 ^ 64 → digest < 2 ^ 64 → other < 2 ^ 64
    → digest_with word digest ≡ digest_with word other → digest ≡ other
digest_one word digest other p q r e =
    xor_one digest other word
    (xor_comm digest word
    ∙ xor_back (bit_xor word digest) (bit_xor word other) (xor_lt 64 word digest p q) (xor_lt 64 word other p r)
    (sym (mixed word digest p q) ∙ e ∙ mixed word other p r)
    ∙ xor_comm word other)

digest_small : (words : ℕ) (bytes : List ℕ) → digest_of words bytes < 2 ^ 64
digest_small zero bytes = omega arith
digest_small (suc words) bytes = mod-lt _ (omega arith)

-- ---- bytes

abbrev IsByte : ℕ → Type 0
IsByte byte = byte < 256

same_bytes : (xs ys : List ℕ) → length xs ≡ length ys → AllByRecursion IsByte xs → AllByRecursion IsByte ys
    → number_of xs ≡ number_of ys → xs ≡ ys
same_bytes [] [] long p q e = refl
same_bytes [] (y ∷ ys) long p q e = absurd (omega (arith, long))
same_bytes (x ∷ xs) [] long p q e = absurd (omega (arith, long))
same_bytes (x ∷ xs) (y ∷ ys) long p q e =
    let low = p.0 in
    let lower = q.0 in
    let first : x ≡ y = omega (arith, e, low, lower) in
    let rest : number_of xs ≡ number_of ys = omega (arith, e, low, lower) in
    ap₂ (λ (b : ℕ) (l : List ℕ). b ∷ l) first (same_bytes xs ys (omega (arith, long)) p.1 q.1 rest)

word_small : (bytes : List ℕ) → AreBytes bytes → number_of (take 8 bytes) < 2 ^ 64
word_small bytes are = number_small 8 bytes (recursion_from_All IsByte bytes are)

-- the first word, and what is after it
first_word : (word after : List ℕ) → length word ≡ 8 → take 8 (word ++ after) ≡ word
first_word word after width = ap (λ n. take n (word ++ after)) (sym width) ∙ take-append_seam word after

past_word : (word after : List ℕ) → length word ≡ 8 → drop 8 (word ++ after) ≡ after
past_word word after width = ap (λ n. drop n (word ++ after)) (sym width) ∙ drop-append_seam word after

module _ (word changed after : List ℕ) (width : length word ≡ 8) (other_width : length changed ≡ 8) where
  -- the first word differs
  here : (words : ℕ) → AreBytes (word ++ after) → AreBytes (changed ++ after)
      → digest_of (suc words) (word ++ after) ≡ digest_of (suc words) (changed ++ after) → word ≡ changed
  here words p q e =
      let later : digest_of words (drop 8 (word ++ after)) ≡ digest_of words (drop 8 (changed ++ after)) =
      ap (digest_of words) (past_word word after width ∙ sym (past_word changed after other_width)) in
      let numbers =
      word_one (number_of (take 8 (word ++ after))) (number_of (take 8 (changed ++ after)))
      (digest_of words (drop 8 (word ++ after))) (word_small (word ++ after) p) (word_small (changed ++ after) q)
      (digest_small words (drop 8 (word ++ after)))
      (e ∙ ap (digest_with (number_of (take 8 (changed ++ after)))) (sym later)) in
      sym (first_word word after width)
      ∙ same_bytes (take 8 (word ++ after)) (take 8 (changed ++ after))
      (ap length (first_word word after width) ∙ width
      ∙ sym (ap length (first_word changed after other_width) ∙ other_width))
      (recursion_from_All IsByte (take 8 (word ++ after)) (All-take IsByte 8 (word ++ after) p))
      (recursion_from_All IsByte (take 8 (changed ++ after)) (All-take IsByte 8 (changed ++ after) q))
      numbers
      ∙ first_word changed after other_width

  found : (words words_before : ℕ) (before : List ℕ) → length before ≡ 8 * words_before → words_before < words
      → AreBytes (before ++ (word ++ after)) → AreBytes (before ++ (changed ++ after))
      → digest_of words (before ++ (word ++ after)) ≡ digest_of words (before ++ (changed ++ after)) → word ≡ changed
  found zero words_before before place below p q e = absurd (omega (arith, below))
  found (suc words) zero [] place below p q e = here words p q e
  found (suc words) zero (b ∷ before) place below p q e = absurd (omega (arith, place))
  found (suc words) (suc words_before) before place below p q e =
      let long : 8 ≤ length before = omega (arith, place) in
      let first : take 8 (before ++ (word ++ after)) ≡ take 8 (before ++ (changed ++ after)) =
      take-append-le 8 before (word ++ after) long ∙ sym (take-append-le 8 before (changed ++ after) long) in
      let one = drop-append-le 8 before (word ++ after) long in
      let two = drop-append-le 8 before (changed ++ after) long in
      let digests =
      digest_one (number_of (take 8 (before ++ (word ++ after))))
      (digest_of words (drop 8 (before ++ (word ++ after)))) (digest_of words (drop 8 (before ++ (changed ++ after))))
      (word_small (before ++ (word ++ after)) p) (digest_small words (drop 8 (before ++ (word ++ after))))
      (digest_small words (drop 8 (before ++ (changed ++ after))))
      (e ∙ ap (λ l. digest_with (number_of l) (digest_of words (drop 8 (before ++ (changed ++ after))))) (sym first)) in
      let shorter = length-drop 8 before in
      found words words_before (drop 8 before) (omega (arith, shorter, place)) (omega (arith, below))
      (subst AreBytes one (All-drop IsByte 8 (before ++ (word ++ after)) p))
      (subst AreBytes two (All-drop IsByte 8 (before ++ (changed ++ after)) q))
      (sym (ap (digest_of words) one) ∙ digests ∙ ap (digest_of words) two)

pub one_word_is_found : OneWordIsFound
one_word_is_found bytes other p q d e =
    let first = ap length d.first in
    let second = ap length d.second in
    let a = length-append d.before (d.word ++ d.after) in
    let b = length-append d.word d.after in
    let f = length-append d.before (d.changed ++ d.after) in
    let g = length-append d.changed d.after in
    let width = d.width in
    let changed_width = d.changed_width in
    let place = d.place in
    let same : length other / 8 ≡ length bytes / 8 = omega (arith, first, second, a, b, f, g, width, changed_width) in
    let within : d.words_before < length bytes / 8 = omega (arith, first, a, b, width, place) in
    d.differ
    (found d.word d.changed d.after d.width d.changed_width (length bytes / 8) d.words_before d.before d.place within
    (subst AreBytes d.first p) (subst AreBytes d.second q)
    (sym (ap (digest_of (length bytes / 8)) d.first) ∙ e
    ∙ ap₂ (λ (n : ℕ) (l : List ℕ). digest_of n l) same d.second))
