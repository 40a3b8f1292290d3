-- A load's result determines the bytes that it reads.
use Rattle.std.proofs.Common.{◌≡◌, ℕ, zero, suc, ◌+◌, ◌-◌, ◌*◌, ◌%◌, ◌^◌, ◌<◌, ◌≤◌, List, [], ◌∷◌, length, Bool, true, false, nat_le, nat_lt, All, refl, sym, ap, ◌∙◌, subst, arith}
use Rattle.std.specs.Prelude.{ltb, pos, negsuc, ◌-ℤ◌, if◌then◌else◌, Some, cond, slice_get}
use Rattle.std.proofs.Math.Nat.{mod-eq_of_lt}
use Rattle.std.proofs.Math.Pow.{pow_mono}
use Rattle.std.proofs.lemmas.Bool.Decides.{nat_tests}
use Rattle.std.proofs.lemmas.List.Elements.{All-head, All-tail}
use Rattle.std.proofs.lemmas.Nat.{pow-add}
use Rattle.base.proofs.Lists.{item_passes}
use Rattle.base.proofs.Options.{cond_some}
use Rattle.base.specs.declared.opcodes.TheConstants.{I32_LOAD, I64_LOAD32_U}
use Rattle.wasm_syntax.specs.Opcodes.{Access, is_from, load_table, load_of}
use Rattle.wasm_syntax.specs.Typing.{bits_of}
use Rattle.wasm_numeric.specs.Integer.{modulo, signed}
use Rattle.history_spec.specs.Numeric.{extend_if, loaded_number}
use Rattle.history_spec.specs.Store.{number_of}

-- ---- bytes and their number

pub same_bytes : (bytes others : List ℕ) → length bytes ≡ length others → All (λ b. b < 256) bytes
    → All (λ b. b < 256) others → number_of bytes ≡ number_of others → bytes ≡ others
same_bytes [] [] long small smaller h = refl
same_bytes [] (b ∷ others) long small smaller h = cc
same_bytes (a ∷ bytes) [] long small smaller h = cc
same_bytes (a ∷ bytes) (b ∷ others) long small smaller h =
    let low = All-head (λ b. b < 256) a bytes small in
    let lower = All-head (λ b. b < 256) b others smaller in
    let first : a ≡ b = omega (arith, low, lower, h) in
    let rest : number_of bytes ≡ number_of others = omega (arith, low, lower, h) in
    let more : length bytes ≡ length others = omega (arith, long) in
    ap (λ n. n ∷ bytes) first
    ∙ ap (λ l. b ∷ l)
    (same_bytes bytes others more (All-tail (λ b. b < 256) a bytes small) (All-tail (λ b. b < 256) b others smaller)
    rest)

number_below : (bytes : List ℕ) → All (λ b. b < 256) bytes → number_of bytes < 2 ^ (8 * length bytes)
number_below [] small = omega arith
number_below (b ∷ bytes) small =
    let low = All-head (λ b. b < 256) b bytes small in
    let rest : number_of bytes < 2 ^ (8 * length bytes) = number_below bytes (All-tail (λ b. b < 256) b bytes small) in
    let eight : 8 * suc (length bytes) ≡ 8 + 8 * length bytes = omega arith in
    let power : 2 ^ (8 * suc (length bytes)) ≡ 256 * 2 ^ (8 * length bytes) =
    ap (λ n. 2 ^ n) eight ∙ pow-add 2 8 (8 * length bytes) in
    omega (arith, low, rest, power)

-- ---- numbers and their extensions

less_whole : (n q : ℕ) → n < q → pos n -ℤ pos q ≡ negsuc (q - suc n)
less_whole n zero h = absurd (omega (arith, h))
less_whole n (suc q) h =
    let below : ltb n (suc q) ≡ true = grind (arith, nat_tests, h) in
    ap (λ b. cond b (negsuc (suc q - suc n)) (pos (n - suc q))) below

module _ (to from : ℕ) (wider : 2 ^ from ≤ 2 ^ to) where
  -- a number's extension, with the sign of its half
  extended : (n : ℕ) → n < 2 ^ from
      → modulo to (signed from n) ≡ cond (nat_lt n (2 ^ (from - 1))) n (2 ^ to - 2 ^ from + n)
  extended n small = go (nat_lt n (2 ^ (from - 1)))
    where
      go : (b : Bool)
          → modulo to (if b then pos n else pos n -ℤ pos (2 ^ from)) ≡ cond b n (2 ^ to - 2 ^ from + n)
      go true = mod-eq_of_lt {n = n} {m = 2 ^ to} (omega (arith, small, wider))
      go false =
          let k : ℕ = 2 ^ from - suc n in
          let low : k < 2 ^ to = omega (arith, small, wider) in
          let same : k % 2 ^ to ≡ k = mod-eq_of_lt {n = k} {m = 2 ^ to} low in
          ap (modulo to) (less_whole n (2 ^ from) small) ∙ ap (λ m. 2 ^ to - 1 - m) same ∙ omega (arith, small, wider)

  same_extension : (n m : ℕ) → n < 2 ^ from → m < 2 ^ from
      → modulo to (signed from n) ≡ modulo to (signed from m) → n ≡ m
  same_extension n m small smaller h =
      go (nat_lt n half) refl (nat_lt m half) refl (sym (extended n small) ∙ h ∙ extended m smaller)
    where
      half : ℕ
      half = 2 ^ (from - 1)

      go : (b : Bool) → nat_lt n half ≡ b → (c : Bool) → nat_lt m half ≡ c
          → cond b n (2 ^ to - 2 ^ from + n) ≡ cond c m (2 ^ to - 2 ^ from + m) → n ≡ m
      go true p true q e = e
      go false p false q e = omega (arith, e)
      go true p false q e =
          let low : n < half = grind (arith, nat_tests, p) in
          let high : half ≤ m = grind (arith, nat_tests, q) in
          absurd (omega (arith, e, low, high))
      go false p true q e =
          let low : m < half = grind (arith, nat_tests, q) in
          let high : half ≤ n = grind (arith, nat_tests, p) in
          absurd (omega (arith, e, low, high))

-- ---- loads

abbrev is_no_wider : Access → Bool
is_no_wider access = nat_le (8 * access.width) (bits_of access.ty)

-- a load reads at most as many bits as its value has
no_wider : (op : ℕ) (access : Access) → load_of op ≡ Some access → is_no_wider access ≡ true
no_wider op access h =
    let there = cond_some (is_from I32_LOAD I64_LOAD32_U op) (slice_get load_table (op - I32_LOAD)) access h in
    item_passes is_no_wider load_table (op - I32_LOAD) access refl there.1

-- loads that give equal numbers read equal bytes
pub same_loaded : (op : ℕ) (access : Access) → load_of op ≡ Some access → (bytes others : List ℕ)
    → length bytes ≡ access.width → length others ≡ access.width → All (λ b. b < 256) bytes
    → All (λ b. b < 256) others
    → loaded_number access (number_of bytes) ≡ loaded_number access (number_of others) → bytes ≡ others
same_loaded op access is bytes others long longer small smaller h =
    same_bytes bytes others (long ∙ sym longer) small smaller (go access.signed h)
  where
    from : ℕ
    from = 8 * access.width

    go : (b : Bool)
        → extend_if b (bits_of access.ty) from (number_of bytes)
        ≡ extend_if b (bits_of access.ty) from (number_of others)
        → number_of bytes ≡ number_of others
    go false e = e
    go true e =
        let t = no_wider op access is in
        let fits : from ≤ bits_of access.ty = grind (arith, nat_tests, t) in
        same_extension (bits_of access.ty) from (pow_mono fits) (number_of bytes) (number_of others)
        (subst (λ n. number_of bytes < 2 ^ (8 * n)) long (number_below bytes small))
        (subst (λ n. number_of others < 2 ^ (8 * n)) longer (number_below others smaller)) e
