-- What holds of the encodings of numbers and names, and of their readers.
use Rattle.std.proofs.Common.{◌≡◌, ℕ, ◌<◌, ◌≤◌, ◌^◌, ◌%◌, true, false, cond, ltb, List, ◌++◌, length, take, drop, get_or, Some, None, refl, ap, sym, ◌∙◌, subst, arith, inl, inr}
use Rattle.std.specs.Prelude.{option_and_then, nat_lt}
use Rattle.std.specs.Int.{Width, w32, w64, byte_len, to_le_bytes, from_le_bytes}
use Rattle.std.specs.Str.{is_utf8}
use Rattle.std.specs.List.{list_all}
use Rattle.std.proofs.lemmas.Bool.{ltb-false, ltb-true, le-ltb, lt-ltb, cases_lt}
use Rattle.std.proofs.lemmas.Nat.{le_bytes_4, le_bytes_8, from_le_bytes-to_le_bytes_4, from_le_bytes-to_le_bytes_8}
use Rattle.std.proofs.lemmas.List.{take_at, drop_at, take-append-drop, length-append, length-take, get_or_past}
use Rattle.std.proofs.lemmas.List.Sums.{AllPass-from_list_all}
use Rattle.std.proofs.lemmas.Option.{some_pair_parts, same_Some}
use Rattle.std.proofs.lemmas.Str.{IsUtf8-from_is_utf8, is_utf8-from_IsUtf8}
use Rattle.base.proofs.Options.{and_then_some, cond_some, cond_none_some}
use Rattle.leb_bytes.specs.Encoding.{IsReadBy}
use Rattle.leb_bytes.specs.Unsigned.{EncodesU32, first_u32}
use Rattle.wasm_syntax.specs.Encoding.Grammar.{Raw}
use Rattle.wasm_syntax.specs.Encoding.Types.{EncodesF32, EncodesF64, EncodesBytes, EncodesName, EncodesIndices}
use Rattle.wasm_syntax.specs.Encoding.Readers.{first_raw, where_bytes, first_f32, first_f64, first_bytes, first_name, first_indices}
pub use Rattle.wasm_syntax.specs.Encoding.Laws.{NumberLaws}
use Rattle.wasm_syntax.proofs.Encoding.Lists.{IsReadWhole, vector_is, sized_is}

-- ---- the bits of floats

-- what is known of numbers of four and of eight bytes
record IsWide (w : Width) (limit : ℕ) : Type 0 where
  len : (n : ℕ) → length (to_le_bytes w n) ≡ byte_len w
  back : (bytes : List ℕ) → length bytes ≡ byte_len w → ((i : ℕ) → get_or bytes i 0 < 256)
      → to_le_bytes w (from_le_bytes w bytes) ≡ bytes
  again : (n : ℕ) → n < limit → from_le_bytes w (to_le_bytes w n) ≡ n
  below : (bytes : List ℕ) → ((i : ℕ) → get_or bytes i 0 < 256) → from_le_bytes w bytes < limit
  small : (n : ℕ) → list_all (λ b. nat_lt b (2 ^ 8)) (to_le_bytes w n) ≡ true

byte_below : (n : ℕ) → ltb (n % 256) 256 ≡ true
byte_below n = lt-ltb (n % 256) 256 (omega arith)

wide32 : IsWide w32 (2 ^ 32)
wide32 = record {
  len = λ n. refl;
  back = λ bytes len fits. le_bytes_4 bytes _ len fits refl;
  again = λ n lt. from_le_bytes-to_le_bytes_4 n lt;
  below = λ bytes fits. omega (arith, fits 0, fits 1, fits 2, fits 3);
  small = λ n. simp byte_below;
}

wide64 : IsWide w64 (2 ^ 64)
wide64 = record {
  len = λ n. refl;
  back = λ bytes len fits. le_bytes_8 bytes _ len fits refl;
  again = λ n lt. from_le_bytes-to_le_bytes_8 n lt;
  below = λ bytes fits. omega (arith, fits 0, fits 1, fits 2, fits 3, fits 4, fits 5, fits 6, fits 7);
  small = λ n. simp byte_below;
}

each_byte : (bytes : List ℕ) → list_all (λ b. nat_lt b (2 ^ 8)) bytes ≡ true → (i : ℕ) → get_or bytes i 0 < 256
each_byte bytes all i = elim (cases_lt i (length bytes)) [
  | inl inside ↦ ltb-true _ _ (AllPass-from_list_all (λ b. nat_lt b (2 ^ 8)) bytes all i 0 inside)
  | inr past ↦ rw (get_or_past bytes i 0 past) (omega arith)
]

abbrev LittleEndian : Width → ℕ → List ℕ → ℕ → Type 0
LittleEndian w limit bytes n = (n < limit) × (bytes ≡ to_le_bytes w n)

le_found : (w : Width) (limit : ℕ) → IsWide w limit → (input rest : List ℕ) (n : ℕ)
    → option_and_then (where_bytes (from_le_bytes w)) (first_raw (byte_len w) input) ≡ Some (n, rest)
    → (bytes : List ℕ) × LittleEndian w limit bytes n × (input ≡ bytes ++ rest)
le_found w limit wide input rest n e =
    let b = and_then_some (first_raw (byte_len w) input) (where_bytes (from_le_bytes w)) (n, rest) e in
    let g = cond_none_some (nat_lt (length input) (byte_len w)) (Some (take (byte_len w) input, drop (byte_len w) input)) b.0 b.1 in
    let raw = some_pair_parts (take (byte_len w) input) b.0.0 (drop (byte_len w) input) b.0.1 g.1 in
    let s = cond_some (list_all (λ b. nat_lt b (2 ^ 8)) b.0.0) (Some (from_le_bytes w b.0.0, b.0.1)) (n, rest) b.2 in
    let parts = some_pair_parts (from_le_bytes w b.0.0) n b.0.1 rest s.1 in
    let long : byte_len w ≤ length input = ltb-false (length input) (byte_len w) g.0 in
    let count : length b.0.0 ≡ byte_len w = ap length (sym raw.0) ∙ omega (arith, length-take (byte_len w) input) in
    let small = each_byte b.0.0 s.0 in
    let here : to_le_bytes w n ≡ b.0.0 = ap (to_le_bytes w) (sym parts.0) ∙ wide.back b.0.0 count small in (
      b.0.0,
      (subst (λ k. k < limit) parts.0 (wide.below b.0.0 small), sym here),
      sym (take-append-drop (byte_len w) input) ∙ ap (λ r. r ++ drop (byte_len w) input) raw.0
          ∙ ap (λ r. b.0.0 ++ r) (raw.1 ∙ parts.1),
    )

le_only : (w : Width) (limit : ℕ) → IsWide w limit → (bytes rest : List ℕ) (n : ℕ) → LittleEndian w limit bytes n
    → option_and_then (where_bytes (from_le_bytes w)) (first_raw (byte_len w) (bytes ++ rest)) ≡ Some (n, rest)
le_only w limit wide bytes rest n h =
    let text = to_le_bytes w n in
    let long : nat_lt (length (text ++ rest)) (byte_len w) ≡ false = le-ltb _ _ (omega (arith, length-append text rest, wide.len n)) in
    rw (h.1, long, take_at text rest (byte_len w) (wide.len n), drop_at text rest (byte_len w) (wide.len n), wide.small n, wide.again n h.0) refl

pub f32_is : IsReadBy EncodesF32 first_f32
unfolding first_f32
f32_is = record {
  found = λ input rest n e. let f = le_found w32 (2 ^ 32) wide32 input rest n e in (f.0, record { in_range = f.1.0; little_endian = f.1.1 }, f.2);
  only = λ bytes rest n h. le_only w32 (2 ^ 32) wide32 bytes rest n (h.in_range, h.little_endian);
}

pub f64_is : IsReadBy EncodesF64 first_f64
unfolding first_f64
f64_is = record {
  found = λ input rest n e. let f = le_found w64 (2 ^ 64) wide64 input rest n e in (f.0, record { in_range = f.1.0; little_endian = f.1.1 }, f.2);
  only = λ bytes rest n h. le_only w64 (2 ^ 64) wide64 bytes rest n (h.in_range, h.little_endian);
}

-- ---- bytes, names, indices

raw_is : IsReadWhole Raw Some
raw_is = record { found = λ bytes x e. same_Some bytes x e; only = λ bytes x h. ap Some h }

pub bytes_is : NumberLaws → IsReadBy EncodesBytes first_bytes
unfolding first_bytes
bytes_is laws = let is = sized_is laws.u32 Raw Some raw_is in record { found = is.found; only = is.only }

pub name_is : NumberLaws → IsReadBy EncodesName first_name
unfolding first_name
name_is laws = record {
  found = λ input rest name e.
      let b = and_then_some (first_bytes input) (λ (first : List ℕ × List ℕ). cond (is_utf8 first.0) (Some first) None) (name, rest) e in
      let g = cond_some (is_utf8 b.0.0) (Some b.0) (name, rest) b.2 in
      let parts = some_pair_parts b.0.0 name b.0.1 rest g.1 in
      let f = (bytes_is laws).found input b.0.1 b.0.0 b.1 in
      let text : EncodesName f.0 b.0.0 = record { is_text = IsUtf8-from_is_utf8 b.0.0 g.0; encoded = f.1 } in
      (f.0, subst (λ n. EncodesName f.0 n) parts.0 text, f.2 ∙ ap (λ r. f.0 ++ r) parts.1);
  only = λ bytes rest name h.
      rw ((bytes_is laws).only bytes rest name h.encoded, is_utf8-from_IsUtf8 name h.is_text) refl;
}

pub indices_is : NumberLaws → IsReadBy EncodesIndices first_indices
unfolding first_indices
indices_is laws = let is = vector_is laws.u32 EncodesU32 first_u32 laws.u32 in record { found = is.found; only = is.only }
