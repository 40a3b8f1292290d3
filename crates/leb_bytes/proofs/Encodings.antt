-- The laws of the three encodings.
use Rattle.std.proofs.Common.{◌≡◌, ℕ, ◌+◌, ◌-◌, ◌*◌, ◌<◌, ◌≤◌, ◌^◌, List, ◌++◌, length, take, drop, Option, Some, None, refl, ap, sym, ◌∙◌, arith, ℤ, FitsSigned, w32, w64, to_z, of_z, subst}
use Rattle.std.proofs.lemmas.Int.{to_z-of_z, of_z-to_z}
use Rattle.std.proofs.lemmas.List.{append_cancel_right}
use Rattle.std.proofs.lemmas.Option.{some_pair_parts}
use Rattle.std.specs.Int.{Width, cast_signed, cast_unsigned}
use Rattle.std.specs.Int.Signed.{mag}
use Rattle.std.specs.Option.{option_map}
use Rattle.std.specs.Prelude.{Ok, Err}
use Rattle.std.proofs.Math.Facts.{Fits-of_z, sfits_to_z}
use mir.Val.{bits, hbits}
use Rattle.base.proofs.Options.{map_some}
use Rattle.leb_bytes.specs.Encoding.{IsPrefixFree, IsReadBy, IsShortest, IsEncoding, IsWithin}
use Rattle.leb_bytes.specs.Place.{IsReadFrom}
use Rattle.leb_bytes.specs.Signed.{EncodesBits, EncodesIn, first_i32, first_i64, first_signed, first_s32, first_s64, i32_bytes, i64_bytes, s64_bytes, signed_bytes}
use Rattle.leb_bytes.specs.Unsigned.{EncodesU32, first_u32, u32_bytes}
use Rattle.leb_bytes.proofs.Placed.{none_there, read_there}
use Rattle.leb_bytes.proofs.SignedLaws.{found_signed, only_signed, range_signed, shortest_signed, least_signed, alone_signed}
use Rattle.leb_bytes.proofs.UnsignedLaws.{found_unsigned, only_unsigned, range_unsigned, shortest_unsigned, least_unsigned, alone_unsigned}

unsigned_fits : (w : Width) (z : ℤ) → FitsSigned w z → cast_unsigned w z < 2 ^ bits w
unsigned_fits w z fits = (Fits-of_z fits).fits

signed_fits : (w : Width) (n : ℕ) → n < 2 ^ bits w → FitsSigned w (cast_signed w n)
signed_fits w n fits = sfits_to_z (record { fits = fits })

-- what a reading function reads has no encoding that begins another
prefix_free : {A : Type 0} (Encodes : List ℕ → A → Type 0) (first : List ℕ → Option (A × List ℕ))
    → IsReadBy Encodes first → IsPrefixFree Encodes
prefix_free Encodes first reads = record {
  one = λ a b x y m n h k e.
      let parts = some_pair_parts m n x y (sym (reads.only a x m h) ∙ ap first e ∙ reads.only b y n k) in
      (append_cancel_right a b y (ap (λ z. a ++ z) (sym parts.1) ∙ e), parts.0);
}

-- what is read, and has shortest encodings, is an encoding
pub encoding_of : {A : Type 0} {Encodes : List ℕ → A → Type 0} {first : List ℕ → Option (A × List ℕ)}
    {InRange : A → Type 0} {short : A → List ℕ}
    → IsReadBy Encodes first → IsShortest Encodes InRange short → IsEncoding Encodes first InRange short
encoding_of {A} {Encodes} {first} read shortest =
    record { prefix_free = prefix_free Encodes first read; read = read; shortest = shortest }

-- ---- u32

pub u32_read : IsReadBy EncodesU32 first_u32
unfolding first_u32
u32_read = record {
  found = λ input rest n e. let f = found_unsigned 32 input rest n e in (f.0, record { unsigned = f.1 }, f.2);
  only = λ bytes rest n h. only_unsigned 32 bytes rest n h.unsigned;
}

pub u32_range : (bytes : List ℕ) (n : ℕ) → EncodesU32 bytes n → (n < 2 ^ 32) × (0 < length bytes) × (length bytes ≤ 5)
u32_range bytes n h = let r = range_unsigned 32 bytes n (omega arith) h.unsigned in (r.0, r.1, omega (arith, r.2))

pub u32_shortest : IsShortest EncodesU32 (λ n. n < 2 ^ 32) u32_bytes
unfolding u32_bytes
u32_shortest = record {
  encodes = λ n fits. record { unsigned = shortest_unsigned 32 4 n fits (omega arith) };
  least = λ bytes n h. least_unsigned 32 4 bytes n h.unsigned;
  alone = λ bytes n h e. alone_unsigned 32 4 bytes n h.unsigned e;
}

-- ---- numbers of a width

-- a number of the width fits ten bytes
pub record IsNarrow (w : Width) : Type 0 where
  pub some : 0 < bits w
  pub half : hbits w ≡ bits w - 1
  pub few : (z : ℤ) → FitsSigned w z → mag z < 2 ^ (6 + 7 * 9)

module _ (w : Width) (is : IsNarrow w) where
  fits_of : (z : ℤ) → mag z < 2 ^ (bits w - 1) → FitsSigned w z
  fits_of z few = record { sfits = subst (λ k. mag z < 2 ^ k) (sym is.half) few }

  signed_read : IsReadBy (EncodesIn w) (λ input. first_signed (bits w) input)
  signed_read = record {
    found = λ input rest z e.
        let f = found_signed (bits w) input rest z e in (f.0, record { signed = f.1 }, f.2);
    only = λ bytes rest z h. only_signed (bits w) bytes rest z h.signed;
  }

  signed_range : (bytes : List ℕ) (z : ℤ) → EncodesIn w bytes z
      → FitsSigned w z × (0 < length bytes) × (7 * length bytes < bits w + 7)
  signed_range bytes z h =
      let r = range_signed (bits w) bytes z is.some h.signed in (fits_of z r.0, r.1, r.2)

  signed_shortest : IsShortest (EncodesIn w) (λ z. FitsSigned w z) (λ z. signed_bytes 9 z)
  signed_shortest = record {
    encodes = λ z fits. record { signed = shortest_signed (bits w) 9 z (subst (λ k. mag z < 2 ^ k) is.half fits.sfits) (is.few z fits) };
    least = λ bytes z h. least_signed (bits w) 9 bytes z h.signed;
    alone = λ bytes z h e. alone_signed (bits w) 9 bytes z h.signed e;
  }

  -- what is read fits the width
  pub read_fits : (input rest : List ℕ) (z : ℤ) → first_signed (bits w) input ≡ Some (z, rest) → FitsSigned w z
  read_fits input rest z e =
      let f = found_signed (bits w) input rest z e in
      fits_of z (range_signed (bits w) f.0 z is.some f.1).0

  -- integers by their bits
  of_signed : (bytes : List ℕ) (z : ℤ) → EncodesIn w bytes z → EncodesBits w bytes (cast_unsigned w z)
  of_signed bytes z h =
      let fits = (signed_range bytes z h).0 in
      record {
        in_range = unsigned_fits w z fits;
        signed = subst (λ y. EncodesIn w bytes y) (sym (to_z-of_z w z fits)) h;
      }

  bits_read : IsReadBy (EncodesBits w)
      (λ input. option_map (λ (read : ℤ × List ℕ). (cast_unsigned w read.0, read.1)) (first_signed (bits w) input))
  bits_read = record {
    found = λ input rest n e.
        let read = map_some (λ (read : ℤ × List ℕ). (cast_unsigned w read.0, read.1)) (first_signed (bits w) input) (n, rest) e in
        let f = signed_read.found input read.0.1 read.0.0 read.1 in
        let number : cast_unsigned w read.0.0 ≡ n = ap (λ (p : ℕ × List ℕ). p.0) read.2 in
        let behind : read.0.1 ≡ rest = ap (λ (p : ℕ × List ℕ). p.1) read.2 in
        (f.0, subst (λ b. EncodesBits w f.0 b) number (of_signed f.0 read.0.0 f.1), f.2 ∙ ap (λ x. f.0 ++ x) behind);
    only = λ bytes rest n h.
        ap (option_map (λ (read : ℤ × List ℕ). (cast_unsigned w read.0, read.1))) (signed_read.only bytes rest (cast_signed w n) h.signed)
        ∙ ap (λ b. Some (b, rest)) (of_z-to_z w n h.in_range);
  }

  bits_shortest : IsShortest (EncodesBits w) (λ n. n < 2 ^ bits w) (λ n. signed_bytes 9 (cast_signed w n))
  bits_shortest = record {
    encodes = λ n fits. record {
      in_range = fits;
      signed = signed_shortest.encodes (cast_signed w n) (signed_fits w n fits);
    };
    least = λ bytes n h. signed_shortest.least bytes (cast_signed w n) h.signed;
    alone = λ bytes n h e. signed_shortest.alone bytes (cast_signed w n) h.signed e;
  }

-- all that holds of the encodings of a width, in at most `most` bytes
pub record AreLaws (w : Width) (most : ℕ) (first : List ℕ → Option (ℤ × List ℕ))
    (first_bits : List ℕ → Option (ℕ × List ℕ)) (bits_bytes : ℕ → List ℕ) : Type 0 where
  pub is : (input : List ℕ) → first_signed (bits w) input ≡ first input
  pub range : IsWithin (EncodesIn w) (λ z. FitsSigned w z) most
  pub signed : IsEncoding (EncodesIn w) first (λ z. FitsSigned w z) s64_bytes
  pub by_signed : (bytes : List ℕ) (z : ℤ) → EncodesIn w bytes z → EncodesBits w bytes (cast_unsigned w z)
  pub integers : IsEncoding (EncodesBits w) first_bits (λ n. n < 2 ^ bits w) bits_bytes

laws_of : (w : Width) → IsNarrow w → (most : ℕ) → ((count : ℕ) → 7 * count < bits w + 7 → count ≤ most)
    → AreLaws w most (λ input. first_signed (bits w) input)
    (λ input. option_map (λ (read : ℤ × List ℕ). (cast_unsigned w read.0, read.1)) (first_signed (bits w) input))
    (λ n. signed_bytes 9 (cast_signed w n))
unfolding s64_bytes
laws_of w is most few = record {
  is = λ input. refl;
  range = λ bytes z h. let r = signed_range w is bytes z h in (r.0, r.1, few (length bytes) r.2);
  signed = encoding_of (signed_read w is) (signed_shortest w is);
  by_signed = of_signed w is;
  integers = encoding_of (bits_read w is) (bits_shortest w is);
}

pub narrow_32 : IsNarrow w32
narrow_32 = record { some = omega arith; half = refl; few = λ z fits. omega (arith, fits.sfits) }

pub laws_32 : AreLaws w32 5 first_s32 first_i32 i32_bytes
unfolding first_s32 first_i32 i32_bytes s64_bytes
laws_32 = laws_of w32 narrow_32 5 (λ count few. omega (arith, few))

pub narrow_64 : IsNarrow w64
narrow_64 = record { some = omega arith; half = refl; few = λ z fits. omega (arith, fits.sfits) }

pub laws_64 : AreLaws w64 10 first_s64 first_i64 i64_bytes
unfolding first_s64 first_i64 i64_bytes s64_bytes
laws_64 = laws_of w64 narrow_64 10 (λ count few. omega (arith, few))

-- ---- what is read at a place

-- casts leave what fits 32 bits as it is
pub same_64 : (z : ℤ) → FitsSigned w32 z → to_z w64 (of_z w64 z) ≡ z
same_64 z fits = to_z-of_z w64 z (record { sfits = omega (arith, fits.sfits) })

pub cast_32 : (z : ℤ) → FitsSigned w32 z → to_z w32 (of_z w32 (to_z w64 (of_z w64 z))) ≡ z
cast_32 z fits = ap (λ x. to_z w32 (of_z w32 x)) (same_64 z fits) ∙ to_z-of_z w32 z fits

module _ {E : Type 0} {w : Width} {most : ℕ} {first : List ℕ → Option (ℤ × List ℕ)}
    {first_bits : List ℕ → Option (ℕ × List ℕ)} {bits_bytes : ℕ → List ℕ}
    (laws : AreLaws w most first first_bits bits_bytes) (bad : E) (bytes : List ℕ) (at : ℕ) where
  -- a number, which casts leave as it is
  pub number_there : (taken : ℕ) (z y : ℤ) → at ≤ length bytes → taken ≤ length (take (length bytes - at) (drop at bytes))
      → first_signed (bits w) (take (length bytes - at) (drop at bytes))
      ≡ Some (z, drop taken (take (length bytes - at) (drop at bytes)))
      → y ≡ z → IsReadFrom {E = E} (EncodesIn w) first bytes at (Ok (y, at + taken))
  number_there taken z y inside within is same =
      read_there (EncodesIn w) first laws.signed.read (λ front x h. (laws.range front x h).1) bad bytes at taken z y
      inside within (sym (laws.is (take (length bytes - at) (drop at bytes))) ∙ is) same

  pub no_number : first_signed (bits w) (take (length bytes - at) (drop at bytes)) ≡ None
      → IsReadFrom (EncodesIn w) first bytes at (Err bad)
  no_number is =
      none_there (EncodesIn w) first bad laws.signed.read bytes at
      (sym (laws.is (take (length bytes - at) (drop at bytes))) ∙ is)
