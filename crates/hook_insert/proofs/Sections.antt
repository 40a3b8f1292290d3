-- The sections of the name, looked through one by one, and their bytes.
use Rattle.std.proofs.Common.{◌≡◌, ℕ, ◌+◌, ◌<◌, ◌≤◌, List, [], ◌∷◌, ◌++◌, length, drop, Option, Some, None, Bool, true, false, cond, nat_eq, take, ◌&&◌, inl, inr, ◌%◌, ◌/◌, ◌^◌, refl, ap, sym, ◌∙◌, arith}
use Rattle.std.proofs.lemmas.Bool.Decides.{nat_tests}
use Rattle.std.specs.Prelude.{filter, bytes_eq}
use Rattle.std.proofs.lemmas.List.{drop_more, drop_all, length-drop, length-take-le, take-append-drop}
use Rattle.std.proofs.lemmas.Bool.{cases_lt}
use Rattle.record_replay_spec.specs.HookedForm.{HookedForm}
use Rattle.std.proofs.lemmas.Slice.Eq.{bytes_eq-Decides}
use Rattle.base.proofs.Booleans.{same_tests}
use Rattle.wasm_syntax.specs.declared.modules.Custom.{Custom}
use Rattle.record_replay_spec.specs.Instrumented.{section_name}
use Rattle.leb_bytes.specs.Unsigned.{u32_bytes}
use Rattle.leb_bytes.proofs.UnsignedLaws.{u32-last, u32-more}
use Rattle.hook_insert.specs.Forms.{begins_with, left_after}

-- the custom sections of the name
abbrev pub named : List Custom → List Custom
named customs = filter (λ (custom : Custom). bytes_eq custom.name section_name) customs

-- a form with these parts
abbrev pub form : (digest : List ℕ) → (imports defined : ℕ) → HookedForm
form digest imports defined = record { digest = digest; imports = imports; defined = defined }

-- ---- bytes after others

-- a first byte, and what comes after it
pub first_byte : (f : ℕ) (front bytes : List ℕ) (at : ℕ) → at ≤ length bytes
    → left_after (f ∷ front) (drop at bytes)
    ≡ cond (begins_with f (drop at bytes)) (left_after front (drop (at + 1) bytes)) None
first_byte f front bytes at within = elim (cases_lt at (length bytes)) [
  | inl less ↦ rw (drop_more bytes at 0 less) refl
  | inr past ↦ rw (drop_all at bytes past) refl
]

pub is_there : (f : ℕ) (bytes : List ℕ) (at : ℕ) → begins_with f (drop at bytes) ≡ true → at < length bytes
is_there f bytes at first = elim (cases_lt at (length bytes)) [
  | inl less ↦ less
  | inr past ↦ absurd (none (ap (begins_with f) (sym (drop_all at bytes past)) ∙ first))
]
  where
    none : false ≡ true → ⊥
    none h = cc

-- a number's encoding, a byte at a time
module _ (n : ℕ) (bytes : List ℕ) (at : ℕ) (found : Bool) (within : at ≤ length bytes) where
  pub byte_more : 2 ^ 7 ≤ n → n < 2 ^ 32 → found ≡ begins_with (n % 2 ^ 7 + 2 ^ 7) (drop at bytes)
      → left_after (u32_bytes n) (drop at bytes)
      ≡ cond found (left_after (u32_bytes (n / 2 ^ 7)) (drop (at + 1) bytes)) None
  byte_more large fits is =
      ap (λ front. left_after front (drop at bytes)) (u32-more n large fits)
      ∙ first_byte (n % 2 ^ 7 + 2 ^ 7) (u32_bytes (n / 2 ^ 7)) bytes at within
      ∙ ap (λ t. cond t (left_after (u32_bytes (n / 2 ^ 7)) (drop (at + 1) bytes)) None) (sym is)

  pub byte_last : n < 2 ^ 7 → found ≡ begins_with n (drop at bytes)
      → left_after (u32_bytes n) (drop at bytes) ≡ cond found (Some (drop (at + 1) bytes)) None
  byte_last small is =
      ap (λ front. left_after front (drop at bytes)) (u32-last n small)
      ∙ first_byte n [] bytes at within
      ∙ ap (λ t. cond t (Some (drop (at + 1) bytes)) None) (sym is)

-- bytes are left after a prefix if and only if the bytes are the prefix and those bytes
pub both : (front bytes rest : List ℕ) → left_after front bytes ≡ Some rest → bytes ≡ front ++ rest
both [] bytes rest h = cc
both (f ∷ front) [] rest h = cc
both (f ∷ front) (b ∷ bytes) rest h = grind (arith, nat_tests, h, both front bytes rest)

pub left_of : (front rest : List ℕ) → left_after front (front ++ rest) ≡ Some rest
left_of [] rest = refl
left_of (f ∷ front) rest = grind (arith, nat_tests, left_of front rest)

same_some : (xs ys : List ℕ) → Some xs ≡ Some ys → xs ≡ ys
same_some xs ys h = cc

none_some : (xs : List ℕ) → None ≡ Some xs → false ≡ true
none_some xs h = cc

from_false : (b : Bool) → false ≡ true → b ≡ true
from_false b h = cc

-- bytes that do not begin with a prefix are not the prefix and others
pub eq_none : (front back bytes : List ℕ) → left_after front bytes ≡ None → false ≡ bytes_eq bytes (front ++ back)
eq_none front back bytes none =
    same_tests false (bytes_eq bytes (front ++ back)) (from_false (bytes_eq bytes (front ++ back)))
    (λ e. none_some back (sym none ∙ ap (left_after front) ((bytes_eq-Decides bytes (front ++ back)).0 e) ∙ left_of front back))

-- bytes that begin with a prefix are the prefix and others if and only if those others are left
pub eq_some : (front back bytes rest : List ℕ) → left_after front bytes ≡ Some rest
    → bytes_eq rest back ≡ bytes_eq bytes (front ++ back)
eq_some front back bytes rest some =
    same_tests (bytes_eq rest back) (bytes_eq bytes (front ++ back))
    (λ e. (bytes_eq-Decides bytes (front ++ back)).1
    (both front bytes rest some ∙ ap (λ xs. front ++ xs) ((bytes_eq-Decides rest back).0 e)))
    (λ e. (bytes_eq-Decides rest back).1
    (same_some rest back (sym some ∙ ap (left_after front) ((bytes_eq-Decides bytes (front ++ back)).0 e) ∙ left_of front back)))

-- a place is the length of the bytes if and only if no byte is left from there on
pub eq_end : (bytes : List ℕ) («end» : ℕ) → «end» ≤ length bytes → nat_eq «end» (length bytes) ≡ bytes_eq (drop «end» bytes) []
eq_end bytes «end» within =
    same_tests (nat_eq «end» (length bytes)) (bytes_eq (drop «end» bytes) [])
    (λ e. (bytes_eq-Decides (drop «end» bytes) []).1 (drop_all «end» bytes (whole e)))
    (λ e. last (ap length ((bytes_eq-Decides (drop «end» bytes) []).0 e)))
  where
    whole : nat_eq «end» (length bytes) ≡ true → length bytes ≤ «end»
    whole e = grind (arith, nat_tests)

    last : length (drop «end» bytes) ≡ 0 → nat_eq «end» (length bytes) ≡ true
    last e = let l = length-drop «end» bytes in let same : «end» ≡ length bytes = omega (arith, l, e, within) in grind (arith, nat_tests, same)

-- bytes of a section: a digest, and numbers after it
pub whole_section : (bytes numbers : List ℕ) (most : ℕ) (found : Bool) → most ≤ length bytes
    → found ≡ bytes_eq (drop most bytes) numbers
    → (nat_eq (length (take most bytes)) most && bytes_eq bytes (take most bytes ++ numbers)) ≡ found
whole_section bytes numbers most found within is =
    ap (λ t. t && bytes_eq bytes (take most bytes ++ numbers)) long
    ∙ sym (eq_some (take most bytes) numbers bytes (drop most bytes)
    (ap (left_after (take most bytes)) (sym (take-append-drop most bytes)) ∙ left_of (take most bytes) (drop most bytes)))
    ∙ sym is
  where
    long : nat_eq (length (take most bytes)) most ≡ true
    long = let l = length-take-le most bytes within in grind (arith, nat_tests, l)

-- what a section's bytes declare
abbrev pub form_of_bytes : (bytes numbers : List ℕ) → (imports defined : ℕ) → Option HookedForm
form_of_bytes bytes numbers imports defined =
    cond (nat_eq (length (take 32 bytes)) 32 && bytes_eq bytes (take 32 bytes ++ numbers))
    (Some (form (take 32 bytes) imports defined)) None

module _ (bytes numbers : List ℕ) (imports defined : ℕ) (within : 32 ≤ length bytes) where
  pub form_there : (digest : List ℕ) (found : Bool) → digest ≡ take 32 bytes
      → found ≡ bytes_eq (drop 32 bytes) numbers → found ≡ true
      → Some (form digest imports defined) ≡ form_of_bytes bytes numbers imports defined
  form_there digest found same is found_it =
      ap (λ d. Some (form d imports defined)) same
      ∙ ap (λ t. cond t (Some (form (take 32 bytes) imports defined)) None)
      (sym (whole_section bytes numbers 32 found within is ∙ found_it))

  pub form_none : (found : Bool) → found ≡ bytes_eq (drop 32 bytes) numbers → found ≡ false
      → None ≡ form_of_bytes bytes numbers imports defined
  form_none found is not_found =
      ap (λ t. cond t (Some (form (take 32 bytes) imports defined)) None)
      (sym (whole_section bytes numbers 32 found within is ∙ not_found))
