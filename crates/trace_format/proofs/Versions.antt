-- The version in a file's header.
use Rattle.std.proofs.Common.{◌≡◌, ℕ, true, false, cond, List, [], ◌∷◌, ◌++◌, Some, None, refl, ap, sym, ◌∙◌, subst, append_assoc, eq-eqb, inl, inr}
use Rattle.std.specs.Prelude.{nat_eq, option_and_then}
use Rattle.std.proofs.lemmas.Bool.{cases_eq, ne_eqb}
use Rattle.std.proofs.lemmas.Option.{none-some, same_Some}
use Rattle.base.proofs.Options.{and_then_some, cond_none_some}
use Rattle.wasm_syntax.specs.Encoding.Combinators.{first_exactly}
use Rattle.wasm_syntax.proofs.Encoding.Tools.{exactly_is}
use Rattle.leb_bytes.specs.Unsigned.{u32_bytes}
use Rattle.trace_model.specs.declared.events.Log.{Log}
use Rattle.trace_model.specs.declared.tapes.Tape.{Tape}
use Rattle.trace_bytes.specs.declared.tags.TheConstants.{LOG_MAGIC, TAPE_MAGIC, VERSION_1, VERSION_2}
use Rattle.trace_bytes.specs.Spelling.{header_bytes, log_bytes, tape_bytes}
use Rattle.trace_bytes.specs.Spelled.{IsVersion}
use Rattle.trace_format.specs.Faults.{IsLogOf, IsOtherVersion, IsTapeOf}
use Rattle.trace_format.specs.Reading.{other_version, version_at}

false_true : false ≡ true → ⊥
false_true e = cc

not_version : (found : ℕ) → nat_eq found VERSION_1 ≡ false → nat_eq found VERSION_2 ≡ false → IsVersion found → ⊥
not_version found first second is = elim is [
  | inl one ↦ false_true (sym first ∙ eq-eqb found VERSION_1 one)
  | inr two ↦ false_true (sym second ∙ eq-eqb found VERSION_2 two)
]

version_found : (rest : List ℕ) (found : ℕ) → version_at rest ≡ Some found
    → (more : List ℕ) × (rest ≡ found ∷ more) × (IsVersion found → ⊥)
version_found [] found e = absurd (none-some found e)
version_found (b ∷ more) found e =
    let one = cond_none_some (nat_eq b VERSION_1) (cond (nat_eq b VERSION_2) None (Some b)) found e in
    let two = cond_none_some (nat_eq b VERSION_2) (Some b) found one.1 in
    let same = same_Some b found two.1 in
    (more, ap (λ x. x ∷ more) same, subst (λ x. IsVersion x → ⊥) same (not_version b one.0 two.0))

-- `other_version` finds the fifth byte if and only if it is not a known version
pub other_is : (magic bytes : List ℕ) (found : ℕ) → other_version magic bytes ≡ Some found → IsOtherVersion magic bytes found
other_is magic bytes found e =
    let b = and_then_some (first_exactly magic bytes) (λ (after : Unit {0} × List ℕ). version_at after.1) found e in
    let f = (exactly_is magic).found bytes b.0.1 b.0.0 b.1 in
    let v = version_found b.0.1 found b.2 in
    record { rest = v.0; begins = f.2 ∙ ap (λ r. r ++ b.0.1) f.1 ∙ ap (λ r. magic ++ r) v.1; other = v.2 }

at_version : (found : ℕ) (rest : List ℕ) → (IsVersion found → ⊥) → version_at (found ∷ rest) ≡ Some found
at_version found rest other =
    let one : nat_eq found VERSION_1 ≡ false = elim (cases_eq found VERSION_1) [
      | inl same ↦ absurd (other (inl same))
      | inr apart ↦ ne_eqb found VERSION_1 apart
    ] in
    let two : nat_eq found VERSION_2 ≡ false = elim (cases_eq found VERSION_2) [
      | inl same ↦ absurd (other (inr same))
      | inr apart ↦ ne_eqb found VERSION_2 apart
    ] in
    rw (one, two) refl

pub is_other : (magic bytes : List ℕ) (found : ℕ) → IsOtherVersion magic bytes found → other_version magic bytes ≡ Some found
is_other magic bytes found is =
    ap (other_version magic) is.begins
    ∙ ap (option_and_then (λ (after : Unit {0} × List ℕ). version_at after.1)) ((exactly_is magic).only magic (found ∷ is.rest) tt refl)
    ∙ at_version found is.rest is.other

-- the byte after the magic number is unique
pub fifth_same : (magic rest more : List ℕ) (a b : ℕ) → magic ++ a ∷ rest ≡ magic ++ b ∷ more → a ≡ b
fifth_same [] rest more a b h = cc
fifth_same (m ∷ ms) rest more a b h =
    let later : ms ++ a ∷ rest ≡ ms ++ b ∷ more = cc in
    fifth_same ms rest more a b later

-- a file of a known version is not of an unknown one
pub version_is : (magic bytes digest later : List ℕ) (version found : ℕ) → IsVersion version
    → bytes ≡ header_bytes magic version digest ++ later → IsOtherVersion magic bytes found → ⊥
version_is magic bytes digest later version found is parts other =
    let same = fifth_same magic (digest ++ later) other.rest version found
    (sym (append_assoc magic (version ∷ digest) later) ∙ sym parts ∙ other.begins) in
    other.other (subst IsVersion same is)

-- a log is not of an unknown version; a tape is not of an unknown version
pub log_version : (bytes : List ℕ) (content : List ℕ × Log) (found : ℕ) → IsLogOf bytes content.0 content.1
    → IsOtherVersion LOG_MAGIC bytes found → ⊥
unfolding log_bytes
log_version bytes content found is other =
    version_is LOG_MAGIC bytes content.0 _ is.0 found is.1.is_version
    (is.1.spelled ∙ append_assoc (header_bytes LOG_MAGIC is.0 content.0) (u32_bytes content.1.imports) _) other

pub tape_version : (bytes : List ℕ) (content : List ℕ × Tape) (found : ℕ) → IsTapeOf bytes content.0 content.1
    → IsOtherVersion TAPE_MAGIC bytes found → ⊥
unfolding tape_bytes
tape_version bytes content found is other =
    version_is TAPE_MAGIC bytes content.0 _ is.0 found is.1.is_version is.1.spelled other
