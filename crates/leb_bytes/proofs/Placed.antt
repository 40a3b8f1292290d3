-- An encoding in its place is one at the front of what is left.
use Rattle.std.proofs.Common.{◌≡◌, ℕ, ◌+◌, ◌-◌, ◌<◌, ◌≤◌, List, length, take, drop, Option, Some, None, ap, sym, ◌∙◌, subst, arith, length-drop, length-append}
use Rattle.std.proofs.lemmas.List.{drop-drop, take-append-drop}
use Rattle.std.proofs.Math.Seq.{take-append_seam, take-length}
use Rattle.std.proofs.lemmas.Option.{none-some, some_pair_parts}
use Rattle.std.specs.Prelude.{Result, Ok, Err}
use Rattle.leb_bytes.specs.Encoding.{IsReadBy}
use Rattle.leb_bytes.specs.Place.{IsEncodedAt, IsReadFrom}

module _ {A : Type 0} (Encodes : List ℕ → A → Type 0) (first : List ℕ → Option (A × List ℕ)) (reads : IsReadBy Encodes first)
    (bytes : List ℕ) (at : ℕ) where
  -- what is encoded at a place is read there
  pub read_at : (next : ℕ) (x : A) → IsEncodedAt Encodes bytes at next x
      → first (drop at bytes) ≡ Some (x, drop next bytes)
  read_at next x h =
      let place : at + (next - at) ≡ next = omega (arith, h.begins) in
      ap first (sym (take-append-drop (next - at) (drop at bytes)))
      ∙ reads.only (take (next - at) (drop at bytes)) (drop (next - at) (drop at bytes)) x h.encodes
      ∙ ap (λ rest. Some (x, rest)) (drop-drop (next - at) at bytes ∙ ap (λ n. drop n bytes) place)

  -- what is read at a place is encoded there
  pub encoded_at : (next : ℕ) (x : A) → ((front : List ℕ) → Encodes front x → 0 < length front) → at ≤ length bytes
      → next ≤ length bytes
      → first (drop at bytes) ≡ Some (x, drop next bytes) → IsEncodedAt Encodes bytes at next x
  encoded_at next x some inside within e =
      let f = reads.found (drop at bytes) (drop next bytes) x e in
      let front : 0 < length f.0 = some f.0 f.1 in
      let lengths : length bytes - at ≡ length f.0 + (length bytes - next) =
      sym (length-drop at bytes) ∙ ap length f.2 ∙ length-append f.0 (drop next bytes) ∙ ap (λ n. length f.0 + n) (length-drop next bytes) in
      let long : next - at ≡ length f.0 = omega arith in
      let same : take (next - at) (drop at bytes) ≡ f.0 =
      ap (λ n. take n (drop at bytes)) long ∙ ap (take (length f.0)) f.2 ∙ take-append_seam f.0 (drop next bytes) in
      record { begins = omega arith; ends = within; encodes = rw (same) f.1 }

  -- no more than one is encoded there
  pub same_at : {E : Type 0} (e : E) (next other : ℕ) (x y : A) → next ≤ length bytes
      → first (drop at bytes) ≡ Some (x, drop next bytes)
      → IsEncodedAt Encodes bytes at other y → ◌≡◌ {A = Result (A × ℕ) E} (Ok (x, next)) (Ok (y, other))
  same_at e next other x y within read h =
      let parts = some_pair_parts x y (drop next bytes) (drop other bytes) (sym read ∙ read_at other y h) in
      let lengths : length bytes - next ≡ length bytes - other = sym (length-drop next bytes) ∙ ap length parts.1 ∙ length-drop other bytes in
      let place : next ≡ other = omega (arith, h.ends) in
      ap (λ n. Ok (n, next)) parts.0 ∙ ap (λ n. Ok (y, n)) place

  pub none_at : (next : ℕ) (x : A) → first (drop at bytes) ≡ None → IsEncodedAt Encodes bytes at next x → ⊥
  none_at next x none h = none-some _ (sym none ∙ read_at next x h)

  -- reading at a place, if the bytes from the place on are given as a list, and the rest by its own place
  pub front_at : (left : List ℕ) (taken : ℕ) (x : A) → left ≡ drop at bytes → at ≤ length bytes → taken ≤ length left
      → first left ≡ Some (x, drop taken left)
      → (at + taken ≤ length bytes) × (first (drop at bytes) ≡ Some (x, drop (at + taken) bytes))
  front_at left taken x same inside within e = (
    omega (arith, length-drop at bytes, ap length same),
    sym (ap first same) ∙ e ∙ ap (λ rest. Some (x, drop taken rest)) same
        ∙ ap (λ rest. Some (x, rest)) (drop-drop taken at bytes),
  )

-- all that is after a place
pub behind : (bytes : List ℕ) (at : ℕ) → take (length bytes - at) (drop at bytes) ≡ drop at bytes
behind bytes at = ap (λ n. take n (drop at bytes)) (sym (length-drop at bytes)) ∙ take-length (drop at bytes)

-- What is read at a place, by a reader of a front of the bytes; the value may be written otherwise.
pub read_there : {A E : Type 0} (Encodes : List ℕ → A → Type 0) (first : List ℕ → Option (A × List ℕ))
    → IsReadBy Encodes first
    → ((front : List ℕ) (x : A) → Encodes front x → 0 < length front) → E → (bytes : List ℕ) (at taken : ℕ) (x y : A)
    → at ≤ length bytes → taken ≤ length (take (length bytes - at) (drop at bytes))
    → first (take (length bytes - at) (drop at bytes)) ≡ Some (x, drop taken (take (length bytes - at) (drop at bytes)))
    → y ≡ x → IsReadFrom {E = E} Encodes first bytes at (Ok (y, at + taken))
read_there {A} {E} Encodes first reads some e bytes at taken x y inside within is same =
    let p = front_at Encodes first reads bytes at (take (length bytes - at) (drop at bytes)) taken x (behind bytes at) inside within is in
    subst (λ z. IsReadFrom {E = E} Encodes first bytes at (Ok (z, at + taken))) (sym same) (record {
      found = encoded_at Encodes first reads bytes at (at + taken) x (λ front. some front x) inside p.0 p.1;
      only = λ other z. same_at Encodes first reads bytes at e (at + taken) other x z p.0 p.1;
      bad = record {};
      front = p.1;
    })

-- Nothing is read at a place.
pub none_there : {A E : Type 0} (Encodes : List ℕ → A → Type 0) (first : List ℕ → Option (A × List ℕ)) (bad : E)
    → IsReadBy Encodes first → (bytes : List ℕ) (at : ℕ)
    → first (take (length bytes - at) (drop at bytes)) ≡ None → IsReadFrom Encodes first bytes at (Err bad)
none_there Encodes first bad reads bytes at is =
    let none = ap first (sym (behind bytes at)) ∙ is in
    record {
      found = record {};
      only = λ next x h. absurd (none_at Encodes first reads bytes at next x none h);
      bad = λ next x. none_at Encodes first reads bytes at next x none;
      front = none;
    }
