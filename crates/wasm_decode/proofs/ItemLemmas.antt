-- Reading items one after another, as a loop does.
use Rattle.std.proofs.Common.{◌≡◌, ℕ, suc, ◌-◌, ◌+◌, ◌≤◌, ◌<◌, List, [], ◌∷◌, ◌++◌, Option, Some, None, refl, sym, ap, ◌∙◌, append_assoc, arith}
use Rattle.std.proofs.lemmas.List.{append-nil}
use Rattle.std.specs.Prelude.{option_map}
use Rattle.wasm_syntax.specs.Encoding.Combinators.{Reader, first_items}
use Rattle.leb_bytes.specs.declared.unread.Unread.{Unread}
use Rattle.leb_bytes.specs.declared.unread.Unread.TheVariants.{NotThere, Memory}
use Rattle.leb_bytes.specs.ReadResults.{Misses}

-- what was read before, and what is still read
abbrev pub with_front : {A : Type 0} → List A → Option (List A × List ℕ) → Option (List A × List ℕ)
with_front front read = option_map (λ others. (front ++ others.0, others.1)) read

pub regroup : {A : Type 0} (front : List A) (x : A) (read : Option (List A × List ℕ))
    → with_front front (option_map (λ others. (x ∷ others.0, others.1)) read) ≡ with_front (front ++ x ∷ []) read
regroup front x None = refl
regroup {A} front x (Some others) = ap (λ (xs : List A). Some (xs, others.1)) (simp append_assoc)

pub goes_on : {A : Type 0} (read : Reader A) (front : List A) (count i : ℕ) (bytes : List ℕ) (x : A) (rest : List ℕ)
    (all : Option (List A × List ℕ))
    → i < count → read bytes ≡ Some (x, rest)
    → with_front front (first_items read (count - i) bytes) ≡ all
    → with_front (front ++ x ∷ []) (first_items read (count - (i + 1)) rest) ≡ all
goes_on read front count i bytes x rest all lt h so_far =
    let k : count - i ≡ suc (count - (i + 1)) = omega arith in
    let one : with_front front (first_items read (count - i) bytes)
    ≡ with_front (front ++ x ∷ []) (first_items read (count - (i + 1)) rest) = rw (k, h)
    (regroup front x (first_items read (count - (i + 1)) rest)) in
    sym one ∙ so_far

pub misses : {A : Type 0} (read : Reader A) (unread : Unread) (front : List A) (count i : ℕ) (bytes : List ℕ)
    (all : Option (List A × List ℕ))
    → i < count → Misses unread (read bytes)
    → with_front front (first_items read (count - i) bytes) ≡ all → Misses unread all
misses read Memory front count i bytes all lt h so_far = tt
misses read NotThere front count i bytes all lt h so_far =
    let k : count - i ≡ suc (count - (i + 1)) = omega arith in
    let one : with_front front (first_items read (count - i) bytes) ≡ None = rw (k, h) refl in
    sym so_far ∙ one

pub ends : {A : Type 0} (read : Reader A) (front : List A) (count i : ℕ) (bytes : List ℕ)
    (all : Option (List A × List ℕ))
    → count ≤ i → with_front front (first_items read (count - i) bytes) ≡ all → all ≡ Some (front, bytes)
ends {A} read front count i bytes all le so_far =
    let k : count - i ≡ 0 = omega arith in
    let one : with_front front (first_items read (count - i) bytes)
    ≡ Some (front, bytes) = rw k (ap (λ (xs : List A). Some (xs, bytes)) (append-nil front)) in
    sym so_far ∙ one
