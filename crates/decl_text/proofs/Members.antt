-- What is found under different keys of an object is no more than all its members.
use Rattle.std.proofs.Common.{◌≡◌, ℕ, ◌+◌, ◌≤◌, ◌⊎◌, inl, inr, List, length, Option, Some, None, Ordering, Less, Equal, Greater, nat_cmp, refl, sym, ap, ◌∙◌, arith}
use Rattle.std.specs.Ordering.{match_ordering}
use Rattle.std.specs.Cmp.Lexicographic.{slice_cmp}
use Rattle.std.proofs.lemmas.Map.Lookups.{exact_bytes}
use Rattle.serde_json.specs.Data.{Data, Members, no_members, member}
use Rattle.serde_json.specs.Find.{get_member}
use Rattle.decl_text.specs.DataSizes.{data_size, members_size}

-- the size of what is found under a key, with the key
abbrev pub found_size : List ℕ → Option Data → ℕ
found_size k None = 0
found_size k (Some d) = 1 + length k + data_size d

-- the first member is what is found, or it is passed
here_or_later : (k l : List ℕ) (e : Data) (ms : Members)
    → ((k ≡ l) × (found_size k (get_member k (member l e ms)) ≡ 1 + length l + data_size e))
    ⊎ (found_size k (get_member k (member l e ms)) ≡ found_size k (get_member k ms))
here_or_later k l e ms = by (slice_cmp nat_cmp k l) (exact_bytes k l)
  where
    by : (o : Ordering) → (o ≡ Equal → k ≡ l)
        → ((k ≡ l) × (found_size k (match_ordering o (get_member k ms) (Some e) (get_member k ms)) ≡ 1 + length l + data_size e))
        ⊎ (found_size k (match_ordering o (get_member k ms) (Some e) (get_member k ms)) ≡ found_size k (get_member k ms))
    by Less same = inr refl
    by Equal same = inl (same refl, ap (λ key. 1 + length key + data_size e) (same refl))
    by Greater same = inr refl

-- the sizes of three that are found, of which at most one is the first
at_most_one : (x y z u v w first more : ℕ) (a b c l : List ℕ) → (a ≡ b → ⊥) → (a ≡ c → ⊥) → (b ≡ c → ⊥) → u + v + w ≤ more
    → ((a ≡ l) × (x ≡ first)) ⊎ (x ≡ u) → ((b ≡ l) × (y ≡ first)) ⊎ (y ≡ v) → ((c ≡ l) × (z ≡ first)) ⊎ (z ≡ w)
    → x + y + z ≤ first + more
at_most_one x y z u v w first more a b c l ab ac bc h (inl p) (inl q) r = absurd (ab (p.0 ∙ sym q.0))
at_most_one x y z u v w first more a b c l ab ac bc h (inl p) (inr q) (inl r) = absurd (ac (p.0 ∙ sym r.0))
at_most_one x y z u v w first more a b c l ab ac bc h (inl p) (inr q) (inr r) = omega (arith, p.1)
at_most_one x y z u v w first more a b c l ab ac bc h (inr p) (inl q) (inl r) = absurd (bc (q.0 ∙ sym r.0))
at_most_one x y z u v w first more a b c l ab ac bc h (inr p) (inl q) (inr r) = omega (arith, q.1)
at_most_one x y z u v w first more a b c l ab ac bc h (inr p) (inr q) (inl r) = omega (arith, r.1)
at_most_one x y z u v w first more a b c l ab ac bc h (inr p) (inr q) (inr r) = omega arith

module _ (a b c : List ℕ) (ab : a ≡ b → ⊥) (ac : a ≡ c → ⊥) (bc : b ≡ c → ⊥) where
  pub three_found : (ms : Members)
      → found_size a (get_member a ms) + found_size b (get_member b ms) + found_size c (get_member c ms) ≤ members_size ms
  three_found no_members = omega arith
  three_found (member l e ms) =
      at_most_one _ _ _ (found_size a (get_member a ms)) (found_size b (get_member b ms)) (found_size c (get_member c ms))
      (1 + length l + data_size e) (members_size ms) a b c l ab ac bc (three_found ms)
      (here_or_later a l e ms) (here_or_later b l e ms) (here_or_later c l e ms)
