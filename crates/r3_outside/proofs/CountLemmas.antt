-- Counts by name as a table of numbers keeps them, and what counting for a name does to the counts of all.
use Rattle.std.proofs.Common.{◌≡◌, ℕ, cond, List, refl, sym, ◌∙◌, ap, subst, unwrap_or, Option, Some, None, String, string_bytes, ◌⊎◌, inl, inr, arith, Ordering, Less, Equal, Greater}
use Rattle.std.specs.Option.{option_map}
use Rattle.std.specs.Ordering.{nat_cmp, is_eq}
use Rattle.std.specs.Cmp.{eq_by_cmp_equiv}
use Rattle.std.specs.Cmp.Lexicographic.{slice_cmp, nat_list_cmp_total}
use Rattle.std.specs.String.{string_cmp}
use Rattle.std.specs.BTreeMap.{BTreeMap, UpdatesBy, get_by_text}
use Rattle.std.specs.FinMap as map
use Rattle.r3_outside.specs.Count.{NoneFell, saturating_add}
use Rattle.r3_outside.specs.NameCounts.{NameCounts, listed_under, count_of, with_listed, IsCountedFor}
use Rattle.r3_outside.specs.Stores.{by_name}
use Rattle.r3_outside.proofs.TableLemmas.{get-by_name, by_name-updates}

-- ---- the table of numbers

-- the counts that a table of numbers and one number more are
abbrev pub counts_from : {Y : Type 0} → (listed : BTreeMap (String Y) ℕ) → (unlisted : ℕ) → NameCounts
counts_from listed unlisted = record { listed = by_name (λ count. count) listed.entries; unlisted = unlisted }

-- counts with this number under one name
abbrev pub with_number : NameCounts → List ℕ → ℕ → NameCounts
with_number counts name number = record counts { listed = map.insert counts.listed name number }

found-number : (found : Option ℕ) → unwrap_or (option_map (λ count. count) found) 0 ≡ unwrap_or found 0
found-number None = refl
found-number (Some count) = refl

module _ {Y : Type 0} (counts : NameCounts) (listed : BTreeMap (String Y) ℕ) (unlisted : ℕ) (name : List ℕ)
    (is : counts_from listed unlisted ≡ counts) where
  -- what a look-up of a name finds
  pub listed_under-found : (found : Option ℕ) → found ≡ get_by_text listed name
      → listed_under counts name ≡ unwrap_or found 0
  listed_under-found found e =
      ap (λ c. listed_under c name) (sym is)
      ∙ ap (λ o. unwrap_or o 0) (get-by_name (λ count. count) listed.entries name)
      ∙ found-number (get_by_text listed name)
      ∙ ap (λ o. unwrap_or o 0) (sym e)

  -- a name under which nothing is found is not listed
  pub not_listed : None ≡ get_by_text listed name → map.get counts.listed name ≡ None
  not_listed none =
      ap (λ c. map.get c.listed name) (sym is)
      ∙ get-by_name (λ count. count) listed.entries name
      ∙ ap (option_map (λ count. count)) (sym none)

  -- a table that has this number under the name, and all else as before
  pub with_number-updates : (now : BTreeMap (String Y) ℕ) (given : List ℕ) (number : ℕ) → given ≡ name
      → UpdatesBy string_cmp (λ key. slice_cmp nat_cmp given (string_bytes key)) listed now (Some number)
      → counts_from now unlisted ≡ with_number counts name number
  with_number-updates now given number same updates =
      let step : by_name (λ count. count) now.entries ≡ map.insert (by_name (λ count. count) listed.entries) name number =
      by_name-updates (λ count. count) listed now given number updates
      ∙ ap (λ n. map.insert (by_name (λ count. count) listed.entries) n number) same
      in
      let put : map.FinMap (slice_cmp nat_cmp) ℕ → NameCounts = λ l. record { listed = l; unlisted = unlisted } in
      ap put step ∙ ap (λ c. with_number c name number) is

-- ---- counts

module _ (counts : NameCounts) (name : List ℕ) (more : ℕ) where
  abbrev now : NameCounts
  now = with_listed counts name more

  abbrev number : ℕ
  number = saturating_add (listed_under counts name) more

  -- the number under the name, if more is counted for it
  listed_under-name : listed_under now name ≡ number
  listed_under-name =
      ap (λ found. unwrap_or found 0) (map.get-insert nat_list_cmp_total counts.listed name number name)
      ∙ ap (λ b. unwrap_or (cond b (Some number) (map.get counts.listed name)) 0)
      ((eq_by_cmp_equiv nat_list_cmp_total).refl name)

  -- the number under any name: as much greater, or as it was
  listed_under-other : (other : List ℕ) → (listed_under now other ≡ saturating_add (listed_under counts other) more)
      ⊎ (listed_under now other ≡ listed_under counts other)
  listed_under-other other =
      subst (λ n. (n ≡ saturating_add (listed_under counts other) more) ⊎ (n ≡ listed_under counts other))
      (sym (ap (λ found. unwrap_or found 0) (map.get-insert nat_list_cmp_total counts.listed name number other)))
      (by (slice_cmp nat_cmp other name) refl)
    where
      under : Ordering → ℕ
      under r = unwrap_or (cond (is_eq r) (Some number) (map.get counts.listed other)) 0

      by : (r : Ordering) → slice_cmp nat_cmp other name ≡ r
          → (under r ≡ saturating_add (listed_under counts other) more) ⊎ (under r ≡ listed_under counts other)
      by Less e = inr refl
      by Equal e =
          inl (ap (λ found. saturating_add (unwrap_or found 0) more)
          (map.get_tied nat_list_cmp_total counts.listed other name e))
      by Greater e = inr refl

-- the count of the name is greater by as much
pub IsCountedFor-count : (name : List ℕ) (more : ℕ) (before now : NameCounts) → IsCountedFor name more before now
    → count_of now name ≡ saturating_add (count_of before name) more
IsCountedFor-count name more before now (inl e) =
    ap (λ c. count_of c name) e ∙ omega (arith, listed_under-name before name more)
IsCountedFor-count name more before now (inr (new, e)) = ap (λ c. count_of c name) e ∙ omega arith

-- no count is less
pub IsCountedFor-none_fell : (name : List ℕ) (more : ℕ) (before now : NameCounts) → IsCountedFor name more before now
    → NoneFell (count_of before) (count_of now)
IsCountedFor-none_fell name more before now (inl e) other =
    elim (listed_under-other before name more other) [
      | inl rose ↦ omega (arith, ap (λ c. count_of c other) e, rose)
      | inr same ↦ omega (arith, ap (λ c. count_of c other) e, same)
    ]
IsCountedFor-none_fell name more before now (inr (new, e)) other = omega (arith, ap (λ c. count_of c other) e)
