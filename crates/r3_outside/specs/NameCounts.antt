-- Counts by name, which go on if there is no memory for a name.
use Rattle.std.specs.Prelude.{◌≡◌, ℕ, ◌⊎◌, List, None, refl, unwrap_or}
use Rattle.std.specs.Coded.{Coded, code_by, coded×, coded_list, coded_ℕ}
use Rattle.std.specs.Ordering.{nat_cmp}
use Rattle.std.specs.Cmp.Lexicographic.{slice_cmp}
use Rattle.std.specs.FinMap as map
use Rattle.r3_outside.specs.Count.{saturating_add}

-- a number under each name that is listed, and one for all that was counted where its name could not be listed
pub record NameCounts : Type 0 where
  pub listed : map.FinMap (slice_cmp nat_cmp) ℕ
  pub unlisted : ℕ

abbrev pub name_counts_code : Coded NameCounts
name_counts_code =
    code_by (map.FinMap (slice_cmp nat_cmp) ℕ × ℕ) (coded× (map.code (coded_list coded_ℕ) coded_ℕ) coded_ℕ)
    (λ c. (c.listed, c.unlisted)) (λ p. record { listed = p.0; unlisted = p.1 }) (λ _. refl)

-- nothing was counted
abbrev pub no_counts : NameCounts
no_counts = record { listed = map.empty; unlisted = 0 }

-- the number under a name, 0 if it is not listed
abbrev pub listed_under : NameCounts → List ℕ → ℕ
listed_under counts name = unwrap_or (map.get counts.listed name) 0

-- the count of a name: the number under it, and what may have been counted for it
abbrev pub count_of : NameCounts → List ℕ → ℕ
count_of counts name = saturating_add (listed_under counts name) counts.unlisted

-- the counts with `more` added for a name that is listed
abbrev pub with_listed : NameCounts → List ℕ → ℕ → NameCounts
with_listed counts name more = record counts {
  listed = map.insert counts.listed name (saturating_add (listed_under counts name) more);
}

-- the counts with `more` added for a name that could not be listed, and so for every name
abbrev pub with_unlisted : NameCounts → ℕ → NameCounts
with_unlisted counts more = record counts { unlisted = saturating_add counts.unlisted more }

-- `more` was counted for a name; it was counted for every name only if this one was not listed
abbrev pub IsCountedFor : (name : List ℕ) → (more : ℕ) → (before now : NameCounts) → Type 0
IsCountedFor name more before now =
    (now ≡ with_listed before name more)
    ⊎ ((map.get before.listed name ≡ None) × (now ≡ with_unlisted before more))
