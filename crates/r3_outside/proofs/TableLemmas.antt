-- What a table holds by name, looked up and added by the bytes of the names.
use Rattle.std.proofs.Common.{◌≡◌, ℕ, Bool, true, false, cond, List, [], ◌∷◌, map as list_map, refl, sym, ◌∙◌, ap, Option, Some, String, string_bytes}
use Rattle.std.specs.Option.{option_map}
use Rattle.std.specs.Ordering.{nat_cmp, eq_by_cmp}
use Rattle.std.specs.Cmp.{eq_by_cmp_equiv}
use Rattle.std.specs.Cmp.Lexicographic.{slice_cmp, nat_list_cmp_total}
use Rattle.std.specs.Map.{lookup}
use Rattle.std.specs.Str.{bytes_eq}
use Rattle.std.specs.String.{string_cmp}
use Rattle.std.specs.BTreeMap.{BTreeMap, UpdatesBy, is_at, get_by_text}
use Rattle.std.specs.FinMap as map
use Rattle.std.proofs.lemmas.Map.Text.{is_eq-slice_cmp, btree_map_updates_text}
use Rattle.r3_outside.specs.Stores.{by_name}

chosen : {V X : Type 0} (shown : V → X) (b : Bool) (value : V) (other : Option V)
    → option_map shown (cond b (Some value) other) ≡ cond b (Some (shown value)) (option_map shown other)
chosen shown true value other = refl
chosen shown false value other = refl

module _ {Y V X : Type 0} (shown : V → X) where
  find-entries : (entries : List (String Y × V)) (name : List ℕ)
      → map.find (slice_cmp nat_cmp) name (list_map (λ entry. (string_bytes entry.0, shown entry.1)) entries)
      ≡ option_map shown (lookup (is_at (λ key. slice_cmp nat_cmp name (string_bytes key))) entries)
  find-entries [] name = refl
  find-entries (entry ∷ entries) name =
      elim (eq_by_cmp (slice_cmp nat_cmp) name (string_bytes entry.0))
      as (λ b. cond b (Some (shown entry.1))
      (map.find (slice_cmp nat_cmp) name (list_map (λ entry. (string_bytes entry.0, shown entry.1)) entries))
      ≡ option_map shown
      (cond b (Some entry.1) (lookup (is_at (λ key. slice_cmp nat_cmp name (string_bytes key))) entries)))
      [ true ↦ refl | false ↦ find-entries entries name ]

  -- what a look-up of a name finds
  pub get-by_name : (entries : List (String Y × V)) (name : List ℕ)
      → map.get (by_name shown entries) name
      ≡ option_map shown (lookup (is_at (λ key. slice_cmp nat_cmp name (string_bytes key))) entries)
  get-by_name entries name = map.get-from_entries nat_list_cmp_total _ name ∙ find-entries entries name

  -- a table that has this value under one name, and all else as before
  pub by_name-updates : (old new : BTreeMap (String Y) V) (name : List ℕ) (value : V)
      → UpdatesBy string_cmp (λ key. slice_cmp nat_cmp name (string_bytes key)) old new (Some value)
      → by_name shown new.entries ≡ map.insert (by_name shown old.entries) name (shown value)
  by_name-updates old new name value updates =
      map.same_map nat_list_cmp_total (map.slice_cmp-IsAntisymmetric map.nat_cmp-IsAntisymmetric) _ _
      (λ q.
      let same : bytes_eq name q ≡ eq_by_cmp (slice_cmp nat_cmp) q name =
      sym (is_eq-slice_cmp name q) ∙ (eq_by_cmp_equiv nat_list_cmp_total).symm name q
      in
      get-by_name new.entries q
      ∙ ap (option_map shown) (btree_map_updates_text name old new (Some value) updates q)
      ∙ chosen shown (bytes_eq name q) value (get_by_text old q)
      ∙ ap (λ b. cond b (Some (shown value)) (option_map shown (get_by_text old q))) same
      ∙ ap (λ other. cond (eq_by_cmp (slice_cmp nat_cmp) q name) (Some (shown value)) other)
      (sym (get-by_name old.entries q))
      ∙ sym (map.get-insert nat_list_cmp_total (by_name shown old.entries) name (shown value) q))
