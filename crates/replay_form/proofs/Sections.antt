-- An item passes a test after an earlier one that passes.
use Rattle.std.proofs.Common.{◌≡◌, ℕ, ◌<◌, List, [], ◌∷◌, ◌++◌, length, Option, Some, None, get_or, suc, take, drop, Bool, true, cond, refl, sym, ◌∙◌, ap, drop-cons}
use Rattle.std.specs.Borrow.{Bor}
use Rattle.std.specs.Prelude.{filter, is_some}
use Rattle.std.specs.Option.{option_copied, option_to_list}
use Rattle.std.proofs.lemmas.List.{take-append-drop}
use Rattle.std.proofs.lemmas.List.Elements.{filter-append}

-- the list of an option with a reference has one item
pub shown : {X : Type 0} (o : Option (Bor X)) → is_some o ≡ true → (x : X) × (option_to_list (option_copied o) ≡ x ∷ [])
shown None e = absurd (cc e)
shown (Some x) e = (x.now, refl)

module _ {X : Type 0} (test : X → Bool) where
  kept : (x : X) (later : List X) → test x ≡ true → filter test (x ∷ later) ≡ x ∷ filter test later
  kept x later passes = ap (λ b. cond b (x ∷ filter test later) (filter test later)) passes

  -- if one of the first items passes and the next item passes, no item is the only one that passes
  pub not_alone : (xs : List X) (i : ℕ) (d first one : X) → i < length xs → filter test (take i xs) ≡ first ∷ []
      → test (get_or xs i d) ≡ true → filter test xs ≡ one ∷ [] → ⊥
  not_alone xs i d first one within before passes alone =
      let whole : filter test xs ≡ first ∷ get_or xs i d ∷ filter test (drop (suc i) xs) =
      ap (filter test) (sym (take-append-drop i xs)) ∙ filter-append test (take i xs) (drop i xs)
      ∙ ap (λ l. l ++ filter test (drop i xs)) before
      ∙ ap (λ l. first ∷ l) (ap (filter test) (drop-cons xs i d within) ∙ kept (get_or xs i d) (drop (suc i) xs) passes)
      in
      absurd (cc (sym whole ∙ alone))
