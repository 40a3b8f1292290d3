-- An index of names, filled by loops, and the first name that is taken.
use Rattle.std.proofs.Common.{◌≡◌, ℕ, ◌+◌, ◌<◌, List, [], ◌∷◌, ◌++◌, map, take, drop, length, get_or, Option, Some, Bor, Bool, true, false, cond, sym, ap, refl, ◌∙◌, append_assoc}
use Rattle.std.specs.List.{list_any}
use Rattle.std.specs.Str.{bytes_eq}
use Rattle.std.proofs.lemmas.List.{take_more, map-append}
use Rattle.std.proofs.lemmas.List.Folds.{list_any-append}
use Rattle.module_names.proofs.Lists.{front_or}
use Rattle.module_names.proofs.ImportLoops.{with_module}
use Rattle.instance_spec.specs.declared.decls.Decl.{Decl}
use Rattle.decl_text.specs.Texts.{first_taken}
use Rattle.decl_text.specs.Names.{HoldsNames}

-- an index with one name more
pub name_added : (keys more : List (Bor (List ℕ))) (names : List (List ℕ)) (key name : List ℕ) → key ≡ name
    → HoldsNames keys names
    → ((q : Bor (List ℕ)) → list_any (λ k. bytes_eq q.now k.now) more ≡ cond (bytes_eq key q.now) true (list_any (λ k. bytes_eq q.now k.now) keys))
    → HoldsNames more (names ++ name ∷ [])
name_added keys more names key name named held new = record {
  holds = λ q.
      new (record { ref_ptr = (0, 0); now = q })
      ∙ ap (λ k. cond (bytes_eq k q) true (list_any (λ k. bytes_eq q k.now) keys)) named
      ∙ ap (cond (bytes_eq name q) true) (held.holds q)
      ∙ with_module (bytes_eq name q) (list_any (λ other. bytes_eq other q) names)
      ∙ sym (list_any-append (λ other. bytes_eq other q) names (name ∷ []));
}

-- the names of the items so far, and of one more
pub names_grow : {X : Type 0} (name : X → List ℕ) (xs : List X) (i : ℕ) (x : X) → i < length xs → x ≡ get_or xs i x
    → map name (take (i + 1) xs) ≡ map name (take i xs) ++ name x ∷ []
names_grow name xs i x lt is =
    let e : take (i + 1) xs ≡ take i xs ++ get_or xs i x ∷ [] = take_more xs i x lt in
    let f : take (i + 1) xs ≡ take i xs ++ x ∷ [] = rw (sym is) at e in
    rw f (map-append name (take i xs) (x ∷ []))

-- an index with the names of the items so far, and of one more
pub item_added : {X : Type 0} (name : X → List ℕ) (keys more : List (Bor (List ℕ))) (front : List (List ℕ)) (xs : List X) (i : ℕ) (x : X) (key : List ℕ)
    → i < length xs → x ≡ get_or xs i x → key ≡ name x
    → HoldsNames keys (front ++ map name (take i xs))
    → ((q : Bor (List ℕ)) → list_any (λ k. bytes_eq q.now k.now) more ≡ cond (bytes_eq key q.now) true (list_any (λ k. bytes_eq q.now k.now) keys))
    → HoldsNames more (front ++ map name (take (i + 1) xs))
item_added name keys more front xs i x key lt is named held new =
    rw (names_grow name xs i x lt is, sym (append_assoc front (map name (take i xs)) (name x ∷ [])))
    (name_added keys more (front ++ map name (take i xs)) key (name x) named held new)

module _ (keys : List (Bor (List ℕ))) (front : List (List ℕ)) (decls : List Decl) (i : ℕ) (d : Decl) (key : List ℕ)
    (found : Bool) (lt : i < length decls) (is : d ≡ get_or decls i d) (named : key ≡ d.name)
    (held : HoldsNames keys (front ++ map (λ (decl : Decl). decl.name) (take i decls)))
    (looked : found ≡ list_any (λ k. bytes_eq key k.now) keys) where
  abbrev so_far : List (List ℕ)
  so_far = front ++ map (λ (decl : Decl). decl.name) (take i decls)

  among : list_any (λ name. bytes_eq name d.name) so_far ≡ found
  among = sym (held.holds d.name) ∙ ap (λ q. list_any (λ k. bytes_eq q k.now) keys) (sym named) ∙ sym looked

  at_front : first_taken so_far (drop i decls)
      ≡ cond found (Some d.name) (first_taken (so_far ++ d.name ∷ []) (drop (i + 1) decls))
  at_front =
      let e : first_taken so_far (drop i decls)
      ≡ cond (list_any (λ name. bytes_eq name d.name) so_far) (Some d.name) (first_taken (so_far ++ d.name ∷ []) (drop (i + 1) decls))
      = rw (front_or decls i d lt, sym is) refl in
      e ∙ ap (λ b. cond b (Some d.name) (first_taken (so_far ++ d.name ∷ []) (drop (i + 1) decls))) among

  -- a name that is taken is the first
  pub is_first : (total : Option (List ℕ)) → found ≡ true → first_taken so_far (drop i decls) ≡ total
      → Some d.name ≡ total
  is_first total h invariant =
      sym (at_front ∙ ap (λ b. cond b (Some d.name) (first_taken (so_far ++ d.name ∷ []) (drop (i + 1) decls))) h) ∙ invariant

  -- a name that is free is passed
  pub goes_on : (total : Option (List ℕ)) → found ≡ false → first_taken so_far (drop i decls) ≡ total
      → first_taken (front ++ map (λ (decl : Decl). decl.name) (take (i + 1) decls)) (drop (i + 1) decls) ≡ total
  goes_on total h invariant =
      rw (names_grow (λ (decl : Decl). decl.name) decls i d lt is, sym (append_assoc front (map (λ (decl : Decl). decl.name) (take i decls)) (d.name ∷ [])))
      (sym (at_front ∙ ap (λ b. cond b (Some d.name) (first_taken (so_far ++ d.name ∷ []) (drop (i + 1) decls))) h) ∙ invariant)
