-- An index by one name, filled by a loop.
use Rattle.std.proofs.Common.{◌≡◌, ℕ, ◌+◌, ◌<◌, List, drop, length, get_or, Option, Some, None, Bor, Bool, true, false, is_some, cond, sym, refl, subst, ◌∙◌}
use Rattle.std.specs.Option.{option_or}
use Rattle.std.specs.Str.{bytes_eq}
use Rattle.std.specs.Map.{lookup}
use Rattle.std.proofs.lemmas.Slice.Eq.{bytes_eq-Decides}
use Rattle.module_names.proofs.Firsts.{first_in, passed, added}

pub is_none : {V : Type 0} (o : Option V) → is_some o ≡ false → o ≡ None
is_none None h = refl
is_none (Some v) h = cc

module _ {X V : Type 0} (value : X → V) (name : X → List ℕ) where
  abbrev pub at : List (Bor (List ℕ) × V) → List ℕ → Option V
  at entries q = lookup (λ key. bytes_eq q key.now) entries

  abbrev pub has_name : List ℕ → X → Bool
  has_name q x = bytes_eq (name x) q

  -- what the loop keeps
  abbrev pub so_far : List (Bor (List ℕ) × V) → List X → List ℕ → Option V
  so_far entries left q = option_or (at entries q) (first_in value has_name left q)

  pub keeps : (es : List (Bor (List ℕ) × V)) (xs : List X) (i : ℕ) (x : X) (key : List ℕ) → key ≡ name x → i < length xs
      → x ≡ get_or xs i x
      → is_some (at es key) ≡ true → (q : List ℕ) → so_far es (drop (i + 1) xs) q ≡ so_far es (drop i xs) q
  keeps es xs i x key named lt is there q =
      sym (passed value has_name (at es) xs i x lt is (λ r h. subst (λ n. is_some (at es n) ≡ true) (named ∙ (bytes_eq-Decides (name x) r).0 h) there) q)

  pub adds : (es more : List (Bor (List ℕ) × V)) (xs : List X) (i : ℕ) (x : X) (key : List ℕ) → key ≡ name x
      → i < length xs → x ≡ get_or xs i x
      → is_some (at es key) ≡ false
      → ((r : Bor (List ℕ)) → at more r.now ≡ cond (bytes_eq key r.now) (Some (value x)) (at es r.now))
      → (q : List ℕ) → so_far more (drop (i + 1) xs) q ≡ so_far es (drop i xs) q
  adds es more xs i x key named lt is none new q =
      added value has_name (at es) (at more) xs i x lt is
      (λ r h. subst (λ n. at es n ≡ None) (named ∙ (bytes_eq-Decides (name x) r).0 h) (is_none (at es key) none))
      (λ r. subst (λ n. at more r ≡ cond (bytes_eq n r) (Some (value x)) (at es r)) named (new (record { ref_ptr = (0, 0); now = r }))) q
