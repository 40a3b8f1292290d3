-- What a walk has read if it ended without a fault.
use Rattle.std.proofs.Common.{◌≡◌, ℕ, ◌+◌, List, [], ◌∷◌, Option, Some, None, Result, Ok, Err, IfSome, All, Bool, true, false, cond, decimal, refl, ap, subst}
use Rattle.std.proofs.lemmas.List.Elements.{All-nil, All-cons}
use Rattle.serde_json.specs.Data.{Data, Items, no_items, item}
use Rattle.serde_json.specs.Find.{get, as_array}
use Rattle.script_text.specs.declared.faults.ScriptFault.{ScriptFault}
use Rattle.script_text.specs.Walk.{◌>>=◌, below, or_shape, read_some, under, read_any, under_or, some_of, under_if_there, at_index, items_from, items_in, list_of}

pub ok_one : {A : Type 0} (a b : A) → ◌≡◌ {A = Result A ScriptFault} (Ok a) (Ok b) → a ≡ b
ok_one a b h = cc h

pub some_one : {A : Type 0} (a b : A) → ◌≡◌ {A = Option A} (Some a) (Some b) → a ≡ b
some_one a b h = cc h

-- both steps have read something
pub both_ok : {A B : Type 0} (read : Result A ScriptFault) (next : A → Result B ScriptFault) (b : B)
    → (read >>= next) ≡ Ok b → (a : A) × (read ≡ Ok a) × (next a ≡ Ok b)
both_ok (Ok a) next b h = (a, refl, h)
both_ok (Err fault) next b h = cc h

-- a test was passed
pub passed : {A : Type 0} (test : Bool) (read : Result A ScriptFault) (fault : ScriptFault) (a : A)
    → cond test read (Err fault) ≡ Ok a → (test ≡ true) × (read ≡ Ok a)
passed true read fault a h = (refl, h)
passed false read fault a h = cc h

pub below_ok : {A : Type 0} (step : List ℕ) (read : Result A ScriptFault) (a : A) → below step read ≡ Ok a → read ≡ Ok a
below_ok step (Ok b) a h = h
below_ok step (Err fault) a h = cc h

pub or_shape_ok : {A : Type 0} (o : Option A) (a : A) → or_shape o ≡ Ok a → o ≡ Some a
or_shape_ok (Some b) a h = ap Some (ok_one b a h)
or_shape_ok None a h = cc h

-- a property of all values read holds of the values read under keys and in lists
module _ {A : Type 0} (P : A → Type 0) (read : Data → Result A ScriptFault)
    (holds : (d : Data) (a : A) → read d ≡ Ok a → P a) where
  pub under_holds : (key : List ℕ) (d : Data) (a : A) → under key read d ≡ Ok a → P a
  under_holds key d a h = by (get key d) h
    where
      by : (o : Option Data) → read_some key read o ≡ Ok a → P a
      by None h = cc h
      by (Some e) h = holds e a (below_ok key (read e) a h)

  pub under_or_holds : (key : List ℕ) (missing : A) (d : Data) (a : A) → P missing → under_or key missing read d ≡ Ok a
      → P a
  under_or_holds key missing d a p h = by (get key d) h
    where
      by : (o : Option Data) → read_any key missing read o ≡ Ok a → P a
      by None h = subst P (ok_one missing a h) p
      by (Some e) h = holds e a (below_ok key (read e) a h)

  some_holds : (d : Data) (r : Result A ScriptFault) (a : Option A) → read d ≡ r → some_of r ≡ Ok a → IfSome a P
  some_holds d (Ok x) a is h = subst (λ o. IfSome o P) (ok_one (Some x) a h) (holds d x is)
  some_holds d (Err fault) a is h = cc h

  pub if_there_holds : (key : List ℕ) (d : Data) (a : Option A) → under_if_there key read d ≡ Ok a → IfSome a P
  if_there_holds key d a h = by (get key d) h
    where
      by : (o : Option Data) → read_any key None (λ e. some_of (read e)) o ≡ Ok a → IfSome a P
      by None h = subst (λ o. IfSome o P) (ok_one None a h) tt
      by (Some e) h = some_holds e (read e) a refl (below_ok key (some_of (read e)) a h)

  items_hold : (ds : Items) (i : ℕ) (found : List A) → items_from read i ds ≡ Ok found → All P found
  unfolding items_from
  items_hold no_items i found h = subst (All P) (ok_one [] found h) (All-nil P)
  items_hold (item d ds) i found h =
      let first = both_ok (at_index i read d) _ found h in
      let others = both_ok (items_from read (i + 1) ds) _ found first.2 in
      subst (All P) (ok_one (first.0 ∷ others.0) found others.2)
      (All-cons P first.0 others.0 (holds d first.0 (below_ok (decimal i) (read d) first.0 first.1)) (items_hold ds (i + 1) others.0 others.1))

  pub list_holds : (d : Data) (found : List A) → list_of read d ≡ Ok found → All P found
  list_holds d found h = by (as_array d) h
    where
      by : (o : Option Items) → items_in read o ≡ Ok found → All P found
      by None h = cc h
      by (Some ds) h = items_hold ds 0 found h
