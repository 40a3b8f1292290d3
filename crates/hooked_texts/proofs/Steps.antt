-- Two readings that go alike: the second gives what the first gives, with a function applied.
use Rattle.std.proofs.Common.{◌≡◌, ℕ, ◌+◌, List, ◌∷◌, map, Option, Some, None, option_map, Result, Ok, Err, decimal, refl, ap, ◌∙◌}
use Rattle.serde_json.specs.Data.{Data, Items, no_items, item}
use Rattle.serde_json.specs.Find.{get, as_array}
use Rattle.script_text.specs.declared.faults.ScriptFault.{ScriptFault}
use Rattle.script_text.specs.Walk.{◌>>=◌, below, read_any, under_or, some_of, under_if_there, at_index, items_from, items_in, list_of}

-- the result of a reading, with a function applied
abbrev pub mapped : {A B : Type 0} → (A → B) → Result A ScriptFault → Result B ScriptFault
mapped f (Ok a) = Ok (f a)
mapped f (Err fault) = Err fault

-- a step that is equal in both readings
pub bind_same : {A B C : Type 0} (f : B → C) (read other_read : Result A ScriptFault) (next : A → Result B ScriptFault)
    (other : A → Result C ScriptFault) → other_read ≡ read → ((a : A) → read ≡ Ok a → other a ≡ mapped f (next a))
    → (other_read >>= other) ≡ mapped f (read >>= next)
bind_same {A} f read other_read next other is h = ap (λ (r : Result A ScriptFault). r >>= other) is ∙ go read refl
  where
    go : (r : Result A ScriptFault) → read ≡ r → (r >>= other) ≡ mapped f (r >>= next)
    go (Ok a) e = h a e
    go (Err fault) e = refl

-- a step that does not depend on the module
pub bind_own : {A B C : Type 0} (f : B → C) (read : Result A ScriptFault) (next : A → Result B ScriptFault)
    (other : A → Result C ScriptFault) → ((a : A) → other a ≡ mapped f (next a))
    → (read >>= other) ≡ mapped f (read >>= next)
bind_own f read next other h = bind_same f read read next other refl (λ a is. h a)

-- a step that goes alike in both readings
pub bind_alike : {A D B C : Type 0} (g : A → D) (f : B → C) (read : Result A ScriptFault) (other_read : Result D ScriptFault)
    (next : A → Result B ScriptFault) (other : D → Result C ScriptFault) → other_read ≡ mapped g read
    → ((a : A) → read ≡ Ok a → other (g a) ≡ mapped f (next a)) → (other_read >>= other) ≡ mapped f (read >>= next)
bind_alike {A} {D} g f read other_read next other is h =
    ap (λ (r : Result D ScriptFault). r >>= other) is ∙ go read refl
  where
    go : (r : Result A ScriptFault) → read ≡ r → (mapped g r >>= other) ≡ mapped f (r >>= next)
    go (Ok a) e = h a e
    go (Err fault) e = refl

below_alike : {A B : Type 0} (f : A → B) (step : List ℕ) (r : Result A ScriptFault)
    → below step (mapped f r) ≡ mapped f (below step r)
below_alike f step (Ok a) = refl
below_alike f step (Err fault) = refl

some_alike : {A B : Type 0} (f : A → B) (r : Result A ScriptFault) → some_of (mapped f r) ≡ mapped (option_map f) (some_of r)
some_alike f (Ok a) = refl
some_alike f (Err fault) = refl

module _ {A B : Type 0} (f : A → B) (read : Data → Result A ScriptFault) (other : Data → Result B ScriptFault)
    (alike : (d : Data) → other d ≡ mapped f (read d)) where
  pub under_or_alike : (key : List ℕ) (missing : A) (d : Data)
      → under_or key (f missing) other d ≡ mapped f (under_or key missing read d)
  under_or_alike key missing d = go (get key d)
    where
      go : (o : Option Data) → read_any key (f missing) other o ≡ mapped f (read_any key missing read o)
      go None = refl
      go (Some e) = ap (below key) (alike e) ∙ below_alike f key (read e)

  pub if_there_alike : (key : List ℕ) (d : Data)
      → under_if_there key other d ≡ mapped (option_map f) (under_if_there key read d)
  if_there_alike key d = go (get key d)
    where
      go : (o : Option Data) → read_any key None (λ e. some_of (other e)) o
          ≡ mapped (option_map f) (read_any key None (λ e. some_of (read e)) o)
      go None = refl
      go (Some e) =
          ap (λ (r : Result B ScriptFault). below key (some_of r)) (alike e)
          ∙ ap (below key) (some_alike f (read e)) ∙ below_alike (option_map f) key (some_of (read e))

  items_alike : (index : ℕ) (ds : Items) → items_from other index ds ≡ mapped (map f) (items_from read index ds)
  unfolding items_from
  items_alike index no_items = refl
  items_alike index (item d ds) =
      bind_alike f (map f) (at_index index read d) (at_index index other d)
      (λ first. items_from read (index + 1) ds >>= λ others. Ok (first ∷ others))
      (λ first. items_from other (index + 1) ds >>= λ others. Ok (first ∷ others))
      (ap (below (decimal index)) (alike d) ∙ below_alike f (decimal index) (read d))
      (λ first is.
      bind_alike (map f) (map f) (items_from read (index + 1) ds) (items_from other (index + 1) ds)
      (λ others. Ok (first ∷ others)) (λ others. Ok (f first ∷ others)) (items_alike (index + 1) ds) (λ others found. refl))

  pub list_alike : (d : Data) → list_of other d ≡ mapped (map f) (list_of read d)
  list_alike d = go (as_array d)
    where
      go : (o : Option Items) → items_in other o ≡ mapped (map f) (items_in read o)
      go None = refl
      go (Some ds) = items_alike 0 ds
