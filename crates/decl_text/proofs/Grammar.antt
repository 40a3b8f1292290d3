-- What is read from tokens has no greater size than they weigh.
use Rattle.std.proofs.Common.{ℕ, zero, suc, ◌+◌, ◌≤◌, List, [], ◌∷◌, length, Option, Some, None, option_and_then, arith}
use Rattle.std.specs.Prelude.{⊤}
use Rattle.json.specs.Token.{Token}
use Rattle.json.specs.Json.{Json, null, boolean, number, string, array, object, Items, no_items, item, Members, no_members, member, Parse, parse_map, after_end_array, read_key, items_step, members_step, items, members, value_with, value}
use Rattle.decl_text.proofs.Weights.{weights}

abbrev mutual
  pub json_size : Json → ℕ
  json_size null = 1
  json_size (boolean b) = 1
  json_size (number s) = 1
  json_size (string s) = 1 + length s
  json_size (array js) = 1 + json_items_size js
  json_size (object ms) = 1 + json_members_size ms

  pub json_items_size : Items → ℕ
  json_items_size no_items = 0
  json_items_size (item j js) = json_size j + json_items_size js

  pub json_members_size : Members → ℕ
  json_members_size no_members = 0
  json_members_size (member k j ms) = 1 + length k + json_size j + json_members_size ms

-- what was read, together with the tokens that are left, is no greater than the number
abbrev pub Takes : {A : Type 0} → (A → ℕ) → ℕ → Option (A × List Token) → Type 0
Takes size n None = ⊤
Takes size n (Some p) = size p.0 + weights p.1 ≤ n

-- whatever the tokens are, no more is read than they weigh
abbrev pub TakesWeight : {A : Type 0} → (A → ℕ) → Parse A → Type 0
TakesWeight size parse = (ts : List Token) → Takes size (weights ts) (parse ts)

mapped : {A B : Type 0} (size : A → ℕ) (larger : B → ℕ) (f : A → B) (more m n : ℕ) → ((a : A) → larger (f a) ≤ more + size a) → more + m ≤ n
    → (o : Option (A × List Token)) → Takes size m o → Takes larger n (parse_map f o)
mapped size larger f more m n h le None x = tt
mapped size larger f more m n h le (Some p) x = omega (arith, h p.0)

-- ---- arrays

abbrev Closes : ℕ → Option (List Token) → Type 0
Closes n None = ⊤
Closes n (Some ts) = weights ts ≤ n

end_array-weight : (ts : List Token) → Closes (weights ts) (after_end_array ts)
end_array-weight [] = tt
end_array-weight (Token.begin_object ∷ ts) = tt
end_array-weight (Token.end_object ∷ ts) = tt
end_array-weight (Token.begin_array ∷ ts) = tt
end_array-weight (Token.end_array ∷ ts) = omega arith
end_array-weight (Token.key s ∷ ts) = tt
end_array-weight (Token.string s ∷ ts) = tt
end_array-weight (Token.number s ∷ ts) = tt
end_array-weight (Token.boolean b ∷ ts) = tt
end_array-weight (Token.null ∷ ts) = tt
end_array-weight (Token.bad ∷ ts) = tt

-- a value and what comes after it
both : {B : Type 0} (size : B → ℕ) (join : Json → B → B) (extra : ℕ) → ((j : Json) (b : B) → size (join j b) ≤ extra + (json_size j + size b))
    → (more : Parse B) → TakesWeight size more → (m n : ℕ) → extra + m ≤ n → (o : Option (Json × List Token)) → Takes json_size m o
    → Takes size n (option_and_then (λ p. parse_map (join p.0) (more p.1)) o)
both size join extra h more within m n le None x = tt
both size join extra h more within m n le (Some p) x =
    mapped size size (join p.0) (extra + json_size p.0) (weights p.1) n (λ b. omega (arith, h p.0 b)) (omega arith) (more p.1) (within p.1)

module _ (parse : Parse Json) (within : TakesWeight json_size parse) where
  items_step-weight : (more : Parse Items) → TakesWeight json_items_size more → (ts : List Token) (o : Option (List Token))
      → Closes (weights ts) o → Takes json_items_size (weights ts) (items_step parse more ts o)
  items_step-weight more again ts (Some rest) h = omega arith
  items_step-weight more again ts None h = both json_items_size item 0 (λ j b. omega arith) more again (weights ts) _ (omega arith) (parse ts) (within ts)

  pub items-weight : (n : ℕ) → TakesWeight json_items_size (items parse n)
  unfolding items
  items-weight zero ts = tt
  items-weight (suc n) ts = items_step-weight (items parse n) (items-weight n) ts (after_end_array ts) (end_array-weight ts)

-- ---- objects

abbrev key_size : Option (List ℕ) → ℕ
key_size None = 0
key_size (Some k) = 1 + length k

key-weight : TakesWeight key_size read_key
key-weight [] = tt
key-weight (Token.begin_object ∷ ts) = tt
key-weight (Token.end_object ∷ ts) = omega arith
key-weight (Token.begin_array ∷ ts) = tt
key-weight (Token.end_array ∷ ts) = tt
key-weight (Token.key s ∷ ts) = omega arith
key-weight (Token.string s ∷ ts) = tt
key-weight (Token.number s ∷ ts) = tt
key-weight (Token.boolean b ∷ ts) = tt
key-weight (Token.null ∷ ts) = tt
key-weight (Token.bad ∷ ts) = tt

module _ (parse : Parse Json) (within : TakesWeight json_size parse) where
  members_step-weight : (more : Parse Members) → TakesWeight json_members_size more → (n : ℕ) (o : Option (Option (List ℕ) × List Token))
      → Takes key_size n o → Takes json_members_size n (option_and_then (λ p. members_step parse more p.0 p.1) o)
  members_step-weight more again n None h = tt
  members_step-weight more again n (Some (None, ts)) h = omega arith
  members_step-weight more again n (Some (Some k, ts)) h =
      both json_members_size (member k) (1 + length k) (λ j b. omega arith) more again (weights ts) n (omega arith) (parse ts) (within ts)

  pub members-weight : (n : ℕ) → TakesWeight json_members_size (members parse n)
  unfolding members
  members-weight zero ts = tt
  members-weight (suc n) ts = members_step-weight (members parse n) (members-weight n) (weights ts) (read_key ts) (key-weight ts)

-- ---- values

level-weight : (a : Parse Items) (o : Parse Members) → TakesWeight json_items_size a → TakesWeight json_members_size o
    → TakesWeight json_size (value_with a o)
level-weight a o h k [] = tt
level-weight a o h k (Token.begin_object ∷ ts) = mapped json_members_size json_size object 1 (weights ts) _ (λ ms. omega arith) (omega arith) (o ts) (k ts)
level-weight a o h k (Token.end_object ∷ ts) = tt
level-weight a o h k (Token.begin_array ∷ ts) = mapped json_items_size json_size array 1 (weights ts) _ (λ js. omega arith) (omega arith) (a ts) (h ts)
level-weight a o h k (Token.end_array ∷ ts) = tt
level-weight a o h k (Token.key s ∷ ts) = tt
level-weight a o h k (Token.string s ∷ ts) = omega arith
level-weight a o h k (Token.number s ∷ ts) = omega arith
level-weight a o h k (Token.boolean b ∷ ts) = omega arith
level-weight a o h k (Token.null ∷ ts) = omega arith
level-weight a o h k (Token.bad ∷ ts) = tt

pub value-weight : (depth : ℕ) → TakesWeight json_size (value depth)
unfolding value
value-weight zero = level-weight (λ ts. None) (λ ts. None) (λ ts. tt) (λ ts. tt)
value-weight (suc depth) =
    level-weight (λ ts. items (value depth) (length ts) ts) (λ ts. members (value depth) (length ts) ts)
    (λ ts. items-weight (value depth) (value-weight depth) (length ts) ts)
    (λ ts. members-weight (value depth) (value-weight depth) (length ts) ts)
