-- The value of a text has no greater size than the text has bytes.
use Rattle.std.proofs.Common.{ℕ, ◌+◌, ◌≤◌, List, [], ◌∷◌, length, Option, Some, None, option_map, option_and_then, Ordering, Less, Equal, Greater, subst, arith}
use Rattle.std.specs.Prelude.{⊤}
use Rattle.std.specs.Ordering.{match_ordering}
use Rattle.json.specs.Token.{Token}
use Rattle.json.specs.Lex.{tokens}
use Rattle.json.specs.Json as json
use Rattle.serde_json.specs.Data.{Data, Num, number, array, object, item, Members, no_members, member, put}
use Rattle.serde_json.specs.Read.{number_of, of_json, of_items, of_members, max_depth}
use Rattle.decl_text.specs.DataSizes.{data_size, items_size, members_size, ValuesAreWithinTexts}
use Rattle.decl_text.proofs.Weights.{weights}
use Rattle.decl_text.proofs.Lexemes.{tokens-weight}
use Rattle.decl_text.proofs.Grammar.{json_size, json_items_size, json_members_size, Takes, value-weight}

-- what was made, if it was, is no greater than the number
abbrev HasSize : {A : Type 0} → (A → ℕ) → ℕ → Option A → Type 0
HasSize size n None = ⊤
HasSize size n (Some a) = size a ≤ n

mapped : {A B : Type 0} (size : A → ℕ) (larger : B → ℕ) (f : A → B) (m n : ℕ) → ((a : A) → size a ≤ m → larger (f a) ≤ n)
    → (o : Option A) → HasSize size m o → HasSize larger n (option_map f o)
mapped size larger f m n h None x = tt
mapped size larger f m n h (Some a) x = h a x

chained : {A B : Type 0} (size : A → ℕ) (larger : B → ℕ) (f : A → Option B) (m n : ℕ) → ((a : A) → size a ≤ m → HasSize larger n (f a))
    → (o : Option A) → HasSize size m o → HasSize larger n (option_and_then f o)
chained size larger f m n h None x = tt
chained size larger f m n h (Some a) x = h a x

-- ---- members, one after another

either-size : (o : Ordering) (a b c : Members) (n : ℕ) → members_size a ≤ n → members_size b ≤ n → members_size c ≤ n
    → members_size (match_ordering o a b c) ≤ n
either-size Less a b c n h k l = h
either-size Equal a b c n h k l = k
either-size Greater a b c n h k l = l

put-size : (k : List ℕ) (d : Data) (ms : Members) → members_size (put k d ms) ≤ 1 + length k + data_size d + members_size ms
put-size k d no_members = omega arith
put-size k d (member l e ms) =
    either-size _ (member k d (member l e ms)) (member l d ms) (member l e (put k d ms)) _ (omega arith) (omega arith) (omega (arith, put-size k d ms))

-- ---- values

number-size : (o : Option Num) → HasSize data_size 1 (option_map number o)
number-size None = tt
number-size (Some n) = omega arith

mutual
  of_json-size : (j : json.Json) → HasSize data_size (json_size j) (of_json j)
  of_json-size json.null = omega arith
  of_json-size (json.boolean b) = omega arith
  of_json-size (json.number s) = number-size (number_of s)
  of_json-size (json.string s) = omega arith
  of_json-size (json.array js) = mapped items_size data_size array (json_items_size js) _ (λ ds h. omega arith) (of_items js) (of_items-size js)
  of_json-size (json.object ms) =
      mapped members_size data_size object (json_members_size ms) _ (λ ds h. omega arith) _ (of_members-size ms no_members _ (omega arith))

  of_items-size : (js : json.Items) → HasSize items_size (json_items_size js) (of_items js)
  of_items-size json.no_items = omega arith
  of_items-size (json.item j js) =
      chained data_size items_size _ (json_size j) _
      (λ d h. mapped items_size items_size (item d) (json_items_size js) _ (λ ds k. omega arith) (of_items js) (of_items-size js)) (of_json j) (of_json-size j)

  of_members-size : (ms : json.Members) (found : Members) (n : ℕ) → json_members_size ms + members_size found ≤ n
      → HasSize members_size n (of_members ms found)
  of_members-size json.no_members found n h = omega arith
  of_members-size (json.member k j ms) found n h =
      chained data_size members_size _ (json_size j) n
      (λ d le. of_members-size ms (put k d found) n (omega (arith, put-size k d found))) (of_json j) (of_json-size j)

-- ---- texts

last-size : (n : ℕ) (o : Option (json.Json × List Token)) → Takes json_size n o → HasSize json_size n (option_and_then (λ p. json.if_last p.0 p.1) o)
last-size n None h = tt
last-size n (Some (j, [])) h = omega arith
last-size n (Some (j, t ∷ ts)) h = tt

smaller : (j : json.Json) (n : ℕ) → json_size j ≤ n → HasSize data_size n (of_json j)
smaller j n le = go (of_json j) (of_json-size j)
  where
    go : (o : Option Data) → HasSize data_size (json_size j) o → HasSize data_size n o
    go None h = tt
    go (Some d) h = omega arith

pub values_are_within_texts : ValuesAreWithinTexts
values_are_within_texts text d e =
    let all : weights (tokens text) ≤ length text = tokens-weight text in
    let within = subst (HasSize data_size (weights (tokens text))) e
    (chained json_size data_size of_json (weights (tokens text)) (weights (tokens text)) (λ j h. smaller j _ h) _
    (last-size (weights (tokens text)) _ (value-weight max_depth (tokens text)))) in
    omega (arith, all, within)
