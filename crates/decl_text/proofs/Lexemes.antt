-- The lexemes of a text weigh no more than it has bytes, and neither do its tokens.
use Rattle.std.proofs.Common.{ℕ, ◌+◌, ◌≤◌, Bool, true, false, cond, ◌==◌, List, [], ◌∷◌, length, Option, Some, None, arith}
use Rattle.json.specs.Token.{Token}
use Rattle.json.specs.Text.{content, plain}
use Rattle.json.specs.Ascii.{true_text, false_text, null_text}
use Rattle.json.specs.Word.{ends_word, literal, number_before, after_number, word}
use Rattle.json.specs.Lex.{Lexeme, token, comma, colon, Class, quote, backslash, operator, space, other, class, operator_lexeme, string_token, Mode, between, in_word, in_string, in_escape, lex_byte, lex, begins_colon, may_begin, may_close, Place, fresh, after_value, after_comma, after_key, if_allowed, place_token, punctuate, tokens}
use Rattle.decl_text.proofs.Weights.{weight, weights, lexeme_weight, lexeme_weights}
use Rattle.decl_text.proofs.Contents.{byte_to_quote, to_quote, AtMost, content-to_quote}

-- ---- single tokens

-- a token that weighs no more than 1
record IsLight (t : Token) : Type 0 where
  light : weight t ≤ 1

of_either : (b : Bool) (t u : Token) → IsLight t → IsLight u → IsLight (cond b t u)
of_either true t u h k = h
of_either false t u h k = k

lexeme_of_either : (b : Bool) (l r : Lexeme) → lexeme_weight l ≤ 1 → lexeme_weight r ≤ 1 → lexeme_weight (cond b l r) ≤ 1
lexeme_of_either true l r h k = h
lexeme_of_either false l r h k = k

operator-weight : (x : ℕ) → lexeme_weight (operator_lexeme x) ≤ 1
operator-weight x =
    lexeme_of_either (x == 123) _ _ (omega arith) (lexeme_of_either (x == 125) _ _ (omega arith) (lexeme_of_either (x == 91) _ _ (omega arith)
    (lexeme_of_either (x == 93) _ _ (omega arith) (lexeme_of_either (x == 44) comma colon (omega arith) (omega arith)))))

bad_is_light : IsLight Token.bad
bad_is_light = record { light = omega arith }

number_is_light : (xs : List ℕ) (after : Option (List ℕ)) → IsLight (number_before xs after)
number_is_light xs None = bad_is_light
number_is_light xs (Some rest) = of_either (ends_word rest) _ _ (record { light = omega arith }) bad_is_light

literal_is_light : (name : List ℕ) (t : Token) (xs : List ℕ) → weight t ≤ 1 → IsLight (literal name t xs)
literal_is_light name t xs h = of_either _ _ _ (record { light = h }) bad_is_light

word_is_light : (xs : List ℕ) → IsLight (word xs)
unfolding word
word_is_light xs =
    of_either _ _ _ (literal_is_light true_text (Token.boolean true) xs (omega arith))
    (of_either _ _ _ (literal_is_light false_text (Token.boolean false) xs (omega arith))
    (of_either _ _ _ (literal_is_light null_text Token.null xs (omega arith)) (number_is_light xs (after_number xs))))

string-weight : (n : ℕ) (o : Option (List ℕ)) → AtMost n o → weight (string_token o) ≤ 1 + n
string-weight n None h = omega arith
string-weight n (Some s) h = omega arith

-- ---- lexemes

-- what a byte begins, with what the others weigh
byte-weight : (m : Mode) (c : Class) (x : ℕ) (xs : List ℕ) (k : Mode → List Lexeme) (n : Mode → ℕ)
    → ((next : Mode) → lexeme_weights (k next) + n next ≤ length xs) → AtMost (n in_string) (content plain xs)
    → lexeme_weights (lex_byte m c x xs k) + byte_to_quote m c n ≤ length (x ∷ xs)
byte-weight between quote x xs k n h s = omega (arith, h in_string, string-weight (n in_string) (content plain xs) s)
byte-weight between backslash x xs k n h s = omega (arith, h in_word)
byte-weight between operator x xs k n h s = omega (arith, h between, operator-weight x)
byte-weight between space x xs k n h s = omega (arith, h between)
byte-weight between other x xs k n h s = omega (arith, h in_word, (word_is_light (x ∷ xs)).light)
byte-weight in_word quote x xs k n h s = omega (arith, h in_word)
byte-weight in_word backslash x xs k n h s = omega (arith, h in_word)
byte-weight in_word operator x xs k n h s = omega (arith, h between, operator-weight x)
byte-weight in_word space x xs k n h s = omega (arith, h between)
byte-weight in_word other x xs k n h s = omega (arith, h in_word)
byte-weight in_string quote x xs k n h s = omega (arith, h between)
byte-weight in_string backslash x xs k n h s = omega (arith, h in_escape)
byte-weight in_string operator x xs k n h s = omega (arith, h in_string)
byte-weight in_string space x xs k n h s = omega (arith, h in_string)
byte-weight in_string other x xs k n h s = omega (arith, h in_string)
byte-weight in_escape c x xs k n h s = omega (arith, h in_string)

lex-weight : (m : Mode) (xs : List ℕ) → lexeme_weights (lex m xs) + to_quote m xs ≤ length xs
unfolding lex to_quote
lex-weight m [] = omega arith
lex-weight m (x ∷ xs) =
    byte-weight m (class x) x xs (λ next. lex next xs) (λ next. to_quote next xs) (λ next. lex-weight next xs) (content-to_quote plain xs)

-- ---- tokens

allowed-weight : (b : Bool) (t : Token) (k : Place → List Token) (next : Place) (n : ℕ) → weights (k next) ≤ n
    → weights (if_allowed b t k next) ≤ weight t + n
allowed-weight true t k next n h = omega arith
allowed-weight false t k next n h = omega arith

place-weight : (p : Place) (t : Token) (before_colon : Bool) (k : Place → List Token) (n : ℕ) → ((next : Place) → weights (k next) ≤ n)
    → weights (place_token p t before_colon k) ≤ weight t + n
place-weight p Token.begin_object b k n h = allowed-weight (may_begin p) _ k fresh n (h fresh)
place-weight p Token.end_object b k n h = allowed-weight (may_close p) _ k after_value n (h after_value)
place-weight p Token.begin_array b k n h = allowed-weight (may_begin p) _ k fresh n (h fresh)
place-weight p Token.end_array b k n h = allowed-weight (may_close p) _ k after_value n (h after_value)
place-weight p (Token.key s) b k n h = omega arith
place-weight p (Token.string s) true k n h = allowed-weight (may_begin p) (Token.key s) k after_key n (h after_key)
place-weight p (Token.string s) false k n h = allowed-weight (may_begin p) (Token.string s) k after_value n (h after_value)
place-weight p (Token.number s) b k n h = allowed-weight (may_begin p) _ k after_value n (h after_value)
place-weight p (Token.boolean v) b k n h = allowed-weight (may_begin p) _ k after_value n (h after_value)
place-weight p Token.null b k n h = allowed-weight (may_begin p) _ k after_value n (h after_value)
place-weight p Token.bad b k n h = omega arith

punctuate-weight : (p : Place) (ls : List Lexeme) → weights (punctuate p ls) ≤ lexeme_weights ls
unfolding punctuate
punctuate-weight fresh [] = omega arith
punctuate-weight after_value [] = omega arith
punctuate-weight after_comma [] = omega arith
punctuate-weight after_key [] = omega arith
punctuate-weight fresh (token t ∷ ls) = place-weight fresh t (begins_colon ls) _ _ (λ next. punctuate-weight next ls)
punctuate-weight after_value (token t ∷ ls) = place-weight after_value t (begins_colon ls) _ _ (λ next. punctuate-weight next ls)
punctuate-weight after_comma (token t ∷ ls) = place-weight after_comma t (begins_colon ls) _ _ (λ next. punctuate-weight next ls)
punctuate-weight after_key (token t ∷ ls) = place-weight after_key t (begins_colon ls) _ _ (λ next. punctuate-weight next ls)
punctuate-weight fresh (comma ∷ ls) = omega arith
punctuate-weight after_value (comma ∷ ls) = omega (arith, punctuate-weight after_comma ls)
punctuate-weight after_comma (comma ∷ ls) = omega arith
punctuate-weight after_key (comma ∷ ls) = omega arith
punctuate-weight fresh (colon ∷ ls) = omega arith
punctuate-weight after_value (colon ∷ ls) = omega arith
punctuate-weight after_comma (colon ∷ ls) = omega arith
punctuate-weight after_key (colon ∷ ls) = omega (arith, punctuate-weight fresh ls)

pub tokens-weight : (text : List ℕ) → weights (tokens text) ≤ length text
tokens-weight text = omega (arith, punctuate-weight fresh (lex between text), lex-weight between text)
