-- The content of a string is no longer than its text up to the closing quote.
use Rattle.std.proofs.Common.{◌≡◌, ℕ, ◌+◌, ◌≤◌, Bool, true, false, cond, ◌&&◌, ◌==◌, nat_lt, List, [], ◌∷◌, length, Option, Some, None, option_and_then, refl, sym, ap, ◌∙◌, arith}
use Rattle.std.proofs.lemmas.Bool.{false≢true, eqb-true, and_parts}
use Rattle.std.proofs.lemmas.List.{length-append}
use Rattle.std.specs.Prelude.{⊤}
use Rattle.std.specs.Char.{is_digit, encode_utf8}
use Rattle.json.specs.Text.{code_unit, short_escape, is_high_surrogate, is_low_surrogate, surrogate_pair, Within, plain, after_backslash, after_u, after_high, prepend, content}
use Rattle.json.specs.Word.{is_operator, is_space}
use Rattle.json.specs.Lex.{Class, quote, backslash, operator, space, other, class, Mode, between, in_word, in_string, in_escape}

-- ---- the bytes up to the closing quote, and with it

abbrev pub byte_to_quote : Mode → Class → (Mode → ℕ) → ℕ
byte_to_quote between c k = 0
byte_to_quote in_word c k = 0
byte_to_quote in_string quote k = 1
byte_to_quote in_string backslash k = 1 + k in_escape
byte_to_quote in_string operator k = 1 + k in_string
byte_to_quote in_string space k = 1 + k in_string
byte_to_quote in_string other k = 1 + k in_string
byte_to_quote in_escape c k = 1 + k in_string

unfoldable pub to_quote : Mode → List ℕ → ℕ
to_quote m [] = 0
to_quote m (x ∷ xs) = byte_to_quote m (class x) (λ next. to_quote next xs)

-- ---- contents that are no longer than a number

abbrev pub AtMost : ℕ → Option (List ℕ) → Type 0
AtMost n None = ⊤
AtMost n (Some s) = length s ≤ n

weaker : (m n : ℕ) (o : Option (List ℕ)) → m ≤ n → AtMost m o → AtMost n o
weaker m n None le h = tt
weaker m n (Some s) le h = omega arith

behind : (m n : ℕ) (front : List ℕ) (o : Option (List ℕ)) → length front + m ≤ n → AtMost m o → AtMost n (prepend front o)
behind m n front None le h = tt
behind m n front (Some s) le h = omega (arith, length-append front s)

if_either : (n : ℕ) (b : Bool) (o p : Option (List ℕ)) → AtMost n o → AtMost n p → AtMost n (cond b o p)
if_either n true o p h k = h
if_either n false o p h k = k

if_some : (n : ℕ) (next : ℕ → Option (List ℕ)) (o : Option ℕ) → ((x : ℕ) → AtMost n (next x)) → AtMost n (option_and_then next o)
if_some n next None h = tt
if_some n next (Some x) h = h x

-- a code unit, if the four bytes are hexadecimal digits
if_unit : (n : ℕ) (next : ℕ → Option (List ℕ)) (digits : Bool) (unit : ℕ) → (digits ≡ true → (u : ℕ) → AtMost n (next u))
    → AtMost n (option_and_then next (cond digits (Some unit) None))
if_unit n next true unit h = h refl unit
if_unit n next false unit h = tt

if_true : (n : ℕ) (b : Bool) (o : Option (List ℕ)) → (b ≡ true → AtMost n o) → AtMost n (cond b o None)
if_true n true o h = h refl
if_true n false o h = tt

length-encode : (u : ℕ) → length (encode_utf8 u) ≤ 4
unfolding encode_utf8
length-encode u = grind arith

-- ---- single bytes

plain_byte : (q b o s control : Bool) (x : ℕ) (k : Mode → ℕ) (escaped others : Option (List ℕ))
    → AtMost (k in_escape) escaped → AtMost (k in_string) others
    → AtMost (byte_to_quote in_string (cond q quote (cond b backslash (cond o operator (cond s space other)))) k)
    (cond q (Some []) (cond b escaped (cond control None (prepend (x ∷ []) others))))
plain_byte true b o s control x k escaped others h g = omega arith
plain_byte false true o s control x k escaped others h g = weaker _ _ escaped (omega arith) h
plain_byte false false true s true x k escaped others h g = tt
plain_byte false false true s false x k escaped others h g = behind _ _ (x ∷ []) others (omega arith) g
plain_byte false false false true true x k escaped others h g = tt
plain_byte false false false true false x k escaped others h g = behind _ _ (x ∷ []) others (omega arith) g
plain_byte false false false false true x k escaped others h g = tt
plain_byte false false false false false x k escaped others h g = behind _ _ (x ∷ []) others (omega arith) g

-- a byte that is neither a quote nor a backslash
passes : (q b o s : Bool) (k : Mode → ℕ) → q ≡ false → b ≡ false
    → byte_to_quote in_string (cond q quote (cond b backslash (cond o operator (cond s space other)))) k ≡ 1 + k in_string
passes true b o s k h g = absurd (false≢true (sym h))
passes false true o s k h g = absurd (false≢true (sym g))
passes false false true s k h g = refl
passes false false false true k h g = refl
passes false false false false k h g = refl

differs : (c x : ℕ) (same : Bool) → (same ≡ true → x ≡ c) → is_digit c 16 ≡ false → is_digit x 16 ≡ true → same ≡ false
differs c x false e none h = refl
differs c x true e none h = absurd (false≢true (sym none ∙ ap (λ y. is_digit y 16) (sym (e refl)) ∙ h))

digit : (x : ℕ) (xs : List ℕ) → is_digit x 16 ≡ true → to_quote in_string (x ∷ xs) ≡ 1 + to_quote in_string xs
unfolding to_quote
digit x xs h =
    passes (x == 34) (x == 92) (is_operator x) (is_space x) (λ next. to_quote next xs)
    (differs 34 x (x == 34) (eqb-true x 34) refl h) (differs 92 x (x == 92) (eqb-true x 92) refl h)

digits : (a b c d : ℕ) (xs : List ℕ) → (is_digit a 16 && is_digit b 16 && is_digit c 16 && is_digit d 16) ≡ true
    → to_quote in_string (a ∷ b ∷ c ∷ d ∷ xs) ≡ 4 + to_quote in_string xs
digits a b c d xs h =
    let p = and_parts (is_digit a 16 && is_digit b 16 && is_digit c 16) (is_digit d 16) h in
    let q = and_parts (is_digit a 16 && is_digit b 16) (is_digit c 16) p.0 in
    let r = and_parts (is_digit a 16) (is_digit b 16) q.0 in
    omega (arith, digit a (b ∷ c ∷ d ∷ xs) r.0, digit b (c ∷ d ∷ xs) r.1, digit c (d ∷ xs) q.1, digit d xs p.1)

an_escape : (x : ℕ) (xs : List ℕ) → to_quote in_escape (x ∷ xs) ≡ 1 + to_quote in_string xs
unfolding to_quote
an_escape x xs = refl

a_backslash : (x : ℕ) (xs : List ℕ) → (x == 92) ≡ true → to_quote in_string (x ∷ xs) ≡ 1 + to_quote in_escape xs
unfolding to_quote
a_backslash x xs h = ap (λ y. to_quote in_string (y ∷ xs)) (eqb-true x 92 h)

-- ---- the content

abbrev mode : Within → Mode
mode plain = in_string
mode after_backslash = in_escape
mode after_u = in_string
mode (after_high high) = in_string

pub content-to_quote : (w : Within) (xs : List ℕ) → AtMost (to_quote (mode w) xs) (content w xs)
unfolding content to_quote code_unit
content-to_quote plain [] = tt
content-to_quote plain (x ∷ xs) =
    plain_byte (x == 34) (x == 92) (is_operator x) (is_space x) (nat_lt x 32) x (λ next. to_quote next xs) _ _
    (content-to_quote after_backslash xs) (content-to_quote plain xs)
content-to_quote after_backslash [] = tt
content-to_quote after_backslash (x ∷ xs) =
    if_either _ (x == 117) _ _ (weaker _ _ _ (omega arith) (content-to_quote after_u xs))
    (if_some _ _ (short_escape x) (λ c. behind _ _ (c ∷ []) _ (omega arith) (content-to_quote plain xs)))
content-to_quote after_u [] = tt
content-to_quote after_u (a ∷ []) = tt
content-to_quote after_u (a ∷ b ∷ []) = tt
content-to_quote after_u (a ∷ b ∷ c ∷ []) = tt
content-to_quote after_u (a ∷ b ∷ c ∷ d ∷ xs) =
    let n = to_quote in_string (a ∷ b ∷ c ∷ d ∷ xs) in
    let m = to_quote in_string xs in
    if_unit n _ _ _ (λ are unit. let e = digits a b c d xs are in
    if_either n (is_high_surrogate unit) _ _ (weaker m n _ (omega (arith, e)) (content-to_quote (after_high unit) xs))
    (if_either n (is_low_surrogate unit) None _ tt (behind m n (encode_utf8 unit) _ (omega (arith, e, length-encode)) (content-to_quote plain xs))))
content-to_quote (after_high high) [] = tt
content-to_quote (after_high high) (s ∷ []) = tt
content-to_quote (after_high high) (s ∷ u ∷ []) = tt
content-to_quote (after_high high) (s ∷ u ∷ a ∷ []) = tt
content-to_quote (after_high high) (s ∷ u ∷ a ∷ b ∷ []) = tt
content-to_quote (after_high high) (s ∷ u ∷ a ∷ b ∷ c ∷ []) = tt
content-to_quote (after_high high) (s ∷ u ∷ a ∷ b ∷ c ∷ d ∷ xs) =
    let n = to_quote in_string (s ∷ u ∷ a ∷ b ∷ c ∷ d ∷ xs) in
    let m = to_quote in_string xs in
    if_true n ((s == 92) && (u == 117)) _ (λ escape. if_unit n _ _ _ (λ are unit.
    let e = digits a b c d xs are in
    let before : n ≡ 1 + (1 + to_quote in_string (a ∷ b ∷ c ∷ d ∷ xs))
    = a_backslash s (u ∷ a ∷ b ∷ c ∷ d ∷ xs) (and_parts (s == 92) (u == 117) escape).0 in
    let pair = surrogate_pair high unit in
    if_true n (is_low_surrogate unit) _
    (λ low. behind m n (encode_utf8 pair) _ (omega (arith, e, before, length-encode)) (content-to_quote plain xs))))
