-- What tokens and lexemes weigh: as much as the values and keys that are made of them have size.
use Rattle.std.proofs.Common.{ℕ, ◌+◌, List, [], ◌∷◌, length}
use Rattle.json.specs.Token.{Token}
use Rattle.json.specs.Lex.{Lexeme, token, comma, colon}

abbrev pub weight : Token → ℕ
weight Token.begin_object = 1
weight Token.end_object = 1
weight Token.begin_array = 1
weight Token.end_array = 1
weight (Token.key s) = 1 + length s
weight (Token.string s) = 1 + length s
weight (Token.number s) = 1
weight (Token.boolean b) = 1
weight Token.null = 1
weight Token.bad = 0

abbrev pub weights : List Token → ℕ
weights [] = 0
weights (t ∷ ts) = weight t + weights ts

abbrev pub lexeme_weight : Lexeme → ℕ
lexeme_weight (token t) = weight t
lexeme_weight comma = 0
lexeme_weight colon = 0

abbrev pub lexeme_weights : List Lexeme → ℕ
lexeme_weights [] = 0
lexeme_weights (l ∷ ls) = lexeme_weight l + lexeme_weights ls
