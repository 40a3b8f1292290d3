-- The text of values, cut at one of them.
use Rattle.std.proofs.Common.{◌≡◌, ℕ, suc, ◌<◌, List, ◌∷◌, ◌++◌, length, get_or, take, drop, sym, ◌∙◌, ap}
use Rattle.std.proofs.Math.Seq.{split_at}
use Rattle.std.proofs.lemmas.Grind.{flat_map-append}
use Rattle.wasm_syntax.specs.declared.values.Val.{Val}
use Rattle.history_spec.specs.Line.{with_space, value_text, values_text}

-- the text of the values before a value, its own text, and that of the values after it
pub values-cut : (values : List Val) (index : ℕ) (none : Val) → index < length values
    → values_text (take index values) ++ (with_space (value_text (get_or values index none)) ++ values_text (drop (suc index) values)) ≡ values_text values
values-cut values index none within =
    sym (ap values_text (split_at values index none within)
    ∙ flat_map-append (λ value. with_space (value_text value)) (take index values) (get_or values index none ∷ drop (suc index) values))
