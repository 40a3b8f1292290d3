-- The number of items of a list.
use Rattle.std.proofs.Common.{◌≡◌, suc, List, [], ◌∷◌, length, refl, ap}
use Rattle.serde_json.specs.declared.value.Value.{Value}
use Rattle.serde_json.specs.View.{items_view}
use Rattle.decl_text.specs.Texts.{count_of}

pub count-items : (vs : List Value) → count_of (items_view vs) ≡ length vs
count-items [] = refl
count-items (v ∷ vs) = ap suc (count-items vs)
