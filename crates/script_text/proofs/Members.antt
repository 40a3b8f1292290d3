-- The members of an object in terms of the entries of a map.
use Rattle.std.proofs.Common.{◌≡◌, suc, List, [], ◌∷◌, length, String, Global, refl, ap}
use Rattle.serde_json.specs.declared.value.Value.{Value}
use Rattle.serde_json.specs.View.{members_view}
use Rattle.script_text.specs.Walk.{keys_of}

pub length-keys : (entries : List (String Global × Value)) → length (keys_of (members_view entries)) ≡ length entries
length-keys [] = refl
length-keys (e ∷ es) = ap suc (length-keys es)
