-- Export names that are known, and those that are new.
use Rattle.std.specs.Prelude.{ℕ, List, [], ◌∷◌, ◌++◌, Bool, true, not, ◌&&◌, bytes_eq}
use Rattle.std.specs.List.{list_any}
use Rattle.std.specs.BTreeSet.{BTreeSet}
use denote.Bor.{Bor}
use Rattle.wasm_syntax.specs.declared.modules.Export.{Export}

-- whether the name is in the set
abbrev pub set_has : BTreeSet (Bor (List ℕ)) → List ℕ → Bool
set_has names name = list_any (λ k. bytes_eq name k.now) names.keys

-- whether an export has the name
abbrev pub exports_have : List Export → List ℕ → Bool
exports_have exports name = list_any (λ (e : Export). bytes_eq name e.name) exports

-- whether the exports have names that differ from one another and from those of the exports before them
abbrev pub are_new_names : List Export → List Export → Bool
are_new_names done [] = true
are_new_names done (e ∷ exports) = not (exports_have done e.name) && are_new_names (done ++ e ∷ []) exports
