-- The exports of a widened module have distinct names, if no declared name is taken.
use Rattle.std.proofs.Common.{◌≡◌, ◌≢◌, ℕ, ◌+◌, ◌<◌, List, [], ◌∷◌, ◌++◌, map, length, Option, Some, None, Bool, true, false, cond, bytes_eq, get_or, append_assoc, refl, sym, ap, ◌∙◌, subst, true≢false, arith}
use Rattle.std.specs.List.{AllPairs, list_any}
use Rattle.std.proofs.lemmas.List.{append-nil, get_or-map, length-map, map-append}
use Rattle.std.proofs.lemmas.List.Folds.{list_any_at}
use Rattle.std.proofs.lemmas.List.Quantifiers.{all_pairs_push}
use Rattle.std.proofs.lemmas.Slice.Eq.{bytes_eq-Decides}
use Rattle.wasm_syntax.specs.declared.modules.Module.{Module}
use Rattle.wasm_syntax.specs.declared.modules.Export.{Export}
use Rattle.wasm_syntax.specs.Index.{imported_funcs}
use Rattle.instance_spec.specs.declared.decls.Decl.{Decl}
use Rattle.instance_spec.specs.Instances.{Instance}
use Rattle.instance_spec.specs.ForeignRuns.{numbers}
use Rattle.instance_spec.specs.Widened.{renamed_export, foreign_exports, widened}
use Rattle.decl_text.specs.Texts.{first_taken, export_names}

abbrev AreDistinct : List (List ℕ) → Type 0
AreDistinct names = AllPairs (λ name later. name ≢ later) names

abbrev pub HaveDistinctNames : List Export → Type 0
HaveDistinctNames exports = AllPairs (λ (e later : Export). e.name ≢ later.name) exports

abbrev names_of : List Export → List (List ℕ)
names_of exports = map (λ (e : Export). e.name) exports

abbrev declared_names : List Decl → List (List ℕ)
declared_names decls = map (λ (d : Decl). d.name) decls

-- ---- names that are free

not_among : (names : List (List ℕ)) (name : List ℕ) → list_any (λ other. bytes_eq other name) names ≡ false
    → (k : ℕ) (d : List ℕ) → k < length names → get_or names k d ≢ name
not_among names name none k d below same =
    true≢false (sym (list_any_at (λ other. bytes_eq other name) names k d below ((bytes_eq-Decides (get_or names k d) name).1 same)) ∙ none)

if_none : (taken : Bool) (name : List ℕ) (o : Option (List ℕ)) → cond taken (Some name) o ≡ None → (taken ≡ false) × (o ≡ None)
if_none true name o h = cc
if_none false name o h = (refl, h)

free_are_distinct : (names : List (List ℕ)) (decls : List Decl) → first_taken names decls ≡ None → AreDistinct names
    → AreDistinct (names ++ declared_names decls)
free_are_distinct names [] h distinct = subst AreDistinct (sym (append-nil names)) distinct
free_are_distinct names (d ∷ decls) h distinct =
    let free = if_none (list_any (λ name. bytes_eq name d.name) names) d.name (first_taken (names ++ d.name ∷ []) decls) h in
    let more = all_pairs_push (λ name later. name ≢ later) names d.name distinct (not_among names d.name free.0) in
    subst AreDistinct (append_assoc names (d.name ∷ []) (declared_names decls)) (free_are_distinct (names ++ d.name ∷ []) decls free.1 more)

-- ---- exports by their names

to_names : (exports : List Export) → HaveDistinctNames exports → AreDistinct (names_of exports)
to_names [] h i j d before below = absurd (omega arith)
to_names (e ∷ exports) h i j d before below =
    let f = λ (x : Export). x.name in
    let all = e ∷ exports in
    let last : j < length all = subst (λ n. j < n) (length-map all f) below in
    let first : i < length all = omega arith in
    λ same. h i j e before last (sym (get_or-map f all i e d first) ∙ same ∙ get_or-map f all j e d last)

from_names : (exports : List Export) → AreDistinct (names_of exports) → HaveDistinctNames exports
from_names exports h i j d before below =
    let f = λ (x : Export). x.name in
    let last : j < length (names_of exports) = subst (λ n. j < n) (sym (length-map exports f)) below in
    let first : i < length exports = omega arith in
    λ same. h i j d.name before last (get_or-map f exports i d d.name first ∙ same ∙ sym (get_or-map f exports j d d.name below))

-- ---- the exports of a widened module

renamed_names : (i : Instance) (exports : List Export) → names_of (map (renamed_export i) exports) ≡ names_of exports
renamed_names i [] = refl
renamed_names i (e ∷ exports) = ap (λ names. e.name ∷ names) (renamed_names i exports)

foreign_names : (at : ℕ) (decls : List Decl) → names_of (foreign_exports at decls) ≡ declared_names decls
foreign_names at [] = refl
foreign_names at (d ∷ decls) = ap (λ names. d.name ∷ names) (foreign_names (at + 1) decls)

widened_names : (m : Module) (decls : List Decl) → names_of (widened m decls).exports ≡ export_names m ++ declared_names decls
widened_names m decls =
    let i = numbers m (length decls) in
    let own = map (renamed_export i) m.exports in
    map-append (λ (e : Export). e.name) own (foreign_exports (imported_funcs m) decls)
    ∙ ap (λ names. names ++ names_of (foreign_exports (imported_funcs m) decls)) (renamed_names i m.exports)
    ∙ ap (λ names. export_names m ++ names) (foreign_names (imported_funcs m) decls)

pub widened_are_distinct : (m : Module) (decls : List Decl) → HaveDistinctNames m.exports
    → first_taken (export_names m) decls ≡ None → HaveDistinctNames (widened m decls).exports
widened_are_distinct m decls distinct free =
    from_names (widened m decls).exports
    (subst AreDistinct (sym (widened_names m decls)) (free_are_distinct (export_names m) decls free (to_names m.exports distinct)))
