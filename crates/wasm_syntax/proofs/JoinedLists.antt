-- Lists with an optional item in front, the imports of one kind in joined lists, and what holds of all items of joined
-- lists.
use Rattle.std.proofs.Common.{◌≡◌, List, [], ◌∷◌, ◌++◌, Option, Some, None, option_map, refl, ap, ◌∙◌}
use Rattle.std.specs.List.{AllByRecursion, cons_option}
use Rattle.wasm_syntax.specs.declared.modules.Import.{Import}
use Rattle.wasm_syntax.specs.declared.modules.ImportKind.{ImportKind}
use Rattle.wasm_syntax.specs.Index.{of_kind}

pub cons_front : {K : Type 0} (o : Option K) (xs ys : List K) → cons_option o (xs ++ ys) ≡ cons_option o xs ++ ys
cons_front None xs ys = refl
cons_front (Some k) xs ys = refl

-- if a list with an optional item in front is empty, the item and the rest are empty
pub nil_option : {X : Type 0} (o : Option X) (rest : List X) → cons_option o rest ≡ [] → (o ≡ None) × (rest ≡ [])
nil_option None rest h = (refl, h)
nil_option (Some x) rest h = cc

pub nil_option_of : {X Y : Type 0} (f : X → Y) (o : Option X) (rest : List Y) → cons_option (option_map f o) rest ≡ []
    → (o ≡ None) × (rest ≡ [])
nil_option_of f None rest h = (refl, h)
nil_option_of f (Some x) rest h = cc

pub kinds_append : {K : Type 0} (pick : ImportKind → Option K) (imports more : List Import)
    → of_kind pick (imports ++ more) ≡ of_kind pick imports ++ of_kind pick more
kinds_append pick [] more = refl
kinds_append pick (i ∷ imports) more =
    ap (cons_option (pick i.kind)) (kinds_append pick imports more)
    ∙ cons_front (pick i.kind) (of_kind pick imports) (of_kind pick more)

pub both_parts : {X : Type 0} (P : X → Type 0) (xs ys : List X) → AllByRecursion P (xs ++ ys)
    → AllByRecursion P xs × AllByRecursion P ys
both_parts P [] ys h = (tt, h)
both_parts P (x ∷ xs) ys h = let later = both_parts P xs ys h.1 in ((h.0, later.0), later.1)
