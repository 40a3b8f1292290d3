-- Lemmas on index spaces.
use Rattle.std.proofs.Common.{◌≡◌, ℕ, ◌+◌, ◌<◌, List, [], ◌∷◌, ◌++◌, length, take, get_or, Option, Some, None, refl, sym, ap, ◌∙◌}
use Rattle.std.specs.List.{cons_option}
use Rattle.std.proofs.lemmas.List.{append-nil, take_more}
use Rattle.wasm_syntax.proofs.JoinedLists.{cons_front}
use Rattle.wasm_syntax.specs.declared.modules.Import.{Import}
use Rattle.wasm_syntax.specs.declared.modules.ImportKind.{ImportKind}
use Rattle.wasm_syntax.specs.declared.modules.ImportKind.TheVariants.{Func, Table, Memory, Global}
use Rattle.wasm_syntax.specs.Index.{of_kind, func_import, table_import, memory_import, global_import}
use Rattle.module_index.specs.IndexSpaces.{Spaces, spaces, imported_spaces, with_import}

of_kind-push : {K : Type 0} (pick : ImportKind → Option K) (imports : List Import) (i : Import)
    → of_kind pick (imports ++ i ∷ []) ≡ of_kind pick imports ++ cons_option (pick i.kind) []
of_kind-push pick [] i = refl
of_kind-push pick (x ∷ imports) i =
    ap (cons_option (pick x.kind)) (of_kind-push pick imports i)
    ∙ cons_front (pick x.kind) (of_kind pick imports) (cons_option (pick i.kind) [])

-- nothing is added to a list
abbrev added : {K : Type 0} → List K → Option K → List K
added ks None = ks
added ks (Some k) = ks ++ k ∷ []

append-added : {K : Type 0} (ks : List K) (o : Option K) → ks ++ cons_option o [] ≡ added ks o
append-added ks None = append-nil ks
append-added ks (Some k) = refl

-- an import goes into one of the index spaces
import-split : (kind : ImportKind) (s : Spaces)
    → spaces (added s.funcs (func_import kind)) (added s.tables (table_import kind)) (added s.memories (memory_import kind))
    (added s.globals (global_import kind)) ≡ with_import kind s
import-split (Func ty) s = refl
import-split (Table limits) s = refl
import-split (Memory limits) s = refl
import-split (Global ty) s = refl

one-more : {K : Type 0} (pick : ImportKind → Option K) (imports : List Import) (n : ℕ) (i : Import) → n < length imports
    → i ≡ get_or imports n i → of_kind pick (take (n + 1) imports) ≡ added (of_kind pick (take n imports)) (pick i.kind)
one-more pick imports n i h is =
    ap (of_kind pick) (take_more imports n i h ∙ ap (λ x. take n imports ++ x ∷ []) (sym is))
    ∙ of_kind-push pick (take n imports) i
    ∙ append-added (of_kind pick (take n imports)) (pick i.kind)

-- the imports up to one more
pub import-added : (imports : List Import) (n : ℕ) (i : Import) → n < length imports → i ≡ get_or imports n i
    → with_import i.kind (imported_spaces (take n imports)) ≡ imported_spaces (take (n + 1) imports)
import-added imports n i h is =
    let here = take n imports in
    let next = take (n + 1) imports in
    sym (ap (λ l. spaces l (of_kind table_import next) (of_kind memory_import next) (of_kind global_import next)) (one-more func_import imports n i h is)
    ∙ ap (λ l. spaces (added (of_kind func_import here) (func_import i.kind)) l (of_kind memory_import next)
    (of_kind global_import next)) (one-more table_import imports n i h is)
    ∙ ap (λ l. spaces (added (of_kind func_import here) (func_import i.kind)) (added (of_kind table_import here)
    (table_import i.kind)) l (of_kind global_import next)) (one-more memory_import imports n i h is)
    ∙ ap (spaces (added (of_kind func_import here) (func_import i.kind))
    (added (of_kind table_import here) (table_import i.kind))
    (added (of_kind memory_import here) (memory_import i.kind))) (one-more global_import imports n i h is)
    ∙ import-split i.kind (imported_spaces here))
