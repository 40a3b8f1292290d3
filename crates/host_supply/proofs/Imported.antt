-- Limits that are supplied if something of their kind is imported.
use Rattle.std.proofs.Common.{◌≡◌, List, [], ◌∷◌, Option, Some, None, is_some, ◌||◌, cond, refl}
use Rattle.std.specs.List.{list_any, cons_option}
use Rattle.wasm_syntax.specs.declared.signatures.Limits.{Limits}
use Rattle.wasm_syntax.specs.declared.modules.Import.{Import}
use Rattle.wasm_syntax.specs.declared.modules.ImportKind.{ImportKind}
use Rattle.wasm_syntax.specs.Index.{of_kind}
use Rattle.host_script.specs.Supply.{if_imported}

pub imported_by_test : (pick : ImportKind → Option Limits) (imports : List Import) (limits : Option Limits)
    → if_imported (of_kind pick imports) limits ≡ cond (list_any (λ import. is_some (pick import.kind)) imports)
    limits None
imported_by_test pick [] limits = refl
imported_by_test pick (x ∷ xs) limits = by (pick x.kind) (imported_by_test pick xs limits)
  where
    by : (k : Option Limits)
        → if_imported (of_kind pick xs) limits ≡ cond (list_any (λ import. is_some (pick import.kind)) xs) limits None
        → if_imported (cons_option k (of_kind pick xs)) limits
        ≡ cond (is_some k || list_any (λ import. is_some (pick import.kind)) xs) limits None
    by None h = h
    by (Some k) h = refl
