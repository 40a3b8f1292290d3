-- Limits that are supplied if something of their kind is imported, and else declared.
use Rattle.std.proofs.Common.{◌≡◌, List, [], ◌∷◌, Option, Some, None, is_some, ◌||◌, cond, slice_get, refl}
use Rattle.std.specs.List.{list_any, cons_option}
use Rattle.wasm_syntax.specs.declared.signatures.Limits.{Limits}
use Rattle.wasm_syntax.specs.declared.modules.Import.{Import}
use Rattle.wasm_syntax.specs.declared.modules.ImportKind.{ImportKind}
use Rattle.wasm_syntax.specs.Index.{of_kind}
use Rattle.history_spec.specs.Instantiation.{limits_of}

pub limits_by_test : (pick : ImportKind → Option Limits) (imports : List Import) (supplied : Option Limits)
    (declared : List Limits) → limits_of (of_kind pick imports) supplied declared
    ≡ cond (list_any (λ import. is_some (pick import.kind)) imports) supplied (slice_get declared 0)
limits_by_test pick [] supplied [] = refl
limits_by_test pick [] supplied (limits ∷ more) = refl
limits_by_test pick (import ∷ imports) supplied declared =
    by (pick import.kind) (limits_by_test pick imports supplied declared)
  where
    by : (kind : Option Limits)
        → limits_of (of_kind pick imports) supplied declared
        ≡ cond (list_any (λ import. is_some (pick import.kind)) imports) supplied (slice_get declared 0)
        → limits_of (cons_option kind (of_kind pick imports)) supplied declared
        ≡ cond (is_some kind || list_any (λ import. is_some (pick import.kind)) imports) supplied
        (slice_get declared 0)
    by None h = h
    by (Some kind) h = refl
