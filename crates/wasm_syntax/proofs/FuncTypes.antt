-- The number of functions of a module, and their types, which exist in a valid module.
use Rattle.std.proofs.Common.{◌≡◌, ℕ, ◌+◌, ◌<◌, List, [], ◌∷◌, length, map, Some, slice_get, ap, ◌∙◌}
use Rattle.std.specs.Prelude.{All}
use Rattle.std.specs.List.{cons_option}
use Rattle.std.proofs.lemmas.List.{length-append, length-map}
use Rattle.std.proofs.lemmas.List.Elements.{All-nil, All-cons, All-head, All-tail, All-append, All-map, All-weaker}
use Rattle.std.proofs.lemmas.Option.{slice_get_within}
use Rattle.base.proofs.Options.{and_then_some}
use Rattle.wasm_syntax.specs.declared.signatures.FuncType.{FuncType}
use Rattle.wasm_syntax.specs.declared.modules.Func.{Func}
use Rattle.wasm_syntax.specs.declared.modules.Module.{Module}
use Rattle.wasm_syntax.specs.declared.modules.Import.{Import}
use Rattle.wasm_syntax.specs.declared.modules.ImportKind.{ImportKind}
use Rattle.wasm_syntax.specs.declared.modules.ImportKind.TheVariants as import
use Rattle.wasm_syntax.specs.Index.{of_kind, func_import, func_indices, func_type, imported_funcs}
use Rattle.wasm_syntax.specs.Validity.{IsImport, IsDeclaredFunc, IsValidOutside}

imports_typed : (m : Module) (imports : List Import) → All (λ i. IsImport m i.kind) imports
    → All (λ t. t < length m.types) (of_kind func_import imports)
imports_typed m [] all = All-nil (λ t. t < length m.types)
imports_typed m (i ∷ imports) all =
    by i.kind (All-head (λ j. IsImport m j.kind) i imports all)
    (imports_typed m imports (All-tail (λ j. IsImport m j.kind) i imports all))
  where
    by : (kind : ImportKind) → IsImport m kind → All (λ t. t < length m.types) (of_kind func_import imports)
        → All (λ t. t < length m.types) (cons_option (func_import kind) (of_kind func_import imports))
    by (import.Func t) own later = All-cons (λ u. u < length m.types) t (of_kind func_import imports) own later
    by (import.Table limits) own later = later
    by (import.Memory limits) own later = later
    by (import.Global ty) own later = later

-- the types of the imported functions and of the module's own exist
pub func_types_there : (m : Module) → IsValidOutside m → All (λ t. t < length m.types) (func_indices m)
func_types_there m valid =
    All-append (λ t. t < length m.types) (of_kind func_import m.imports) (map (λ (f : Func). f.ty) m.funcs)
    (imports_typed m m.imports valid.imports)
    (All-map (λ t. t < length m.types) (λ (f : Func). f.ty) m.funcs
    (All-weaker (IsDeclaredFunc m) (λ f. f.ty < length m.types) (λ f d. d.type_there) m.funcs valid.funcs))

pub func_count_is : (m : Module) → length (func_indices m) ≡ imported_funcs m + length m.funcs
func_count_is m =
    length-append (of_kind func_import m.imports) (map (λ (f : Func). f.ty) m.funcs)
    ∙ ap (λ defined. imported_funcs m + defined) (length-map m.funcs (λ (f : Func). f.ty))

-- the index of the type of a function
abbrev pub TypeIndex : Module → (func : ℕ) → FuncType → Type 0
TypeIndex m func ty = (t : ℕ) × (slice_get (func_indices m) func ≡ Some t) × (slice_get m.types t ≡ Some ty)

pub type_index : (m : Module) (func : ℕ) (ty : FuncType) → func_type m func ≡ Some ty → TypeIndex m func ty
type_index m func ty is = and_then_some (slice_get (func_indices m) func) (λ t. slice_get m.types t) ty is

-- a function that has a type is one of the module's
pub func_within : (m : Module) (func : ℕ) (ty : FuncType) → func_type m func ≡ Some ty
    → func < length (func_indices m)
func_within m func ty is =
    let index = type_index m func ty is in slice_get_within (func_indices m) func index.0 index.1
