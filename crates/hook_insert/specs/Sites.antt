-- Functions whose bodies are instrumented.
use Rattle.std.specs.Prelude.{◌≡◌, ℕ, ◌<◌, List, All}
use Rattle.wasm_syntax.specs.declared.modules.ElemSeg.{ElemSeg}
use Rattle.wasm_syntax.specs.declared.modules.ElemSeg.TheVariants.{Active, Declared}
use Rattle.wasm_syntax.specs.declared.modules.ExportKind.{ExportKind}
use Rattle.wasm_syntax.specs.declared.modules.ExportKind.TheVariants.{Func}
use Rattle.wasm_syntax.specs.declared.modules.Module.{Module}
use Rattle.wasm_syntax.specs.Index.{imported_funcs}
use Rattle.wasm_flat.specs.Sizes.{list_limit}

-- the number of imported functions and the number of the function's parameters and locals leave room for what is
-- added
pub record IsSite (m : Module) (imports locals : ℕ) : Type 0 where
  pub count : imports ≡ imported_funcs m
  pub few_imports : imports < list_limit
  pub few_locals : locals < list_limit

-- the indices of functions leave room for the hooks; those of a segment; that of an export
abbrev pub AreLow : List ℕ → Type 0
AreLow funcs = All (λ func. func < list_limit) funcs

abbrev pub IsLowElem : ElemSeg → Type 0
IsLowElem (Active table offset funcs) = AreLow funcs
IsLowElem (Declared funcs) = AreLow funcs

abbrev pub IsLowKind : ExportKind → Type 0
IsLowKind (Func func) = func < list_limit
IsLowKind kind = Unit {0}
