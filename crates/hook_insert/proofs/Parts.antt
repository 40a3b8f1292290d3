-- Parts of an instrumented module have encodings.
use Rattle.std.proofs.Common.{◌≡◌, ℕ, ◌+◌, ◌<◌, ◌≤◌, ◌^◌, List, [], ◌∷◌, map, length, Option, Some, None, Bool, true, false, cond, ◌&&◌, refl, codes, arith}
use Rattle.std.specs.Prelude.{IfSome, IsUtf8, nat_lt, option_map}
use Rattle.std.specs.List.{AllByRecursion, list_all}
use Rattle.std.proofs.lemmas.Bool.Decides.{nat_tests}
use Rattle.std.proofs.lemmas.List.Elements.{recursion_from_All}
use Rattle.std.proofs.lemmas.Str.{IsUtf8-from_ascii}
use Rattle.wasm_syntax.specs.declared.forms.Form.{Form}
use Rattle.wasm_syntax.specs.declared.forms.Form.TheVariants as forms
use Rattle.wasm_syntax.specs.declared.modules.Export.{Export}
use Rattle.wasm_syntax.specs.declared.modules.ExportKind.{ExportKind}
use Rattle.wasm_syntax.specs.declared.modules.ExportKind.TheVariants as exports
use Rattle.wasm_syntax.specs.declared.modules.ElemSeg.{ElemSeg}
use Rattle.wasm_syntax.specs.declared.modules.ElemSeg.TheVariants.{Active, Declared}
use Rattle.wasm_syntax.specs.declared.modules.Module.{Module}
use Rattle.wasm_syntax.specs.Encoding.Encodable.{FitsElemSeg, FitsExport, FitsExportKind, FitsFuncType, FitsImport, FitsU32}
use Rattle.wasm_syntax.proofs.ValidParts.{is_ascii, each_ascii}
use Rattle.wasm_flat.specs.Sizes.{list_limit}
use Rattle.record_replay_spec.specs.declared.hooks.Hook.{Hook}
use Rattle.record_replay_spec.specs.declared.hooks.Hook.TheVariants.{Arg}
use Rattle.record_replay_spec.specs.Hooks.{hook_module, hook_name, hook_type, renumber}
use Rattle.record_replay_spec.specs.Instrumented.{hook_import, hook_types, place_among, renumbered_elem, renumbered_export, renumbered_kind, section_name}
use Rattle.hook_insert.specs.Sites.{AreLow, IsLowElem, IsLowKind}

-- ---- names

is_text : (bytes : List ℕ) → list_all is_ascii bytes ≡ true → IsUtf8 bytes
is_text bytes all = IsUtf8-from_ascii bytes (each_ascii bytes all)

pub section_text : IsUtf8 section_name
section_text = is_text section_name refl

name_ascii : (kind : Hook) → list_all is_ascii (hook_name kind) ≡ true
name_ascii Arg = refl
name_ascii kind = refl

-- ---- types and imports of hooks

pub hook_types_fit : AllByRecursion FitsFuncType hook_types
hook_types_fit = (
  ((tt, (tt, tt)), tt),
  (((tt, tt), tt), ((tt, tt), (((tt, (tt, (tt, tt))), tt), (((tt, (tt, (tt, (tt, tt)))), tt), tt)))),
)

place_small : (kind : Hook) → nat_lt (place_among hook_types (hook_type kind)) 5 ≡ true
place_small Arg = refl
place_small kind = refl

module _ (m : Module) (few : length m.types < list_limit) where
  place_fits : (kind : Hook) → FitsU32 (length m.types + place_among hook_types (hook_type kind))
  place_fits kind = by (place_among hook_types (hook_type kind)) (place_small kind)
    where
      by : (place : ℕ) → nat_lt place 5 ≡ true → FitsU32 (length m.types + place)
      by place small = let less : place < 5 = below place small in omega (arith, few, less)
        where
          below : (place : ℕ) → nat_lt place 5 ≡ true → place < 5
          below place h = grind (arith, nat_tests, h)

  pub hook_imports_fit : (kinds : List Hook) → AllByRecursion FitsImport (map (hook_import m) kinds)
  hook_imports_fit [] = tt
  hook_imports_fit (kind ∷ kinds) =
      ((is_text hook_module refl, is_text (hook_name kind) (name_ascii kind), place_fits kind), hook_imports_fit kinds)

-- ---- functions renumbered

pub low_fits : (n func : ℕ) → func < list_limit → FitsU32 (renumber n func)
low_fits n func low = go (nat_lt func n)
  where
    go : (b : Bool) → FitsU32 (cond b func (func + 15))
    go true = omega (arith, low)
    go false = omega (arith, low)

pub start_fits : (n : ℕ) (start : Option ℕ) → IfSome start (λ func. func < list_limit) → IfSome (option_map (renumber n) start) FitsU32
start_fits n None low = tt
start_fits n (Some func) low = low_fits n func low

kind_fits : (n : ℕ) (kind : ExportKind) → FitsExportKind kind → IsLowKind kind → FitsExportKind (renumbered_kind n kind)
kind_fits n (exports.Func func) fits low = low_fits n func low
kind_fits n (exports.Table table) fits low = fits
kind_fits n (exports.Memory memory) fits low = fits
kind_fits n (exports.Global global) fits low = fits

pub exports_fit : (n : ℕ) (list : List Export) → AllByRecursion FitsExport list
    → AllByRecursion (λ (e : Export). IsLowKind e.kind) list → AllByRecursion FitsExport (map (renumbered_export n) list)
exports_fit n [] fit low = tt
exports_fit n (e ∷ list) fit low = ((fit.0.0, kind_fits n e.kind fit.0.1 low.0), exports_fit n list fit.1 low.1)

funcs_fit : (n : ℕ) (funcs : List ℕ) → AllByRecursion (λ func. func < list_limit) funcs
    → AllByRecursion FitsU32 (map (renumber n) funcs)
funcs_fit n [] low = tt
funcs_fit n (func ∷ funcs) low = (low_fits n func low.0, funcs_fit n funcs low.1)

low_funcs_fit : (n : ℕ) (funcs : List ℕ) → AreLow funcs → AllByRecursion FitsU32 (map (renumber n) funcs)
low_funcs_fit n funcs low = funcs_fit n funcs (recursion_from_All (λ func. func < list_limit) funcs low)

elem_fits : (n : ℕ) (form : Form) (elem : ElemSeg) → FitsElemSeg form elem → IsLowElem elem
    → FitsElemSeg form (renumbered_elem n elem)
elem_fits n forms.Core (Active table offset funcs) fits low = (fits.0, fits.1, low_funcs_fit n funcs low)
elem_fits n forms.Core (Declared funcs) fits low = absurd fits
elem_fits n forms.Replay (Active table offset funcs) fits low = (fits.0, fits.1, low_funcs_fit n funcs low)
elem_fits n forms.Replay (Declared funcs) fits low = low_funcs_fit n funcs low

pub elems_fit : (n : ℕ) (form : Form) (elems : List ElemSeg) → AllByRecursion (FitsElemSeg form) elems
    → AllByRecursion IsLowElem elems → AllByRecursion (FitsElemSeg form) (map (renumbered_elem n) elems)
elems_fit n form [] fit low = tt
elems_fit n form (elem ∷ elems) fit low = (elem_fits n form elem fit.0 low.0, elems_fit n form elems fit.1 low.1)
