-- The module of the tests has an encoding.
use Rattle.std.proofs.Common.{◌≡◌, ℕ, List, [], ◌∷◌, None, IfSome, refl, sym, subst, arith, rules}
use Rattle.std.specs.Prelude.{IsUtf8}
use Rattle.std.specs.List.{AllByRecursion}
use Rattle.std.proofs.lemmas.Str.{IsUtf8-from_ascii}
use Rattle.wasm_syntax.specs.Nest.{Plain, Empty}
use Rattle.wasm_syntax.specs.Encoding.Encodable.{FitsBody, FitsExport, FitsFunc, FitsFuncType, FitsImport, FitsLocals, FitsU32, FitsValType, IsEncodable}
use Rattle.wasm_syntax.specs.declared.forms.Form.TheVariants.{Replay}
use Rattle.wasm_syntax.specs.declared.values.ValType.{ValType}
use Rattle.wasm_syntax.specs.declared.values.ValType.TheVariants.{I32}
use Rattle.wasm_syntax.specs.declared.signatures.FuncType.{FuncType}
use Rattle.wasm_syntax.specs.declared.instructions.Instr.{Instr}
use Rattle.wasm_syntax.specs.declared.instructions.Instr.TheVariants.{Call, End, Numeric}
use Rattle.wasm_syntax.specs.declared.modules.Import.{Import}
use Rattle.wasm_syntax.specs.declared.modules.ImportKind.TheVariants as imports
use Rattle.wasm_syntax.specs.declared.modules.Export.{Export}
use Rattle.wasm_syntax.specs.declared.modules.ExportKind.TheVariants as exports
use Rattle.wasm_syntax.specs.declared.modules.Func.{Func}
use Rattle.wasm_syntax.specs.declared.modules.Run.{Run}
use Rattle.wasm_syntax.specs.declared.modules.Module.{Module}

-- what fits the one item fits the list
all_one : {A : Type 0} (Fits : A → Type 0) (xs : List A) (x : A) → xs ≡ x ∷ [] → Fits x → AllByRecursion Fits xs
all_one Fits xs x is fits = subst (AllByRecursion Fits) (sym is) (fits, tt)

all_none : {A : Type 0} (Fits : A → Type 0) (xs : List A) → xs ≡ [] → AllByRecursion Fits xs
all_none Fits xs is = subst (AllByRecursion Fits) (sym is) tt

letter : (name : List ℕ) (c : ℕ) → IsUtf8 (c ∷ []) → name ≡ c ∷ [] → IsUtf8 name
letter name c text is = subst IsUtf8 (sym is) text

h_is_text : IsUtf8 (104 ∷ [])
h_is_text = IsUtf8-from_ascii _ (search rules)

f_is_text : IsUtf8 (102 ∷ [])
f_is_text = IsUtf8-from_ascii _ (search rules)

g_is_text : IsUtf8 (103 ∷ [])
g_is_text = IsUtf8-from_ascii _ (search rules)

pub type_fits : (params results : List ValType) → params ≡ [] → results ≡ I32 ∷ []
    → FitsFuncType (record { params = params; results = results })
type_fits params results none one = (all_none FitsValType params none, all_one FitsValType results I32 one tt)

pub import_fits : (module_name name : List ℕ) → module_name ≡ 104 ∷ [] → name ≡ 102 ∷ []
    → FitsImport (record { «module» = module_name; name = name; kind = imports.Func 0 })
import_fits module_name name h f = (letter module_name 104 h_is_text h, letter name 102 f_is_text f, omega arith)

pub export_fits : (name : List ℕ) → name ≡ 103 ∷ [] → FitsExport (record { name = name; kind = exports.Func 1 })
export_fits name g = (letter name 103 g_is_text g, omega arith)

body_fits : FitsBody Replay (Call 0 ∷ Call 0 ∷ Numeric 0x6A ∷ End ∷ [])
body_fits = record {
  instructions = (omega arith, (omega arith, (search rules, (tt, tt))));
  nest = Plain (Call 0) (Plain (Call 0) (Plain (Numeric 0x6A) Empty));
  is_body = record { nested = search rules; written = refl };
}

pub func_fits : (locals : List Run) (body : List Instr) → locals ≡ [] → body ≡ Call 0 ∷ Call 0 ∷ Numeric 0x6A ∷ End ∷ []
    → FitsFunc Replay (record { ty = 0; locals = locals; body = body })
func_fits locals body none is =
    (omega arith, subst FitsLocals (sym none) (tt, tt, omega arith), subst (FitsBody Replay) (sym is) body_fits)

pub encodable : (m : Module) (ty : FuncType) (i : Import) (func : Func) (e : Export)
    → m.types ≡ ty ∷ [] → FitsFuncType ty → m.imports ≡ i ∷ [] → FitsImport i → m.funcs ≡ func ∷ []
    → FitsFunc Replay func
    → m.exports ≡ e ∷ [] → FitsExport e → m.tables ≡ [] → m.memories ≡ [] → m.globals ≡ [] → m.start ≡ None
    → m.elems ≡ [] → m.datas ≡ [] → m.customs ≡ [] → IsEncodable Replay m
encodable m ty i func e types type_ok imports import_ok funcs func_ok exports export_ok tables memories globals start
    elems datas customs =
    record {
      types = all_one _ _ _ types type_ok;
      imports = all_one _ _ _ imports import_ok;
      funcs = all_one _ _ _ funcs func_ok;
      tables = all_none _ _ tables;
      memories = all_none _ _ memories;
      globals = all_none _ _ globals;
      exports = all_one _ _ _ exports export_ok;
      start = subst (λ o. IfSome o FitsU32) (sym start) tt;
      elems = all_none _ _ elems;
      datas = all_none _ _ datas;
      customs = all_none _ _ customs;
    }
