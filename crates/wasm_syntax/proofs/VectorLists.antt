-- The lists of a module and the bytes of its shortest encoding.
use Rattle.std.proofs.Common.{ℕ, zero, suc, ◌+◌, ◌<◌, ◌≤◌, List, [], ◌∷◌, ◌++◌, length, get_or, map, Option, Some, None, subst, arith}
use Rattle.std.specs.List.{AllByRecursion, cons_option}
use Rattle.std.proofs.lemmas.List.{length-append, length-map, get_or-map}
use Rattle.leb_bytes.specs.Unsigned.{u32_bytes}
use Rattle.wasm_syntax.specs.declared.forms.Form.{Form}
use Rattle.wasm_syntax.specs.declared.signatures.FuncType.{FuncType}
use Rattle.wasm_syntax.specs.declared.modules.Import.{Import}
use Rattle.wasm_syntax.specs.declared.modules.Func.{Func}
use Rattle.wasm_syntax.specs.declared.modules.Module.{Module}
use Rattle.wasm_syntax.specs.Index.{func_import, of_kind}
use Rattle.wasm_syntax.specs.Encoding.Encodable.{IsEncodable, FitsInstr, FitsFunc}
use Rattle.wasm_syntax.specs.Encoding.Sections.{Code}
use Rattle.wasm_syntax.specs.Encoding.Modules.{code_of}
use Rattle.wasm_syntax.specs.Encoding.Shortest.{vector_bytes, val_type_bytes, func_type_bytes, instr_bytes, import_bytes, global_bytes, run_bytes, body_bytes, code_bytes, encoding_of}
use Rattle.wasm_syntax.proofs.Encoding.NotEmpty.{func_type_bytes_some, import_bytes_some, global_bytes_some, run_bytes_some, instr_bytes_some}
use Rattle.wasm_syntax.specs.ListsWithin.{HasListsWithin}
use Rattle.wasm_syntax.proofs.ItemLists.{items, items_as, items_some, items_some_of, items_one, vector_length, sized_length}
use Rattle.wasm_syntax.proofs.SectionLists.{encoding_least}
use Rattle.wasm_syntax.proofs.Encoding.Writing.{u32_some}

-- ---- items

-- the parameters of a type
type_params : (ty : FuncType) → length ty.params ≤ length (func_type_bytes ty)
unfolding func_type_bytes
type_params ty = omega (
  arith,
  length-append (vector_bytes val_type_bytes ty.params) (vector_bytes val_type_bytes ty.results),
  vector_length val_type_bytes ty.params,
  items_some val_type_bytes (λ t. omega arith) ty.params,
)

-- the runs of locals of a function
code_parts : (code : Code) → items run_bytes code.locals + items instr_bytes code.body ≤ length (code_bytes code)
unfolding code_bytes
code_parts code = omega (
  arith,
  sized_length (vector_bytes run_bytes code.locals ++ body_bytes code.body),
  length-append (vector_bytes run_bytes code.locals) (body_bytes code.body),
  vector_length run_bytes code.locals,
  items_as instr_bytes code.body,
)

-- the code of a function takes as many bytes as its body has instructions, and its locals runs
func_body : (form : Form) (func : Func) → FitsFunc form func → length func.body ≤ length (code_bytes (code_of func))
func_body form func fits = omega (
  arith,
  code_parts (code_of func),
  items_some_of (FitsInstr form) instr_bytes (instr_bytes_some form) func.body fits.2.instructions,
)

func_locals : (func : Func) → length func.locals ≤ length (code_bytes (code_of func))
func_locals func = omega (arith, code_parts (code_of func), items_some run_bytes run_bytes_some func.locals)

-- a function's code among all
code_one : (funcs : List Func) (k : ℕ) (d : Func) → k < length funcs
    → length (code_bytes (code_of (get_or funcs k d))) ≤ items code_bytes (map code_of funcs)
code_one funcs k d h =
    subst (λ code. length (code_bytes code) ≤ items code_bytes (map code_of funcs))
    (get_or-map code_of funcs k d (code_of d) h)
    (items_one code_bytes (map code_of funcs) k (code_of d) (omega (arith, h, length-map funcs code_of)))

fits_one : (form : Form) (funcs : List Func) (k : ℕ) (d : Func) → k < length funcs
    → AllByRecursion (FitsFunc form) funcs → FitsFunc form (get_or funcs k d)
fits_one form [] k d h all = absurd (omega (arith, h))
fits_one form (func ∷ funcs) zero d h all = all.0
fits_one form (func ∷ funcs) (suc k) d h all = fits_one form funcs k d (omega (arith, h)) all.1

-- imported functions are imports
cons_option-most : {K : Type 0} (o : Option K) (xs : List K) → length (cons_option o xs) ≤ suc (length xs)
cons_option-most None xs = omega arith
cons_option-most (Some x) xs = omega arith

imported_funcs-most : (imports : List Import) → length (of_kind func_import imports) ≤ length imports
imported_funcs-most [] = omega arith
imported_funcs-most (i ∷ imports) =
    omega (arith, imported_funcs-most imports, cons_option-most (func_import i.kind) (of_kind func_import imports))

-- types, imports and functions are no more than the bytes
pub few_parts : (m : Module) → length m.types + length m.imports + length m.funcs ≤ length (encoding_of m)
few_parts m = omega (
  arith,
  encoding_least m,
  items_some func_type_bytes func_type_bytes_some m.types,
  items_some import_bytes import_bytes_some m.imports,
  items_some u32_bytes u32_some (map (λ func. func.ty) m.funcs),
  length-map m.funcs (λ func. func.ty),
)

-- a global takes a byte at least
pub globals_few : (m : Module) → length m.globals ≤ length (encoding_of m)
globals_few m = omega (arith, encoding_least m, items_some global_bytes global_bytes_some m.globals)

-- no list is longer than the bytes of an encodable module's shortest encoding
pub lists_within : (form : Form) (m : Module) (most : ℕ) → IsEncodable form m → length (encoding_of m) ≤ most
    → HasListsWithin most m
lists_within form m most encodable short =
    let count = length-map m.funcs (λ func. func.ty) in
    let least = encoding_least m in
    record {
      parts = omega (arith, short, few_parts m);
      funcs = omega (
        arith,
        short,
        few_parts m,
        count,
        imported_funcs-most m.imports,
        length-append (of_kind func_import m.imports) (map (λ func. func.ty) m.funcs),
      );
      params = λ k d h.
          omega (arith, short, least, type_params (get_or m.types k d), items_one func_type_bytes m.types k d h);
      locals = λ k d h.
          omega (arith, short, least, func_locals (get_or m.funcs k d), code_one m.funcs k d h);
      bodies = λ k d h. omega (
        arith,
        short,
        least,
        func_body form (get_or m.funcs k d) (fits_one form m.funcs k d h encodable.funcs),
        code_one m.funcs k d h,
      );
    }
