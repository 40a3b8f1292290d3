-- The instrumented module: the original with calls of hooks around its instructions, and the weights under which its
-- run takes the original's turns.
use Rattle.std.specs.Prelude.{ℕ, ◌+◌, ◌-◌, List, [], ◌∷◌, ◌++◌, length, map, filter, Option, Some, cond, not, slice_get, slice_index, option_map, codes}
use Rattle.std.specs.List.{slice_index_or}
use Rattle.leb_bytes.specs.Unsigned.{u32_bytes}
use Rattle.wasm_syntax.specs.declared.values.ValType.{ValType}
use Rattle.wasm_syntax.specs.declared.values.ValType.TheVariants.{I32, I64, F32, F64}
use Rattle.wasm_syntax.specs.declared.signatures.FuncType.{FuncType}
use Rattle.wasm_syntax.specs.declared.instructions.Instr.{Instr}
use Rattle.wasm_syntax.specs.declared.instructions.Instr.TheVariants.{Call, End}
use Rattle.wasm_syntax.specs.declared.modules.Import.{Import}
use Rattle.wasm_syntax.specs.declared.modules.ImportKind.TheVariants.{Func as FuncImport}
use Rattle.wasm_syntax.specs.declared.modules.Export.{Export}
use Rattle.wasm_syntax.specs.declared.modules.ExportKind.{ExportKind}
use Rattle.wasm_syntax.specs.declared.modules.ExportKind.TheVariants as exports
use Rattle.wasm_syntax.specs.declared.modules.ElemSeg.{ElemSeg}
use Rattle.wasm_syntax.specs.declared.modules.ElemSeg.TheVariants.{Active, Declared}
use Rattle.wasm_syntax.specs.declared.modules.Run.{Run}
use Rattle.wasm_syntax.specs.declared.modules.Func.{Func}
use Rattle.wasm_syntax.specs.declared.modules.Custom.{Custom}
use Rattle.wasm_syntax.specs.declared.modules.Module.{Module}
use Rattle.wasm_syntax.specs.Alike.{same_type, same_signature}
use Rattle.wasm_syntax.specs.Index.{imported_funcs, type_at}
use Rattle.wasm_syntax.specs.Nest.{Nest, Empty, Plain, InBlock, InLoop, InIf, InIfElse, flat, nest_of}
use Rattle.wasm_syntax.specs.Validity.{each_local}
use Rattle.history_spec.specs.Run.{Meter}
use Rattle.record_replay_spec.specs.declared.hooks.Hook.{Hook}
use Rattle.record_replay_spec.specs.Hooks.{hooks, hook_count, hook_name, hook_module, hook_type, renumber}
use Rattle.record_replay_spec.specs.Insertions.{Site, imports_at, inserted_before, inserted_after, inserted_at_enter, inserted_at_end}

-- ---- bodies

-- an instruction with its function renumbered
abbrev pub renumbered : (n : ℕ) → Instr → Instr
renumbered n (Call func) = Call (renumber n func)
renumbered n i = i

-- instructions in front of a sequence
abbrev pub before_nest : List Instr → Nest → Nest
before_nest [] nest = nest
before_nest (i ∷ is) nest = Plain i (before_nest is nest)

-- a sequence with code inserted around its instructions
abbrev pub instrumented_nest : Site → Nest → Nest
instrumented_nest s Empty = Empty
instrumented_nest s (Plain i rest) =
    before_nest (inserted_before s i)
    (Plain (renumbered (imports_at s) i) (before_nest (inserted_after s i) (instrumented_nest s rest)))
instrumented_nest s (InBlock ty body rest) = InBlock ty (instrumented_nest s body) (instrumented_nest s rest)
instrumented_nest s (InLoop ty body rest) = InLoop ty (instrumented_nest s body) (instrumented_nest s rest)
instrumented_nest s (InIf ty body rest) = InIf ty (instrumented_nest s body) (instrumented_nest s rest)
instrumented_nest s (InIfElse ty body other rest) =
    InIfElse ty (instrumented_nest s body) (instrumented_nest s other) (instrumented_nest s rest)

-- an instrumented body: a branch to the body's label goes to the end of a block, after which a hook reports the end of
-- the function
abbrev pub instrumented_body : Site → FuncType → Nest → Nest
instrumented_body s ty nest =
    before_nest (inserted_at_enter s ty.params)
    (InBlock (slice_get ty.results 0) (instrumented_nest s nest) (before_nest (inserted_at_end s) Empty))

-- ---- weights: 0 for inserted instructions, 1 for all others

-- the weights of inserted instructions
abbrev pub weightless : List Instr → List ℕ
weightless is = map (λ i. 0) is

-- the weights of a sequence's instructions, by their numbers in the instrumented sequence
abbrev pub weights_of_nest : Site → Nest → List ℕ
weights_of_nest s Empty = []
weights_of_nest s (Plain i rest) =
    weightless (inserted_before s i) ++ 1 ∷ (weightless (inserted_after s i) ++ weights_of_nest s rest)
weights_of_nest s (InBlock ty body rest) = 1 ∷ (weights_of_nest s body ++ weights_of_nest s rest)
weights_of_nest s (InLoop ty body rest) = 1 ∷ (weights_of_nest s body ++ weights_of_nest s rest)
weights_of_nest s (InIf ty body rest) = 1 ∷ (weights_of_nest s body ++ weights_of_nest s rest)
weights_of_nest s (InIfElse ty body other rest) =
    1 ∷ (weights_of_nest s body ++ (weights_of_nest s other ++ weights_of_nest s rest))

-- the weights of an instrumented body, whose block is inserted
abbrev pub weights_of_body : Site → FuncType → Nest → List ℕ
weights_of_body s ty nest =
    weightless (inserted_at_enter s ty.params) ++ 0 ∷ (weights_of_nest s nest ++ weightless (inserted_at_end s))

-- ---- functions

-- a run of locals of one type
abbrev pub locals_of : (count : ℕ) → ValType → Run
locals_of count ty = record { count = count; ty = ty }

-- The added locals: two of i32, then one of each other type. Adjacent runs are never of one type, so the first two
-- join the last run of the function's own locals if that is of i32.
abbrev pub other_locals : List Run
other_locals = locals_of 1 I64 ∷ locals_of 1 F32 ∷ locals_of 1 F64 ∷ []

-- the function's last run of locals and the added locals after it
abbrev pub added_after : (last : Run) → List Run
added_after last =
    cond (same_type last.ty I32) (locals_of (last.count + 2) I32 ∷ other_locals)
    (last ∷ locals_of 2 I32 ∷ other_locals)

-- locals with the added ones after them
abbrev pub with_added_locals : List Run → List Run
with_added_locals [] = locals_of 2 I32 ∷ other_locals
with_added_locals (last ∷ []) = added_after last
with_added_locals (run ∷ next ∷ runs) = run ∷ with_added_locals (next ∷ runs)

-- the site of a function's body, by the function's index and type
abbrev pub site_of : Module → (index : ℕ) → FuncType → Func → Site
site_of m index ty func =
    record { m = m; func = index; locals = length ty.params + length (each_local func.locals) }

-- a function with its body instrumented, if it has a type and its body is nested, as in a valid module
abbrev pub instrumented_func : Module → (index : ℕ) → Func → Option FuncType → Option Nest → Func
instrumented_func m index func (Some ty) (Some nest) =
    record func {
      locals = with_added_locals func.locals;
      body = flat (instrumented_body (site_of m index ty func) ty nest) ++ End ∷ [];
    }
instrumented_func m index func ty nest = func

-- the weights of an instrumented function's instructions
abbrev pub weights_of_func : Module → (index : ℕ) → Func → Option FuncType → Option Nest → List ℕ
weights_of_func m index func (Some ty) (Some nest) = weights_of_body (site_of m index ty func) ty nest
weights_of_func m index func ty nest = []

-- the items made from the defined functions, whose indices begin at `index`
abbrev pub each_func : {X : Type 0} → Module → (ℕ → Func → Option FuncType → Option Nest → X) → (index : ℕ)
    → List Func → List X
each_func m make index [] = []
each_func m make index (func ∷ funcs) =
    make index func (type_at m func.ty) (nest_of func.body) ∷ each_func m make (index + 1) funcs

-- ---- the module

-- the types without repetitions, in the order of their first occurrence
abbrev pub distinct : List FuncType → List FuncType
distinct [] = []
distinct (ty ∷ types) = ty ∷ filter (λ later. not (same_signature ty later)) (distinct types)

-- the types of the hooks
abbrev pub hook_types : List FuncType
hook_types = distinct (map hook_type hooks)

-- the place of a type in a list of types
abbrev pub place_among : List FuncType → FuncType → ℕ
place_among [] ty = 0
place_among (first ∷ types) ty = cond (same_signature first ty) 0 (1 + place_among types ty)

-- the import of a hook
abbrev pub hook_import : Module → Hook → Import
hook_import m kind =
    record {
      «module» = hook_module;
      name = hook_name kind;
      kind = FuncImport (length m.types + place_among hook_types (hook_type kind));
    }

-- an export with its function renumbered
abbrev pub renumbered_kind : (n : ℕ) → ExportKind → ExportKind
renumbered_kind n (exports.Func func) = exports.Func (renumber n func)
renumbered_kind n kind = kind

-- an export with its function renumbered
abbrev pub renumbered_export : (n : ℕ) → Export → Export
renumbered_export n export = record export { kind = renumbered_kind n export.kind }

-- an element segment with its functions renumbered
abbrev pub renumbered_elem : (n : ℕ) → ElemSeg → ElemSeg
renumbered_elem n (Active table offset funcs) = Active table offset (map (renumber n) funcs)
renumbered_elem n (Declared funcs) = Declared (map (renumber n) funcs)

-- the name of the section that marks an instrumented module
abbrev pub section_name : List ℕ
section_name = codes "r3.hooked"

-- the bytes of the section: the digest of the original's bytes, and the numbers of functions that the original imports
-- and defines
abbrev pub section_bytes : (digest : List ℕ) → (imports defined : ℕ) → List ℕ
section_bytes digest imports defined = digest ++ (u32_bytes imports ++ u32_bytes defined)

-- the section that marks an instrumented module
abbrev pub hooked_section : Module → (digest : List ℕ) → Custom
hooked_section m digest =
    record { name = section_name; bytes = section_bytes digest (imported_funcs m) (length m.funcs) }

-- the instrumented module of an original and its digest
abbrev pub instrumented_module : Module → (digest : List ℕ) → Module
instrumented_module m digest =
    record m {
      types = m.types ++ hook_types;
      imports = m.imports ++ map (hook_import m) hooks;
      funcs = each_func m (instrumented_func m) (imported_funcs m) m.funcs;
      exports = map (renumbered_export (imported_funcs m)) m.exports;
      start = option_map (renumber (imported_funcs m)) m.start;
      elems = map (renumbered_elem (imported_funcs m)) m.elems;
      customs = hooked_section m digest ∷ [];
    }

-- the weights of the instrumented module's instructions, by defined function and number
abbrev pub instrumented_weights : Module → List (List ℕ)
instrumented_weights m = each_func m (weights_of_func m) (imported_funcs m) m.funcs

-- the meter under which the run of the instrumented module takes the turns of the original's
abbrev pub instrumented_meter : Module → Meter
instrumented_meter m =
    record {
      instruction = λ func number.
          slice_index (slice_index_or (instrumented_weights m) (func - (imported_funcs m + hook_count)) []) number;
      action = 1;
    }
