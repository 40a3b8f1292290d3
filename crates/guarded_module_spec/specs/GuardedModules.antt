-- The guarded module of a replay module: it compares the words of its run with given ones.
use Rattle.std.specs.Prelude.{ℕ, ◌+◌, List, [], ◌∷◌, ◌++◌, length, map, flat_map, filter_map, take, drop, Option, Some, None, Bool, false, nat_eq, codes}
use Rattle.std.specs.List.{enumerate_from, list_any, slice_index_or}
use Rattle.wasm_syntax.specs.declared.values.ValType.TheVariants.{I32, I64}
use Rattle.wasm_syntax.specs.declared.signatures.FuncType.{FuncType}
use Rattle.wasm_syntax.specs.declared.instructions.Instr.{Instr}
use Rattle.wasm_syntax.specs.declared.instructions.Instr.TheVariants.{Call}
use Rattle.wasm_syntax.specs.declared.modules.Custom.{Custom}
use Rattle.wasm_syntax.specs.declared.modules.ExportKind.TheVariants.{Func as FuncExport, Global as GlobalExport}
use Rattle.wasm_syntax.specs.declared.modules.Export.{Export}
use Rattle.wasm_syntax.specs.declared.modules.Func.{Func}
use Rattle.wasm_syntax.specs.declared.modules.Global.{Global}
use Rattle.wasm_syntax.specs.declared.modules.Module.{Module}
use Rattle.history_spec.specs.Projection.{Layout}
use Rattle.replay_module_spec.specs.Functions.{start_type, group_type}
use Rattle.replay_module_spec.specs.Fragments.{counter}
use Rattle.replay_module_spec.specs.Merge.{constant_body}
use Rattle.history_spec.specs.Code.{i32_value}
use Rattle.guarded_module_spec.specs.declared.numbers.Numbers.{Numbers}
use Rattle.guarded_module_spec.specs.Numbers.{numbers_of, behind, start_place, begun, passed, checks}
use Rattle.guarded_module_spec.specs.Fronts.{import_front, func_front}
use Rattle.guarded_module_spec.specs.Functions.{start_func, digest_funcs, check_func, next_func, group_funcs}

-- ---- functions outside the original

-- the functions in the places of imports
abbrev pub funcs_in_places : Layout → List Func → List Func
funcs_in_places layout funcs = take layout.imports funcs

-- the original's own functions
abbrev pub original_funcs : Layout → List Func → List Func
original_funcs layout funcs = take layout.defined (drop layout.imports funcs)

-- the appended functions
abbrev pub appended_funcs : Layout → List Func → List Func
appended_funcs layout funcs = drop (layout.imports + layout.defined) funcs

-- the functions outside the original: those in the places of imports, and the appended ones
abbrev pub outside_funcs : Layout → List Func → List Func
outside_funcs layout funcs = funcs_in_places layout funcs ++ appended_funcs layout funcs

-- a call of an import or of an original is one of the function behind its front, or of the front
abbrev pub redirected_instr : Numbers → Instr → Instr
redirected_instr n (Call func) = Call (behind n func)
redirected_instr n instr = instr

-- a function outside, with its calls redirected
abbrev pub redirected : Numbers → Func → Func
redirected n func = record func { body = map (redirected_instr n) func.body }

-- the function that an instruction calls, if it is `call`
abbrev pub called_func : Instr → Option ℕ
called_func (Call func) = Some func
called_func instr = None

-- the functions that the bodies of functions call
abbrev pub called_funcs : List Func → List ℕ
called_funcs funcs = flat_map (λ (func : Func). filter_map called_func func.body) funcs

-- some function of a list calls the function
abbrev pub is_called : ℕ → List Func → Bool
is_called func funcs = list_any (nat_eq func) (called_funcs funcs)

-- ---- all functions

-- the type of this index
abbrev pub type_in : List FuncType → ℕ → FuncType
type_in types ty = slice_index_or types ty start_type

-- the fronts of imports, by the functions in their places
abbrev pub import_fronts : List FuncType → Numbers → List Func → List Func
import_fronts types n funcs =
    map (λ (e : ℕ × Func). import_front n (type_in types e.1.ty) e.0 e.1.ty) (enumerate_from 0 funcs)

-- the fronts of originals, the first of which has this number
abbrev pub func_fronts : List FuncType → Numbers → (outside : List Func) → (first : ℕ) → List Func → List Func
func_fronts types n outside first funcs =
    map (λ (e : ℕ × Func). func_front (is_called e.0 outside) n (type_in types e.1.ty) e.0 e.1.ty)
    (enumerate_from first funcs)

-- the functions of a guarded module's own
abbrev pub own_funcs : Numbers → (entry : ℕ) → List ℕ → List Func
own_funcs n entry words =
    start_func n entry
    ∷ (digest_funcs n.digests n ++ check_func n ∷ next_func n (length words) ∷ group_funcs n words)

-- the functions of a guarded module: fronts in the places of imports, the originals under their numbers, the appended
-- ones; then those that were in the places of imports, the fronts of originals, and its own
abbrev pub guarded_funcs : Module → Layout → (entry : ℕ) → List ℕ → List Func
guarded_funcs m layout entry words =
    import_fronts m.types (numbers_of m layout) (funcs_in_places layout m.funcs)
    ++ (original_funcs layout m.funcs
    ++ (map (redirected (numbers_of m layout)) (appended_funcs layout m.funcs)
    ++ (map (redirected (numbers_of m layout)) (funcs_in_places layout m.funcs)
    ++ (func_fronts m.types (numbers_of m layout) (outside_funcs layout m.funcs) layout.imports
    (original_funcs layout m.funcs)
    ++ own_funcs (numbers_of m layout) entry words))))

-- ---- the module

-- the types of a guarded module's own
abbrev pub own_types : List FuncType
own_types =
    start_type ∷ record { params = I64 ∷ []; results = [] } ∷ record { params = []; results = I64 ∷ [] }
    ∷ group_type (I64 ∷ []) ∷ []

-- the global that has the number of all checks
abbrev pub checks_global : (count : ℕ) → Global
checks_global count = record { ty = record { ty = I32; mutable = false }; init = constant_body (i32_value count) }

-- the globals of its own: how many checks have begun, how many are passed, and how many there are
abbrev pub own_globals : (count : ℕ) → List Global
own_globals count = counter ∷ counter ∷ checks_global count ∷ []

-- the export of a global
abbrev pub global_export : (name : List ℕ) → (global : ℕ) → Export
global_export name global = record { name = name; kind = GlobalExport global }

-- its exports: the function that runs it, and the three globals
abbrev pub own_exports : Numbers → List Export
own_exports n =
    record { name = codes "_start"; kind = FuncExport (start_place n) }
    ∷ global_export (codes "begun") (begun n)
    ∷ global_export (codes "passed") (passed n)
    ∷ global_export (codes "checks") (checks n) ∷ []

-- the custom section that marks a guarded module
abbrev pub guard_section : Custom
guard_section = record { name = codes "r3.guard"; bytes = [] }

-- the guarded module of a replay module, of its layout and of the function that it exports, for given words
abbrev pub guarded_module : Module → Layout → (entry : ℕ) → List ℕ → Module
guarded_module m layout entry words =
    record m {
      types = m.types ++ own_types;
      funcs = guarded_funcs m layout entry words;
      globals = m.globals ++ own_globals (length words);
      exports = own_exports (numbers_of m layout);
      customs = m.customs ++ guard_section ∷ [];
    }
