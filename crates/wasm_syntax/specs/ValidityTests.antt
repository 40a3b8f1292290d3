-- Plain tests beside the conditions of validity: they find the place at which a module is invalid.
use Rattle.std.specs.Prelude.{ℕ, ◌+◌, ◌^◌, List, [], ◌∷◌, length, reverse, Option, Some, None, Bool, true, false, cond, not, ◌&&◌, nat_lt, nat_le, bytes_eq, position, option_map, option_and_then}
use Rattle.std.specs.List.{list_all}
use Rattle.wasm_syntax.specs.declared.limits.TheConstants.{MAX_DECLARED_PAGES}
use Rattle.wasm_syntax.specs.declared.values.ValType.{ValType}
use Rattle.wasm_syntax.specs.declared.values.ValType.TheVariants.{I32}
use Rattle.wasm_syntax.specs.declared.signatures.FuncType.{FuncType}
use Rattle.wasm_syntax.specs.declared.signatures.Limits.{Limits}
use Rattle.wasm_syntax.specs.declared.instructions.Instr.{Instr}
use Rattle.wasm_syntax.specs.declared.modules.Module.{Module}
use Rattle.wasm_syntax.specs.declared.modules.ImportKind.{ImportKind}
use Rattle.wasm_syntax.specs.declared.modules.ImportKind.TheVariants as import
use Rattle.wasm_syntax.specs.declared.modules.Export.{Export}
use Rattle.wasm_syntax.specs.declared.modules.ExportKind.{ExportKind}
use Rattle.wasm_syntax.specs.declared.modules.ExportKind.TheVariants.{Func, Table, Memory, Global}
use Rattle.wasm_syntax.specs.declared.modules.Func.{Func as Function}
use Rattle.wasm_syntax.specs.declared.modules.Global.{Global as Variable}
use Rattle.wasm_syntax.specs.declared.modules.ElemSeg.{ElemSeg}
use Rattle.wasm_syntax.specs.declared.modules.ElemSeg.TheVariants.{Active, Declared}
use Rattle.wasm_syntax.specs.declared.modules.DataSeg.{DataSeg}
use Rattle.wasm_syntax.specs.Nest.{Nest, nest_of}
use Rattle.wasm_syntax.specs.Index.{func_indices, imported_funcs, type_at, func_type, all_tables, all_memories, all_globals}
use Rattle.wasm_syntax.specs.Typing.{Context, is_number}
use Rattle.wasm_syntax.specs.Validity.{constant_type, single, body_context}
use Rattle.wasm_syntax.specs.KnownStacks.{nothing, same_type, ends, known_after}

abbrev pub are_numbers : List ValType → Bool
are_numbers types = list_all is_number types

abbrev pub is_func_type : FuncType → Bool
is_func_type ty = are_numbers ty.params && (are_numbers ty.results && nat_le (length ty.results) 1)

-- whether a maximum is within the range, and not below the minimum
abbrev pub is_maximum : ℕ → ℕ → Option ℕ → Bool
is_maximum range min None = true
is_maximum range min (Some max) = nat_le max range && nat_le min max

abbrev pub is_limits : ℕ → Limits → Bool
is_limits range limits = nat_le limits.min range && is_maximum range limits.min limits.max

abbrev pub is_table : Limits → Bool
is_table limits = is_limits (2 ^ 32) limits

abbrev pub is_memory : Limits → Bool
is_memory limits = is_limits MAX_DECLARED_PAGES limits

abbrev pub is_there : Module → ExportKind → Bool
is_there m (Func x) = nat_lt x (length (func_indices m))
is_there m (Table x) = nat_lt x (length (all_tables m))
is_there m (Memory x) = nat_lt x (length (all_memories m))
is_there m (Global x) = nat_lt x (length (all_globals m))

abbrev pub is_import : Module → ImportKind → Bool
is_import m (import.Func ty) = nat_lt ty (length m.types)
is_import m (import.Table limits) = is_table limits
is_import m (import.Memory limits) = is_memory limits
is_import m (import.Global ty) = is_number ty.ty

-- whether a type is the wanted one
abbrev pub is_wanted : ValType → Option ValType → Bool
is_wanted t None = false
is_wanted t (Some u) = same_type u t

abbrev pub is_constant_of : Module → ValType → List Instr → Bool
is_constant_of m ty body = is_wanted ty (option_and_then (constant_type m) (single body))

abbrev pub is_declared_func : Module → Function → Bool
is_declared_func m f = nat_lt f.ty (length m.types) && list_all (λ run. is_number run.ty) f.locals

abbrev pub is_global : Module → Variable → Bool
is_global m g = is_number g.ty.ty && is_constant_of m g.ty.ty g.init

abbrev pub is_nil : List ValType → Bool
is_nil [] = true
is_nil (t ∷ types) = false

abbrev pub is_start_type : Option FuncType → Bool
is_start_type None = false
is_start_type (Some ty) = is_nil ty.params && is_nil ty.results

abbrev pub is_start : Module → Option ℕ → Bool
is_start m None = true
is_start m (Some f) = is_start_type (func_type m f)

abbrev pub are_funcs : Module → List ℕ → Bool
are_funcs m funcs = list_all (λ f. is_there m (Func f)) funcs

abbrev pub is_elem : Module → ElemSeg → Bool
is_elem m (Active table offset funcs) = is_there m (Table table) && (is_constant_of m I32 offset && are_funcs m funcs)
is_elem m (Declared funcs) = are_funcs m funcs

abbrev pub is_data : Module → DataSeg → Bool
is_data m data_seg = is_there m (Memory data_seg.memory) && is_constant_of m I32 data_seg.offset

-- whether no two exports have the same name
abbrev pub names_differ : List Export → Bool
names_differ [] = true
names_differ (e ∷ exports) =
    list_all (λ (later : Export). not (bytes_eq e.name later.name)) exports && names_differ exports

-- whether the types, and all that is imported or defined, are valid
abbrev pub declares : Module → Bool
declares m =
    list_all is_func_type m.types
    && (list_all (λ i. is_import m i.kind) m.imports
    && (list_all (is_declared_func m) m.funcs
    && (list_all is_table m.tables
    && (list_all is_memory m.memories
    && list_all (is_global m) m.globals))))

-- whether the exports, the start function, the segments, and the numbers of tables and memories are valid
abbrev pub refers : Module → Bool
refers m =
    list_all (λ e. is_there m e.kind) m.exports
    && (names_differ m.exports
    && (is_start m m.start
    && (list_all (is_elem m) m.elems
    && (list_all (is_data m) m.datas
    && (nat_le (length (all_tables m)) 1
    && nat_le (length (all_memories m)) 1)))))

abbrev pub is_valid_outside : Module → Bool
is_valid_outside m = declares m && refers m

-- whether a body is nested, and may leave these types
abbrev pub nest_ends : Context → List ValType → Option Nest → Bool
nest_ends ctx types None = false
nest_ends ctx types (Some nest) = ends types (known_after ctx nest nothing)

abbrev pub body_ends : Module → Function → Option FuncType → Bool
body_ends m f None = false
body_ends m f (Some ty) = nest_ends (body_context m ty f) (reverse ty.results) (nest_of f.body)

abbrev pub is_typed_func : Module → Function → Bool
is_typed_func m f = body_ends m f (type_at m f.ty)

-- the place at which a module is invalid, if it is
abbrev pub invalid_at : Module → Option (Option ℕ)
invalid_at m =
    cond (is_valid_outside m)
    (option_map (λ place. Some (imported_funcs m + place)) (position (λ f. not (is_typed_func m f)) m.funcs))
    (Some None)
