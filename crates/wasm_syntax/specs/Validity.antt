-- Validity of modules (Core 1.0, 3.4), and the place at which a module is invalid.
use Rattle.std.specs.Prelude.{◌≡◌, ◌≢◌, ℕ, ◌+◌, ◌^◌, ◌<◌, ◌≤◌, List, [], ◌∷◌, ◌++◌, length, reverse, replicate, flat_map, filter_map, Option, Some, None, cond, IsTrue, IfSome, slice_get, option_and_then, All, AllPairs}
use Rattle.wasm_syntax.specs.declared.limits.TheConstants.{MAX_DECLARED_PAGES}
use Rattle.wasm_syntax.specs.declared.values.ValType.{ValType}
use Rattle.wasm_syntax.specs.declared.values.ValType.TheVariants.{I32}
use Rattle.wasm_syntax.specs.declared.signatures.FuncType.{FuncType}
use Rattle.wasm_syntax.specs.declared.signatures.Limits.{Limits}
use Rattle.wasm_syntax.specs.declared.signatures.GlobalType.{GlobalType}
use Rattle.wasm_syntax.specs.declared.instructions.Instr.{Instr}
use Rattle.wasm_syntax.specs.declared.instructions.Instr.TheVariants.{End, GlobalGet, Const}
use Rattle.wasm_syntax.specs.declared.modules.Module.{Module}
use Rattle.wasm_syntax.specs.declared.modules.ImportKind.{ImportKind}
use Rattle.wasm_syntax.specs.declared.modules.ImportKind.TheVariants as import
use Rattle.wasm_syntax.specs.declared.modules.Export.{Export}
use Rattle.wasm_syntax.specs.declared.modules.ExportKind.{ExportKind}
use Rattle.wasm_syntax.specs.declared.modules.ExportKind.TheVariants.{Func, Table, Memory, Global}
use Rattle.wasm_syntax.specs.declared.modules.Run.{Run}
use Rattle.wasm_syntax.specs.declared.modules.Func.{Func as Function}
use Rattle.wasm_syntax.specs.declared.modules.Global.{Global as Variable}
use Rattle.wasm_syntax.specs.declared.modules.ElemSeg.{ElemSeg}
use Rattle.wasm_syntax.specs.declared.modules.ElemSeg.TheVariants.{Active, Declared}
use Rattle.wasm_syntax.specs.declared.modules.DataSeg.{DataSeg}
use Rattle.wasm_syntax.specs.Nest.{Nest, IsBody}
use Rattle.wasm_syntax.specs.Index.{func_indices, imported_funcs, type_at, func_type, all_tables, all_memories, imported_globals, all_globals}
use Rattle.wasm_syntax.specs.Typing.{Context, is_number, is_constant, IsTyped}

-- number types alone
abbrev pub AreNumbers : List ValType → Type 0
AreNumbers types = All (λ t. IsTrue (is_number t)) types

-- a function type (Core 1.0, 3.2.2)
pub record IsFuncType (ty : FuncType) : Type 0 where
  pub params : AreNumbers ty.params
  pub results : AreNumbers ty.results
  pub one_result : length ty.results ≤ 1

-- limits within a range (Core 1.0, 3.2.1)
pub record IsLimits (range : ℕ) (limits : Limits) : Type 0 where
  pub min : limits.min ≤ range
  pub max : IfSome limits.max (λ max. (max ≤ range) × (limits.min ≤ max))

-- the limits of a table (Core 1.0, 3.2.3) and of a memory (Core 1.0, 3.2.4)
abbrev pub IsTable : Limits → Type 0
IsTable limits = IsLimits (2 ^ 32) limits

abbrev pub IsMemory : Limits → Type 0
IsMemory limits = IsLimits MAX_DECLARED_PAGES limits

-- there is a function, table, memory or global of this index (Core 1.0, 3.4.8)
abbrev pub IsThere : Module → ExportKind → Type 0
IsThere m (Func x) = x < length (func_indices m)
IsThere m (Table x) = x < length (all_tables m)
IsThere m (Memory x) = x < length (all_memories m)
IsThere m (Global x) = x < length (all_globals m)

-- an import is valid (Core 1.0, 3.4.9)
abbrev pub IsImport : Module → ImportKind → Type 0
IsImport m (import.Func ty) = ty < length m.types
IsImport m (import.Table limits) = IsTable limits
IsImport m (import.Memory limits) = IsMemory limits
IsImport m (import.Global ty) = IsTrue (is_number ty.ty)

-- the one instruction of an expression that has just one
abbrev pub single : List Instr → Option Instr
single (i ∷ End ∷ []) = Some i
single other = None

-- the type of a global that is immutable
abbrev pub immutable_type : GlobalType → Option ValType
immutable_type ty = cond ty.mutable None (Some ty.ty)

-- the type of a constant instruction (Core 1.0, 3.3.7.2)
abbrev pub constant_type : Module → Instr → Option ValType
constant_type m (Const v) = cond (is_constant v) (Some v.ty) None
constant_type m (GlobalGet x) = option_and_then immutable_type (slice_get (imported_globals m) x)
constant_type m other = None

-- a constant expression of a type (Core 1.0, 3.3.7)
abbrev pub IsConstant : Module → ValType → List Instr → Type 0
IsConstant m ty body = option_and_then (constant_type m) (single body) ≡ Some ty

-- a function but for its body (Core 1.0, 3.4.1)
pub record IsDeclaredFunc (m : Module) (f : Function) : Type 0 where
  pub type_there : f.ty < length m.types
  pub locals : All (λ run. IsTrue (is_number run.ty)) f.locals

-- a global (Core 1.0, 3.4.4)
pub record IsGlobal (m : Module) (g : Variable) : Type 0 where
  pub number : IsTrue (is_number g.ty.ty)
  pub init : IsConstant m g.ty.ty g.init

-- a start function takes nothing and gives nothing (Core 1.0, 3.4.7)
pub record IsStart (m : Module) (f : ℕ) : Type 0 where
  pub ty : FuncType
  pub has_type : func_type m f ≡ Some ty
  pub params : ty.params ≡ []
  pub results : ty.results ≡ []

-- each function of a list exists
abbrev pub AreFuncs : Module → List ℕ → Type 0
AreFuncs m funcs = All (λ f. IsThere m (Func f)) funcs

-- an element segment (Core 1.0, 3.4.5; a declared one: Core 2.0, 3.4.5)
abbrev pub IsElem : Module → ElemSeg → Type 0
IsElem m (Active table offset funcs) = IsThere m (Table table) × IsConstant m I32 offset × AreFuncs m funcs
IsElem m (Declared funcs) = AreFuncs m funcs

-- a data segment (Core 1.0, 3.4.6)
pub record IsData (m : Module) (data_seg : DataSeg) : Type 0 where
  pub memory : IsThere m (Memory data_seg.memory)
  pub offset : IsConstant m I32 data_seg.offset

-- all of a module but the bodies of its functions (Core 1.0, 3.4.10)
pub record IsValidOutside (m : Module) : Type 0 where
  pub types : All IsFuncType m.types
  pub imports : All (λ i. IsImport m i.kind) m.imports
  pub funcs : All (IsDeclaredFunc m) m.funcs
  pub tables : All IsTable m.tables
  pub memories : All IsMemory m.memories
  pub globals : All (IsGlobal m) m.globals
  pub exports : All (λ e. IsThere m e.kind) m.exports
  pub names_differ : AllPairs (λ (e later : Export). e.name ≢ later.name) m.exports
  pub start : IfSome m.start (IsStart m)
  pub elems : All (IsElem m) m.elems
  pub datas : All (IsData m) m.datas
  pub one_table : length (all_tables m) ≤ 1
  pub one_memory : length (all_memories m) ≤ 1

-- the locals of a function one by one, which follow its parameters (Core 1.0, 3.4.1)
abbrev pub each_local : List Run → List ValType
each_local runs = flat_map (λ (run : Run). replicate run.count run.ty) runs

-- the functions of a segment, of an export
abbrev pub elem_funcs : ElemSeg → List ℕ
elem_funcs (Active table offset funcs) = funcs
elem_funcs (Declared funcs) = funcs

abbrev pub exported_func : ExportKind → Option ℕ
exported_func (Func x) = Some x
exported_func other = None

-- the functions that bodies may refer to (Core 2.0, 3.4.10)
abbrev pub declared_funcs : Module → List ℕ
declared_funcs m = flat_map elem_funcs m.elems ++ filter_map (λ e. exported_func e.kind) m.exports

-- the context of the body of a function of this type (Core 1.0, 3.4.1 and 3.4.10)
abbrev pub body_context : Module → FuncType → Function → Context
body_context m ty f = record {
  types = m.types;
  funcs = func_indices m;
  tables = all_tables m;
  memories = all_memories m;
  globals = all_globals m;
  locals = ty.params ++ each_local f.locals;
  labels = reverse ty.results ∷ [];
  results = reverse ty.results;
  declared = declared_funcs m;
}

-- the body of a function is nested and has a typing (Core 1.0, 3.4.1)
pub record IsTypedFunc (m : Module) (f : Function) : Type 0 where
  pub ty : FuncType
  pub nest : Nest
  pub has_type : type_at m f.ty ≡ Some ty
  pub is_body : IsBody nest f.body
  pub typed : IsTyped (body_context m ty f) nest [] (reverse ty.results)

-- a valid module
pub record IsValid (m : Module) : Type 0 where
  pub outside : IsValidOutside m
  pub bodies : All (IsTypedFunc m) m.funcs

-- the defined function at a place has no typing, and each one before it has a typing
pub record IsFirstUntyped (m : Module) (place : ℕ) : Type 0 where
  pub func : Function
  pub found : slice_get m.funcs place ≡ Some func
  pub untyped : ¬ IsTypedFunc m func
  pub before : (earlier : ℕ) (f : Function) → earlier < place → slice_get m.funcs earlier ≡ Some f → IsTypedFunc m f

-- the place at which a module is invalid: outside the bodies, or else in the first function without a typing,
-- which is named by its index
abbrev pub IsInvalidAt : Module → Option ℕ → Type 0
IsInvalidAt m None = ¬ IsValidOutside m
IsInvalidAt m (Some func) =
    IsValidOutside m × ((place : ℕ) × (func ≡ imported_funcs m + place) × IsFirstUntyped m place)
