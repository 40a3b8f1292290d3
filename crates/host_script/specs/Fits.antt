-- A script fits a module; the reader of scripts accepts only scripts that fit.
use Rattle.std.specs.Prelude.{◌≡◌, ℕ, ◌<◌, ◌≤◌, List, [], length, map, Option, Some, IsTrue, IfSome, slice_get, All}
use Rattle.std.specs.List.{AllZip}
use Rattle.std.specs.Option.{option_to_list}
use Rattle.wasm_syntax.specs.declared.values.ValType.{ValType}
use Rattle.wasm_syntax.specs.declared.values.ValType.TheVariants.{I32}
use Rattle.wasm_syntax.specs.declared.values.Val.{Val}
use Rattle.wasm_syntax.specs.declared.signatures.FuncType.{FuncType}
use Rattle.wasm_syntax.specs.declared.signatures.GlobalType.{GlobalType}
use Rattle.wasm_syntax.specs.declared.modules.Module.{Module}
use Rattle.wasm_syntax.specs.Index.{of_kind, func_import, func_indices, imported_funcs, imported_globals, type_at, func_type, all_tables, all_memories, all_globals}
use Rattle.wasm_syntax.specs.Typing.{is_constant}
use Rattle.host_script.specs.declared.scripts.Address.{Address}
use Rattle.host_script.specs.declared.scripts.Address.TheVariants.{Fixed, Arg}
use Rattle.host_script.specs.declared.scripts.Action.{Action}
use Rattle.host_script.specs.declared.scripts.Action.TheVariants.{Write, Copy, SetTable, SetGlobal, Grow, GrowTable, Call, CallTable}
use Rattle.host_script.specs.declared.scripts.Answer.{Answer}
use Rattle.host_script.specs.declared.scripts.Response.{Response}
use Rattle.host_script.specs.declared.scripts.ResponseEnd.{ResponseEnd}
use Rattle.host_script.specs.declared.scripts.ResponseEnd.TheVariants.{Return, Trap}
use Rattle.host_script.specs.declared.scripts.Script.{Script}

-- values of number types, the bits of each within its type's width
abbrev pub AreConstants : List Val → Type 0
AreConstants values = All (λ value. IsTrue (is_constant value)) values

-- values of number types, in their ranges, that have these types
pub record AreOfTypes (types : List ValType) (values : List Val) : Type 0 where
  pub in_range : AreConstants values
  pub typed : map (λ value. value.ty) values ≡ types

abbrev pub HasMemory : Module → Type 0
HasMemory m = 0 < length (all_memories m)

abbrev pub HasTable : Module → Type 0
HasTable m = 0 < length (all_tables m)

-- whether an address may be used: an argument must be an i32, given the types of the arguments of the call
abbrev pub FitsAddress : List ValType → Address → Type 0
FitsAddress params (Fixed address) = Unit {0}
FitsAddress params (Arg number plus) = slice_get params number ≡ Some I32

-- a global that the host sets exists, is mutable, and has the value's type
pub record IsSettable (m : Module) (global : ℕ) (value : Val) : Type 0 where
  pub in_range : IsTrue (is_constant value)
  pub ty : GlobalType
  pub there : slice_get (all_globals m) global ≡ Some ty
  pub mutable : IsTrue ty.mutable
  pub typed : value.ty ≡ ty.ty

-- a function that the host calls is a defined one, and takes these arguments
pub record IsCallable (m : Module) (func : ℕ) (args : List Val) : Type 0 where
  pub defined : imported_funcs m ≤ func
  pub ty : FuncType
  pub has_type : func_type m func ≡ Some ty
  pub fit : AreOfTypes ty.params args

-- an action fits, given the types of the arguments of the call that is answered; the host's own work has no arguments
abbrev pub FitsAction : Module → List ValType → Action → Type 0
FitsAction m params (Write to bytes) = HasMemory m × FitsAddress params to × All (λ byte. byte < 256) bytes
FitsAction m params (Copy to source count) = HasMemory m × FitsAddress params to × FitsAddress params source
FitsAction m params (SetTable index func) = HasTable m × IfSome func (λ f. f < length (func_indices m))
FitsAction m params (SetGlobal global value) = IsSettable m global value
FitsAction m params (Grow by) = HasMemory m
FitsAction m params (GrowTable by) = HasTable m
FitsAction m params (Call func args) = IsCallable m func args
FitsAction m params (CallTable index args) = HasTable m × AreConstants args

abbrev pub FitActions : Module → List ValType → List Action → Type 0
FitActions m params actions = All (FitsAction m params) actions

-- a call of a function with these results ends with a result if the function has one, or traps
abbrev pub FitsEnd : List ValType → ResponseEnd → Type 0
FitsEnd results (Return value) = AreOfTypes results (option_to_list value)
FitsEnd results Trap = Unit {0}

-- a response to calls of a function of this type
pub record FitsResponse (m : Module) (ty : FuncType) (response : Response) : Type 0 where
  pub actions : FitActions m ty.params response.actions
  pub «end» : FitsEnd ty.results response.«end»

pub record FitsAnswer (m : Module) (ty : FuncType) (answer : Answer) : Type 0 where
  pub calls : All (FitsResponse m ty) answer.calls
  pub rest : IfSome answer.rest (FitsResponse m ty)

-- the answer, if there is one, for an imported function with this type index
abbrev pub FitsImport : Module → ℕ → Option Answer → Type 0
FitsImport m t answer = IfSome answer (λ a. (ty : FuncType) × (type_at m t ≡ Some ty) × FitsAnswer m ty a)

-- one answer for each imported function
abbrev pub FitAnswers : Module → List (Option Answer) → Type 0
FitAnswers m answers = AllZip (FitsImport m) (of_kind func_import m.imports) answers

-- a script fits a module, and has one value for each imported global
pub record Fits (m : Module) (script : Script) : Type 0 where
  pub globals : length script.globals ≡ length (imported_globals m)
  pub values : All (λ given. IfSome given (λ value. IsTrue (is_constant value))) script.globals
  pub imports : FitAnswers m script.imports
  pub main : FitActions m [] script.main
