-- How the text of an action of the host is read, by its lead key. The faults of one action come in this order:
-- its form; a memory or a table that can't be reached; an unknown name; a call of an import; a global that can't
-- be changed; a wrong type.
use Rattle.std.specs.Prelude.{ℕ, List, [], ◌∷◌, map, codes, filter, Bool, true, false, nat_lt, Option, Some, None, is_some, slice_get, Result, Ok, Err, if◌then◌else◌, ⊤}
use Rattle.std.specs.List.{list_all}
use Rattle.wasm_syntax.specs.declared.values.ValType.{ValType}
use Rattle.wasm_syntax.specs.declared.values.ValType.TheVariants.{I32}
use Rattle.wasm_syntax.specs.declared.values.Val.{Val}
use Rattle.wasm_syntax.specs.declared.signatures.FuncType.{FuncType}
use Rattle.wasm_syntax.specs.declared.signatures.GlobalType.{GlobalType}
use Rattle.wasm_syntax.specs.declared.modules.Module.{Module}
use Rattle.wasm_syntax.specs.Alike.{same_type, same_types}
use Rattle.wasm_syntax.specs.Index.{global_import, imported_funcs, func_type, all_globals}
use Rattle.host_script.specs.declared.scripts.Address.{Address}
use Rattle.host_script.specs.declared.scripts.Address.TheVariants.{Fixed, Arg}
use Rattle.host_script.specs.declared.scripts.Action.{Action}
use Rattle.host_script.specs.declared.scripts.Action.TheVariants as actions
use Rattle.serde_json.specs.Data.{Data, Items, no_items, item}
use Rattle.serde_json.specs.Find.{get, as_array, as_object}
use Rattle.script_text.specs.declared.faults.ScriptFault.{ScriptFault}
use Rattle.script_text.specs.declared.faults.ScriptFault.TheVariants.{Shape, UnknownName, WrongType, NoAccess, CallsOwn}
use Rattle.script_text.specs.declared.action_keys.Lead.{Lead}
use Rattle.script_text.specs.declared.action_keys.Lead.TheVariants.{Write, Copy, SetTable, SetGlobal, Grow, GrowTable, Call, CallTable}
use Rattle.script_text.specs.Walk.{◌>>=◌, below, only, under, under_or, list_of}
use Rattle.script_text.specs.Values.{u32_of, value_of, values_under, text_of, text_or_null, bytes_of}
use Rattle.module_names.specs.Names.{imports_from, imported_global, exported_func, exported_global, reaches_memory, reaches_table}

-- the place of an action: in `main`, or in a response to calls of the functions imported under two names; `name`
-- is the second name, `types` has the types of these functions
pub data Place : Type 0 where
  InMain : Place
  InResponse : (name : List ℕ) (types : List FuncType) → Place

-- ---- addresses

-- an argument of the call that is answered, plus an offset
abbrev pub argument_of : Data → Result Address ScriptFault
argument_of d = do
  _ ← only (codes "arg" ∷ codes "plus" ∷ []) d
  number ← under (codes "arg") u32_of d
  plus ← under_or (codes "plus") 0 u32_of d
  Ok (Arg number plus)

abbrev pub fixed_of : Data → Result Address ScriptFault
fixed_of d = do
  address ← u32_of d
  Ok (Fixed address)

-- an address; an object is an address only in a response
unfoldable pub address_of : Place → Data → Result Address ScriptFault
address_of InMain d = fixed_of d
address_of (InResponse name types) d = if is_some (as_object d) then argument_of d else fixed_of d

-- ---- tests

abbrev pub is_i32 : Option ValType → Bool
is_i32 None = false
is_i32 (Some ty) = same_type ty I32

-- this parameter of the function exists and is an i32
abbrev pub takes_i32 : ℕ → FuncType → Bool
takes_i32 number ty = is_i32 (slice_get ty.params number)

-- the argument exists and is an i32, for each of the functions that are answered
unfoldable pub fits_address : Place → Address → Result ⊤ ScriptFault
fits_address place (Fixed address) = Ok tt
fits_address InMain (Arg number plus) = Err (Shape [])
fits_address (InResponse name types) (Arg number plus) =
    if list_all (takes_i32 number) types then Ok tt else Err (WrongType name)

-- access to what has this name, if the host reaches it
abbrev pub access_to : Bool → List ℕ → Result ⊤ ScriptFault
access_to reached name = if reached then Ok tt else Err (NoAccess name)

unfoldable pub memory_access : Module → Result ⊤ ScriptFault
memory_access m = access_to (reaches_memory m) (codes "memory")

unfoldable pub table_access : Module → Result ⊤ ScriptFault
table_access m = access_to (reaches_table m) (codes "table")

-- ---- actions

unfoldable pub write_of : Module → Place → Data → Result Action ScriptFault
write_of m place d = do
  _ ← only (codes "write" ∷ codes "bytes" ∷ []) d
  to ← under (codes "write") (address_of place) d
  bytes ← under (codes "bytes") bytes_of d
  _ ← memory_access m
  _ ← fits_address place to
  Ok (actions.Write to bytes)

unfoldable pub copy_of : Module → Place → Data → Result Action ScriptFault
copy_of m place d = do
  _ ← only (codes "copy" ∷ codes "from" ∷ codes "count" ∷ []) d
  to ← under (codes "copy") (address_of place) d
  source ← under (codes "from") (address_of place) d
  count ← under (codes "count") u32_of d
  _ ← memory_access m
  _ ← fits_address place to
  _ ← fits_address place source
  Ok (actions.Copy to source count)

-- the index that a name has, or a fault if the name is unknown
abbrev pub index_or_unknown : List ℕ → Option ℕ → Result ℕ ScriptFault
index_or_unknown name None = Err (UnknownName name)
index_or_unknown name (Some index) = Ok index

-- the function that is exported under a name
unfoldable pub func_named : Module → List ℕ → Result ℕ ScriptFault
func_named m name = index_or_unknown name (exported_func m name)

-- the function of a table entry, or no function, which empties the entry
unfoldable pub entry_named : Module → Option (List ℕ) → Result (Option ℕ) ScriptFault
entry_named m None = Ok None
entry_named m (Some name) = do
  func ← func_named m name
  Ok (Some func)

unfoldable pub set_table_of : Module → Data → Result Action ScriptFault
set_table_of m d = do
  _ ← only (codes "set_table" ∷ codes "func" ∷ []) d
  index ← under (codes "set_table") u32_of d
  name ← under (codes "func") text_or_null d
  _ ← table_access m
  func ← entry_named m name
  Ok (actions.SetTable index func)

-- the names of a global that is set: of an export, or of an import
pub data Target : Type 0 where
  Exported : (name : List ℕ) → Target
  Imported : (from name : List ℕ) → Target

-- the names of an import: a list of two texts
abbrev pub two_names : Option Items → Result Target ScriptFault
two_names (Some (item a (item b no_items))) = do
  from ← below (codes "0") (text_of a)
  name ← below (codes "1") (text_of b)
  Ok (Imported from name)
two_names items = Err (Shape [])

abbrev pub import_names : Data → Result Target ScriptFault
import_names d = two_names (as_array d)

abbrev pub import_target : Data → Result Target ScriptFault
import_target d = do
  _ ← only (codes "import" ∷ []) d
  under (codes "import") import_names d

abbrev pub exported_target : Data → Result Target ScriptFault
exported_target d = do
  name ← text_of d
  Ok (Exported name)

-- a global's names: an object names an import, a text names an export
unfoldable pub target_of : Data → Result Target ScriptFault
target_of d = if is_some (as_object d) then import_target d else exported_target d

-- the index of the global that an import's names give; the flag says whether its module's name is known
abbrev pub global_from : Bool → (from name : List ℕ) → Option ℕ → Result ℕ ScriptFault
global_from true from name global = index_or_unknown name global
global_from false from name global = Err (UnknownName from)

unfoldable pub global_at : Module → Target → Result ℕ ScriptFault
global_at m (Exported name) = index_or_unknown name (exported_global m name)
global_at m (Imported from name) =
    global_from (imports_from global_import m from) from name (imported_global m from name)

-- the name that is reported in a fault of a target
abbrev pub name_of : Target → List ℕ
name_of (Exported name) = name
name_of (Imported from name) = name

-- a global can be set to a value: it is mutable and has the value's type
abbrev pub is_set_by : Option GlobalType → List ℕ → Val → Result ⊤ ScriptFault
is_set_by None name value = Err (UnknownName name)
is_set_by (Some ty) name value =
    if ty.mutable
    then (if same_type value.ty ty.ty then Ok tt else Err (WrongType name))
    else Err (NoAccess name)

unfoldable pub fits_global : Module → ℕ → List ℕ → Val → Result ⊤ ScriptFault
fits_global m global name value = is_set_by (slice_get (all_globals m) global) name value

unfoldable pub set_global_of : Module → Data → Result Action ScriptFault
set_global_of m d = do
  _ ← only (codes "set_global" ∷ codes "value" ∷ []) d
  target ← under (codes "set_global") target_of d
  value ← under (codes "value") value_of d
  global ← global_at m target
  _ ← fits_global m global (name_of target) value
  Ok (actions.SetGlobal global value)

-- an action that grows a memory or a table by the number under a key, if the host reaches it
abbrev pub growth_of : List ℕ → Result ⊤ ScriptFault → (ℕ → Action) → Data → Result Action ScriptFault
growth_of key access action d = do
  _ ← only (key ∷ []) d
  number ← under key u32_of d
  _ ← access
  Ok (action number)

-- growth of the memory, and of the table
unfoldable pub grow_of : Module → Data → Result Action ScriptFault
grow_of m d = growth_of (codes "grow") (memory_access m) actions.Grow d

unfoldable pub grow_table_of : Module → Data → Result Action ScriptFault
grow_table_of m d = growth_of (codes "grow_table") (table_access m) actions.GrowTable d

-- the module defines the function; it is not an import
unfoldable pub is_defined : Module → ℕ → List ℕ → Result ⊤ ScriptFault
is_defined m func name = if nat_lt func (imported_funcs m) then Err (CallsOwn name) else Ok tt

-- the values have the types of a function's parameters
abbrev pub are_arguments : Option FuncType → List ℕ → List Val → Result ⊤ ScriptFault
are_arguments None name args = Err (WrongType name)
are_arguments (Some ty) name args =
    if same_types (map (λ arg. arg.ty) args) ty.params then Ok tt else Err (WrongType name)

unfoldable pub fits_params : Module → ℕ → List ℕ → List Val → Result ⊤ ScriptFault
fits_params m func name args = are_arguments (func_type m func) name args

unfoldable pub call_of : Module → Data → Result Action ScriptFault
call_of m d = do
  _ ← only (codes "call" ∷ codes "args" ∷ []) d
  name ← under (codes "call") text_of d
  args ← values_under (codes "args") d
  func ← func_named m name
  _ ← is_defined m func name
  _ ← fits_params m func name args
  Ok (actions.Call func args)

unfoldable pub call_table_of : Module → Data → Result Action ScriptFault
call_table_of m d = do
  _ ← only (codes "call_table" ∷ codes "args" ∷ []) d
  index ← under (codes "call_table") u32_of d
  args ← values_under (codes "args") d
  _ ← table_access m
  Ok (actions.CallTable index args)

-- ---- the lead key

abbrev pub key_of : Lead → List ℕ
key_of Write = codes "write"
key_of Copy = codes "copy"
key_of SetTable = codes "set_table"
key_of SetGlobal = codes "set_global"
key_of Grow = codes "grow"
key_of GrowTable = codes "grow_table"
key_of Call = codes "call"
key_of CallTable = codes "call_table"

abbrev pub all_leads : List Lead
all_leads = Write ∷ Copy ∷ SetTable ∷ SetGlobal ∷ Grow ∷ GrowTable ∷ Call ∷ CallTable ∷ []

abbrev pub leads_in : Data → List Lead
leads_in d = filter (λ lead. is_some (get (key_of lead) d)) all_leads

abbrev pub action_with : Module → Place → Lead → Data → Result Action ScriptFault
action_with m place Write d = write_of m place d
action_with m place Copy d = copy_of m place d
action_with m place SetTable d = set_table_of m d
action_with m place SetGlobal d = set_global_of m d
action_with m place Grow d = grow_of m d
action_with m place GrowTable d = grow_table_of m d
action_with m place Call d = call_of m d
action_with m place CallTable d = call_table_of m d

-- the action with its lead key, if it has exactly one
abbrev pub action_by : Module → Place → List Lead → Data → Result Action ScriptFault
action_by m place (lead ∷ []) d = action_with m place lead d
action_by m place leads d = Err (Shape [])

unfoldable pub action_of : Module → Place → Data → Result Action ScriptFault
action_of m place d = action_by m place (leads_in d) d

-- the actions under a key; an empty list if the key is missing
abbrev pub actions_under : Module → Place → List ℕ → Data → Result (List Action) ScriptFault
actions_under m place key d = under_or key [] (list_of (action_of m place)) d
