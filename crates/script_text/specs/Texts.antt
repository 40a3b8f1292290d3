-- What the text of a script means for a module. The keys of the script are walked in the order of `script_of`,
-- names in the order of their bytes, and the items of a list by index. In each object a key that is not listed
-- is the first fault.
use Rattle.std.specs.Prelude.{ℕ, List, [], ◌∷◌, map, codes, Bool, true, Option, Some, None, option_and_then, Result, Ok, Err, if◌then◌else◌, ⊤}
use Rattle.std.specs.Str.{is_utf8}
use Rattle.std.specs.Result.{result_ok}
use Rattle.std.specs.List.{list_all}
use Rattle.std.specs.Option.{option_to_list}
use Rattle.wasm_syntax.specs.declared.values.Val.{Val}
use Rattle.wasm_syntax.specs.declared.signatures.FuncType.{FuncType}
use Rattle.wasm_syntax.specs.declared.modules.Import.{Import}
use Rattle.wasm_syntax.specs.declared.modules.ImportKind.{ImportKind}
use Rattle.wasm_syntax.specs.declared.modules.Module.{Module}
use Rattle.wasm_syntax.specs.Alike.{same_types}
use Rattle.wasm_syntax.specs.Index.{func_import, global_import}
use Rattle.host_script.specs.declared.scripts.Script.{Script}
use Rattle.host_script.specs.declared.scripts.Answer.{Answer}
use Rattle.host_script.specs.declared.scripts.Response.{Response}
use Rattle.host_script.specs.declared.scripts.ResponseEnd.{ResponseEnd}
use Rattle.host_script.specs.declared.scripts.ResponseEnd.TheVariants.{Return, Trap}
use Rattle.serde_json.specs.Data.{Data, boolean, Members, no_members, member}
use Rattle.serde_json.specs.Find.{get, as_object}
use Rattle.serde_json.specs.Read.{read}
use Rattle.script_text.specs.declared.faults.ScriptFault.{ScriptFault}
use Rattle.script_text.specs.declared.faults.ScriptFault.TheVariants.{NotJson, Shape, UnknownName, WrongType}
use Rattle.script_text.specs.Walk.{◌>>=◌, below, only, under_or, under_if_there, list_of}
use Rattle.script_text.specs.Values.{value_of, limits_of}
use Rattle.module_names.specs.Names.{imports_with, imports_from, imports_named, func_types_named}
use Rattle.script_text.specs.Actions.{InMain, InResponse, actions_under}

-- ---- responses

-- the function returns one value of this type, or nothing if there is no value
abbrev pub returns : Option Val → FuncType → Bool
returns value ty = same_types (map (λ v. v.ty) (option_to_list value)) ty.results

-- each of the functions that are answered returns a value of this type, or nothing if there is no value
unfoldable pub fits_results : (name : List ℕ) (types : List FuncType) → Option Val → Result ⊤ ScriptFault
fits_results name types value =
    if list_all (returns value) types
    then Ok tt
    else Err (WrongType name)

unfoldable pub trap_of : Data → Result ResponseEnd ScriptFault
trap_of (boolean true) = Ok Trap
trap_of d = Err (Shape [])

unfoldable pub return_of : (name : List ℕ) (types : List FuncType) → Data → Result ResponseEnd ScriptFault
return_of name types d = do
  value ← under_if_there (codes "return") value_of d
  _ ← fits_results name types value
  Ok (Return value)

-- the end of a response, by the texts under `return` and under `trap`, which exclude each other
abbrev pub end_by : (name : List ℕ) (types : List FuncType) → (returned trapped : Option Data) → Data
    → Result ResponseEnd ScriptFault
end_by name types (Some r) (Some t) d = Err (Shape [])
end_by name types None (Some t) d = below (codes "trap") (trap_of t)
end_by name types returned None d = return_of name types d

unfoldable pub end_of : (name : List ℕ) (types : List FuncType) → Data → Result ResponseEnd ScriptFault
end_of name types d = end_by name types (get (codes "return") d) (get (codes "trap") d) d

-- a response to calls of the functions of these types, whose imports have `name` as their second name
unfoldable pub response_of : Module → (name : List ℕ) (types : List FuncType) → Data → Result Response ScriptFault
response_of m name types d = do
  _ ← only (codes "do" ∷ codes "return" ∷ codes "trap" ∷ []) d
  actions ← actions_under m (InResponse name types) (codes "do") d
  «end» ← end_of name types d
  Ok (record { actions = actions; «end» = «end» })

-- the answers to calls of the functions of these types, whose imports have `name` as their second name
unfoldable pub answer_of : Module → (name : List ℕ) (types : List FuncType) → Data → Result Answer ScriptFault
answer_of m name types d = do
  _ ← only (codes "calls" ∷ codes "rest" ∷ []) d
  calls ← under_or (codes "calls") [] (list_of (response_of m name types)) d
  rest ← under_if_there (codes "rest") (response_of m name types) d
  Ok (record { calls = calls; rest = rest })

-- ---- globals and imports

-- the walk over an object's members in the order of their names' bytes, which is the order of `serde_json`: each
-- name is known, and `look` finds no fault in its value
unfoldable pub each_name : (List ℕ → Bool) → (List ℕ → Data → Result ⊤ ScriptFault) → Members → Result ⊤ ScriptFault
each_name is_known look no_members = Ok tt
each_name is_known look (member name d ms) = do
  _ ← if is_known name then below name (look name d) else Err (UnknownName name)
  each_name is_known look ms

abbrev pub each_in : (List ℕ → Bool) → (List ℕ → Data → Result ⊤ ScriptFault) → Option Members → Result ⊤ ScriptFault
each_in is_known look None = Err (Shape [])
each_in is_known look (Some ms) = each_name is_known look ms

-- the first fault of what is read, if there is one
abbrev pub in_order : {A : Type 0} → Result A ScriptFault → Result ⊤ ScriptFault
in_order (Ok a) = Ok tt
in_order (Err fault) = Err fault

-- the walk over an object of modules' names, each with an object of the names of imports of one kind
abbrev pub each_import : {K : Type 0} → (ImportKind → Option K) → Module
    → (look : (from name : List ℕ) → Data → Result ⊤ ScriptFault) → Data → Result ⊤ ScriptFault
each_import pick m look d =
    each_in (imports_from pick m)
    (λ from names. each_in (imports_named pick m from) (look from) (as_object names))
    (as_object d)

-- the walk over the value of a global; over the answers to calls of a function
abbrev pub look_value : (from name : List ℕ) → Data → Result ⊤ ScriptFault
look_value from name d = in_order (value_of d)

abbrev pub look_answer : Module → (from name : List ℕ) → Data → Result ⊤ ScriptFault
look_answer m from name d = in_order (answer_of m name (func_types_named m from name) d)

-- the member of a JSON value under the two names of an import
abbrev pub member_for : Option Data → Import → Option Data
member_for d import = option_and_then (get import.name) (option_and_then (get import.«module») d)

-- the value of an imported global; the answers of an imported function
abbrev pub value_for : Option Data → Import → Option Val
value_for d import = option_and_then (λ v. result_ok (value_of v)) (member_for d import)

abbrev pub answer_for : Module → Option Data → Import → Option Answer
answer_for m d import =
    option_and_then
    (λ a. result_ok (answer_of m import.name (func_types_named m import.«module» import.name) a))
    (member_for d import)

-- ---- scripts

unfoldable pub script_of : Module → Data → Result Script ScriptFault
script_of m d = do
  _ ← only (codes "memory" ∷ codes "table" ∷ codes "globals" ∷ codes "imports" ∷ codes "main" ∷ []) d
  memory ← under_if_there (codes "memory") (limits_of (codes "pages")) d
  table ← under_if_there (codes "table") (limits_of (codes "size")) d
  _ ← under_or (codes "globals") tt (each_import global_import m look_value) d
  _ ← under_or (codes "imports") tt (each_import func_import m (look_answer m)) d
  main ← actions_under m InMain (codes "main") d
  Ok (record {
    memory = memory;
    table = table;
    globals = map (value_for (get (codes "globals") d)) (imports_with global_import m);
    imports = map (answer_for m (get (codes "imports") d)) (imports_with func_import m);
    main = main;
  })

abbrev pub script_in : Module → Option Data → Result Script ScriptFault
script_in m None = Err NotJson
script_in m (Some d) = script_of m d

-- the script that bytes mean for a module, or the first fault of the walk
abbrev pub script_of_text : Module → List ℕ → Result Script ScriptFault
script_of_text m bytes = if is_utf8 bytes then script_in m (read bytes) else Err NotJson
