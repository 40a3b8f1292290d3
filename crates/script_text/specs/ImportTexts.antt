-- How code walks the texts of a script that are under the names of imports.
use Rattle.std.specs.Prelude.{List, ℕ, Bool, Result, Err, if◌then◌else◌, ⊤}
use Rattle.wasm_syntax.specs.declared.modules.Module.{Module}
use Rattle.wasm_syntax.specs.Index.{func_import, global_import}
use Rattle.serde_json.specs.Data.{Data}
use Rattle.serde_json.specs.Find.{as_object}
use Rattle.module_names.specs.Names.{imports_from, imports_named}
use Rattle.script_text.specs.declared.faults.ScriptFault.{ScriptFault}
use Rattle.script_text.specs.declared.faults.ScriptFault.TheVariants.{UnknownName}
use Rattle.script_text.specs.declared.import_texts.ImportTexts.{ImportTexts}
use Rattle.script_text.specs.declared.import_texts.ImportTexts.TheVariants.{Values, Answers}
use Rattle.script_text.specs.Walk.{below}
use Rattle.script_text.specs.Texts.{each_in, look_value, look_answer}

-- some import of this kind has this module name; some import of this kind has these two names
abbrev pub has_module : ImportTexts → Module → List ℕ → Bool
has_module Values m = imports_from global_import m
has_module Answers m = imports_from func_import m

abbrev pub has_names : ImportTexts → Module → (from name : List ℕ) → Bool
has_names Values m = imports_named global_import m
has_names Answers m = imports_named func_import m

-- the walk over one text: the value of a global, or the answers to calls of a function
abbrev pub look : ImportTexts → Module → (from name : List ℕ) → Data → Result ⊤ ScriptFault
look Values m = look_value
look Answers m = look_answer m

-- the walk over the text under the name of an import, and over the texts under the name of a module
abbrev pub look_under_name : ImportTexts → Module → (from name : List ℕ) → Data → Result ⊤ ScriptFault
look_under_name texts m from name d =
    if has_names texts m from name then below name (look texts m from name d) else Err (UnknownName name)

abbrev pub look_in_module : ImportTexts → Module → (from : List ℕ) → Data → Result ⊤ ScriptFault
look_in_module texts m from names = each_in (has_names texts m from) (look texts m from) (as_object names)

abbrev pub look_under_module : ImportTexts → Module → (from : List ℕ) → Data → Result ⊤ ScriptFault
look_under_module texts m from d =
    if has_module texts m from then below from (look_in_module texts m from d) else Err (UnknownName from)

-- the walk over all texts: `each_import global_import m look_value` for values of globals, `each_import
-- func_import m (look_answer m)` for answers of functions
abbrev pub look_at_all : ImportTexts → Module → Data → Result ⊤ ScriptFault
look_at_all texts m d = each_in (has_module texts m) (look_in_module texts m) (as_object d)
