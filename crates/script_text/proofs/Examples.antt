-- Scripts and their faults, computed from the definitions.
use Rattle.std.proofs.Common.{◌≡◌, ℕ, List, [], ◌∷◌, None, Ok, Err, codes, refl}
use Rattle.std.specs.Bool.{⊤}
use Rattle.serde_json.proofs.OnLiterals.{serde_json_on_literals}
use Rattle.hex.proofs.OnLiterals.{hex_on_literals}
use Rattle.std.specs.Str.{is_utf8, chars}
use Rattle.std.specs.Fmt.{digits}
use Rattle.wasm_syntax.specs.declared.modules.ExportKind.TheVariants.{Func as ExportFunc, Table as ExportTable}
use Rattle.wasm_syntax.proofs.ModuleExamples.{two_answers}
use Rattle.host_script.specs.declared.scripts.Action.TheVariants.{GrowTable}
use Rattle.script_text.specs.declared.faults.ScriptFault.{ScriptFault}
use Rattle.script_text.specs.declared.faults.ScriptFault.TheVariants.{Shape, UnknownName, WrongType, NoAccess, CallsOwn, NotJson}
use Rattle.script_text.specs.Walk.{items_from}
use Rattle.script_text.specs.Values.{value_of}
use Rattle.script_text.specs.Actions.{address_of, fits_address, memory_access, table_access, write_of, copy_of, func_named, entry_named, set_table_of, target_of, global_at, fits_global, set_global_of, grow_of, grow_table_of, is_defined, fits_params, call_of, call_table_of, action_of}
use Rattle.script_text.specs.Texts.{fits_results, trap_of, return_of, end_of, response_of, answer_of, each_name, script_of, script_of_text}

-- what is unfolded to compute what a text means
unfoldable script_on_literals : ⊤
unfolding serde_json_on_literals hex_on_literals is_utf8 chars digits items_from value_of address_of fits_address
    memory_access table_access write_of copy_of func_named entry_named set_table_of target_of global_at fits_global
    set_global_of grow_of grow_table_of is_defined fits_params call_of call_table_of action_of fits_results trap_of
    return_of end_of response_of answer_of each_name script_of
script_on_literals = tt

-- the fault of a script for a module that calls its one import twice and adds the answers
abbrev fault_of_two_answers : List ℕ → ScriptFault → Type 0
fault_of_two_answers text fault = script_of_text two_answers text ≡ Err fault

half_a_text : fault_of_two_answers (codes "{") NotJson
unfolding script_on_literals
half_a_text = refl

unlisted_action : fault_of_two_answers (codes "{\"main\":[{\"jump\":1}]}") (Shape (codes "/main/0"))
unfolding script_on_literals
unlisted_action = refl

unknown_function : fault_of_two_answers (codes "{\"main\":[{\"call\":\"zz\"}]}") (UnknownName (codes "zz"))
unfolding script_on_literals
unknown_function = refl

wrong_arguments : fault_of_two_answers (codes "{\"main\":[{\"call\":\"g\",\"args\":[{\"i32\":1}]}]}") (WrongType (codes "g"))
unfolding script_on_literals
wrong_arguments = refl

no_memory : fault_of_two_answers (codes "{\"main\":[{\"write\":0,\"bytes\":\"00\"}]}") (NoAccess (codes "memory"))
unfolding script_on_literals
no_memory = refl

no_table : fault_of_two_answers (codes "{\"main\":[{\"grow_table\":0}]}") (NoAccess (codes "table"))
unfolding script_on_literals
no_table = refl

-- the table is exported
grows_table : script_of_text (record two_answers {
  tables = record { min = 1; max = None } ∷ [];
  exports = record { name = codes "t"; kind = ExportTable 0 } ∷ [];
})
    (codes "{\"main\":[{\"grow_table\":4294967295}]}")
    ≡ Ok (record { memory = None; table = None; globals = []; imports = None ∷ []; main = GrowTable 4294967295 ∷ [] })
unfolding script_on_literals
grows_table = refl

-- the export names the import
calls_own : script_of_text (record two_answers { exports = record { name = codes "g"; kind = ExportFunc 0 } ∷ [] })
    (codes "{\"main\":[{\"call\":\"g\"}]}") ≡ Err (CallsOwn (codes "g"))
unfolding script_on_literals
calls_own = refl

-- the order of the walk
missing_after_fault : fault_of_two_answers (codes "{\"main\":[{\"write\":\"x\"}]}") (Shape (codes "/main/0/write"))
unfolding script_on_literals
missing_after_fault = refl

missing_before_fault : fault_of_two_answers (codes "{\"main\":[{\"copy\":0,\"count\":\"x\"}]}") (Shape (codes "/main/0"))
unfolding script_on_literals
missing_before_fault = refl

two_leads : fault_of_two_answers (codes "{\"main\":[{\"grow\":\"x\",\"write\":0}]}") (Shape (codes "/main/0"))
unfolding script_on_literals
two_leads = refl

argument_in_main : fault_of_two_answers (codes "{\"main\":[{\"write\":{\"arg\":0},\"bytes\":\"00\"}]}") (Shape (codes "/main/0/write"))
unfolding script_on_literals
argument_in_main = refl

return_with_trap : fault_of_two_answers (codes "{\"imports\":{\"h\":{\"f\":{\"rest\":{\"return\":5,\"trap\":true}}}}}") (Shape (codes "/imports/h/f/rest"))
unfolding script_on_literals
return_with_trap = refl

missing_return : fault_of_two_answers (codes "{\"imports\":{\"h\":{\"f\":{\"calls\":[{}]}}}}") (WrongType (codes "f"))
unfolding script_on_literals
missing_return = refl

unknown_module : fault_of_two_answers (codes "{\"imports\":{\"zz\":5}}") (UnknownName (codes "zz"))
unfolding script_on_literals
unknown_module = refl

known_module : fault_of_two_answers (codes "{\"imports\":{\"h\":5}}") (Shape (codes "/imports/h"))
unfolding script_on_literals
known_module = refl

too_large : fault_of_two_answers (codes "{\"imports\":{\"h\":{\"f\":{\"calls\":[{\"return\":{\"i32\":4294967296}}]}}}}")
    (Shape (codes "/imports/h/f/calls/0/return/i32"))
unfolding script_on_literals
too_large = refl

too_small : fault_of_two_answers
    (codes "{\"imports\":{\"h\":{\"f\":{\"calls\":[{\"return\":{\"i32\":-2147483649}}]}}}}")
    (Shape (codes "/imports/h/f/calls/0/return/i32"))
unfolding script_on_literals
too_small = refl

imports_before_main : fault_of_two_answers (codes "{\"main\":5,\"imports\":5}") (Shape (codes "/imports"))
unfolding script_on_literals
imports_before_main = refl
