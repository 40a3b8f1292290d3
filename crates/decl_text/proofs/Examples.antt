-- Declarations and their faults, computed from the definitions.
use Rattle.std.proofs.Common.{◌≡◌, ℕ, List, [], ◌∷◌, ◌++◌, Ok, Err, codes, refl}
use Rattle.std.specs.Bool.{⊤}
use Rattle.serde_json.proofs.OnLiterals.{serde_json_on_literals}
use Rattle.std.specs.Str.{is_utf8, chars}
use Rattle.std.specs.Fmt.{digits}
use Rattle.wasm_syntax.specs.declared.values.ValType.TheVariants.{I32, I64, F64}
use Rattle.wasm_syntax.specs.declared.modules.Module.{Module}
use Rattle.wasm_syntax.specs.declared.modules.ImportKind.TheVariants as import
use Rattle.wasm_syntax.proofs.ModuleExamples.{two_answers}
use Rattle.decl_text.specs.declared.faults.DeclFault.{DeclFault}
use Rattle.decl_text.specs.declared.faults.DeclFault.TheVariants.{NotJson, Shape, Reserved, Taken}
use Rattle.decl_text.specs.Walk.{items_from}
use Rattle.decl_text.specs.Texts.{decl_of, decls_of, decls_of_text}

-- what is unfolded to compute what a text means
unfoldable decls_on_literals : ⊤
unfolding serde_json_on_literals is_utf8 chars digits items_from decl_of decls_of
decls_on_literals = tt

-- the fault of declarations for a module that imports `f` from `h` and exports `g`
abbrev fault_of_two_answers : List ℕ → DeclFault → Type 0
fault_of_two_answers text fault = decls_of_text two_answers text ≡ Err fault

two_decls : decls_of_text two_answers
    (codes "[{\"name\":\"a\",\"params\":[\"i32\",\"f64\"],\"results\":[\"i64\"]},{\"name\":\"\",\"params\":[],\"results\":[]}]")
    ≡ Ok (record { name = codes "a"; ty = record { params = I32 ∷ F64 ∷ []; results = I64 ∷ [] } }
    ∷ record { name = []; ty = record { params = []; results = [] } } ∷ [])
unfolding decls_on_literals
two_decls = refl

half_a_text : fault_of_two_answers (codes "[") NotJson
unfolding decls_on_literals
half_a_text = refl

not_a_list : fault_of_two_answers (codes "{}") (Shape [])
unfolding decls_on_literals
not_a_list = refl

-- an unlisted key is looked for first
unlisted_key : fault_of_two_answers (codes "[{\"name\":5,\"kind\":\"a\"}]") (Shape (codes "/0"))
unfolding decls_on_literals
unlisted_key = refl

-- a missing key is looked for at its place
fault_before_missing : fault_of_two_answers (codes "[{\"name\":\"a\",\"params\":[5]}]") (Shape (codes "/0/params/0"))
unfolding decls_on_literals
fault_before_missing = refl

missing_before_fault : fault_of_two_answers (codes "[{\"name\":\"a\",\"results\":[5]}]") (Shape (codes "/0"))
unfolding decls_on_literals
missing_before_fault = refl

no_such_type : fault_of_two_answers (codes "[{\"name\":\"a\",\"params\":[\"i32\",\"funcref\"],\"results\":[]}]") (Shape (codes "/0/params/1"))
unfolding decls_on_literals
no_such_type = refl

-- a list that is too long is faulty itself
two_results : fault_of_two_answers (codes "[{\"name\":\"a\",\"params\":[],\"results\":[\"i32\",5]}]") (Shape (codes "/0/results"))
unfolding decls_on_literals
two_results = refl

-- the module with a second import, from `foreign`
abbrev with_foreign : Module
with_foreign =
    record two_answers { imports = two_answers.imports ++ record { «module» = codes "foreign"; name = codes "f"; kind = import.Func 0 } ∷ [] }

-- the form of the text comes before an import from `foreign`, and this before a name that is taken
abbrev fault_with_foreign : List ℕ → DeclFault → Type 0
fault_with_foreign text fault = decls_of_text with_foreign text ≡ Err fault

reserved_without_decls : fault_with_foreign (codes "[]") (Reserved 1)
unfolding decls_on_literals
reserved_without_decls = refl

reserved_before_taken : fault_with_foreign (codes "[{\"name\":\"g\",\"params\":[],\"results\":[]}]") (Reserved 1)
unfolding decls_on_literals
reserved_before_taken = refl

shape_before_reserved : fault_with_foreign (codes "[5]") (Shape (codes "/0"))
unfolding decls_on_literals
shape_before_reserved = refl

taken_by_export : fault_of_two_answers
    (codes "[{\"name\":\"a\",\"params\":[],\"results\":[]},{\"name\":\"g\",\"params\":[],\"results\":[]}]") (Taken (codes "g"))
unfolding decls_on_literals
taken_by_export = refl

-- the first that is taken is named
taken_by_earlier : fault_of_two_answers
    (codes "[{\"name\":\"a\",\"params\":[],\"results\":[]},{\"name\":\"a\",\"params\":[],\"results\":[]},"
    ++ codes "{\"name\":\"g\",\"params\":[],\"results\":[]}]") (Taken (codes "a"))
unfolding decls_on_literals
taken_by_earlier = refl
