-- The parts of instrumented examples.
use Rattle.std.specs.Prelude.{◌≡◌, ℕ, List, [], ◌∷◌, ◌++◌, Some, None, true, codes}
use Rattle.wasm_syntax.specs.declared.values.ValType.TheVariants.{I32, I64, F32, F64}
use Rattle.wasm_syntax.specs.declared.instructions.Instr.TheVariants.{Block, Call, Const, End}
use Rattle.wasm_syntax.specs.declared.modules.ImportKind.TheVariants.{Global}
use Rattle.wasm_syntax.specs.declared.modules.ElemSeg.TheVariants.{Active}
use Rattle.wasm_syntax.specs.declared.modules.Module.{Module}
use Rattle.wasm_syntax.specs.Encoding.Shortest.{encoding_of}
use Rattle.record_replay_spec.specs.Instrumented.{instrumented_weights}
use Rattle.record_replay_spec.specs.HookedForm.{HookedForm, hooked_form}
use Rattle.worked_histories.specs.Build.{i32, func_type, func, run, global_type, import_of}
use Rattle.worked_histories.specs.Modules.{two_answers}
use Rattle.worked_hooks.specs.Examples.{digest, no_digest, added, hooked_two_answers, two_answers_body, hooked_every_kind, every_kind_body, damaged}

-- ---- two answers

-- the one function of the instrumented module
abbrev pub TwoAnswersFunction : Type 0
TwoAnswersFunction = hooked_two_answers.funcs ≡ func 0 added (two_answers_body 127 3) ∷ []

-- the types of the instrumented module: the original's, and those of the hooks, each once
abbrev pub TwoAnswersTypes : Type 0
TwoAnswersTypes =
    hooked_two_answers.types
    ≡ func_type [] (I32 ∷ [])
    ∷ func_type (I32 ∷ I64 ∷ []) [] ∷ func_type (I32 ∷ []) [] ∷ func_type [] []
    ∷ func_type (I32 ∷ I32 ∷ I32 ∷ []) [] ∷ func_type (I32 ∷ I32 ∷ I32 ∷ I64 ∷ []) [] ∷ []

-- the weights of the instrumented module's instructions: the original's are two calls and an addition
abbrev pub TwoAnswersWeights : Type 0
TwoAnswersWeights =
    instrumented_weights two_answers
    ≡ (0 ∷ 0 ∷ 0
    ∷ 0 ∷ 0 ∷ 1 ∷ 0 ∷ 0 ∷ 0 ∷ 0 ∷ 0 ∷ 0 ∷ 0 ∷ 0
    ∷ 0 ∷ 0 ∷ 1 ∷ 0 ∷ 0 ∷ 0 ∷ 0 ∷ 0 ∷ 0 ∷ 0 ∷ 0
    ∷ 1 ∷ 0 ∷ 0 ∷ []) ∷ []

-- the bytes of the header
abbrev pub header_bytes : List ℕ
header_bytes = 0x00 ∷ 0x61 ∷ 0x73 ∷ 0x6D ∷ 0x01 ∷ 0x00 ∷ 0x00 ∷ 0x00 ∷ []

-- the bytes of the type section
abbrev pub type_bytes : List ℕ
type_bytes =
    0x01 ∷ 0x1E ∷ 0x06
    ∷ 0x60 ∷ 0x00 ∷ 0x01 ∷ 0x7F
    ∷ 0x60 ∷ 0x02 ∷ 0x7F ∷ 0x7E ∷ 0x00
    ∷ 0x60 ∷ 0x01 ∷ 0x7F ∷ 0x00
    ∷ 0x60 ∷ 0x00 ∷ 0x00
    ∷ 0x60 ∷ 0x03 ∷ 0x7F ∷ 0x7F ∷ 0x7F ∷ 0x00
    ∷ 0x60 ∷ 0x04 ∷ 0x7F ∷ 0x7F ∷ 0x7F ∷ 0x7E ∷ 0x00 ∷ []

-- the import of a hook, by the length of its name, its name and its type's index
abbrev pub hook_bytes : (length : ℕ) → (name : List ℕ) → (ty : ℕ) → List ℕ
hook_bytes length name ty = 0x02 ∷ 0x72 ∷ 0x33 ∷ length ∷ name ++ 0x00 ∷ ty ∷ []

-- the bytes of the import section
abbrev pub import_bytes : List ℕ
import_bytes =
    0x02 ∷ 0x9F ∷ 0x01 ∷ 0x10 ∷ 0x01 ∷ 0x68 ∷ 0x01 ∷ 0x66 ∷ 0x00 ∷ 0x00
    ∷ hook_bytes 3 (codes "arg") 1 ++ hook_bytes 5 (codes "enter") 2 ++ hook_bytes 5 (codes "leave") 2
    ++ hook_bytes 3 (codes "pre") 2 ++ hook_bytes 4 (codes "post") 2 ++ hook_bytes 4 (codes "ipre") 2
    ++ hook_bytes 5 (codes "ipost") 3 ++ hook_bytes 4 (codes "load") 4 ++ hook_bytes 5 (codes "store") 5
    ++ hook_bytes 4 (codes "size") 3 ++ hook_bytes 4 (codes "grow") 2 ++ hook_bytes 4 (codes "gget") 1
    ++ hook_bytes 4 (codes "gset") 1 ++ hook_bytes 4 (codes "copy") 4 ++ hook_bytes 4 (codes "fill") 4

-- the bytes of the function section and the export section
abbrev pub function_and_export_bytes : List ℕ
function_and_export_bytes =
    0x03 ∷ 0x02 ∷ 0x01 ∷ 0x00 ∷ 0x07 ∷ 0x05 ∷ 0x01 ∷ 0x01 ∷ 0x67 ∷ 0x00 ∷ 0x10 ∷ []

-- the bytes of the code of one answer
abbrev pub answer_bytes : List ℕ
answer_bytes =
    0x41 ∷ 0x00 ∷ 0x10 ∷ 0x04 ∷ 0x10 ∷ 0x00 ∷ 0x21 ∷ 0x01 ∷ 0x41 ∷ 0xFF ∷ 0x00 ∷ 0x20 ∷ 0x01 ∷ 0xAD ∷ 0x10 ∷ 0x01
    ∷ 0x41 ∷ 0x00 ∷ 0x10 ∷ 0x05 ∷ 0x20 ∷ 0x01 ∷ []

-- the bytes of the code section
abbrev pub code_bytes : List ℕ
code_bytes =
    0x0A ∷ 0x44 ∷ 0x01 ∷ 0x42
    ∷ 0x04 ∷ 0x02 ∷ 0x7F ∷ 0x01 ∷ 0x7E ∷ 0x01 ∷ 0x7D ∷ 0x01 ∷ 0x7C
    ∷ 0x41 ∷ 0x01 ∷ 0x10 ∷ 0x02 ∷ 0x02 ∷ 0x7F ∷ answer_bytes ++ answer_bytes
    ++ 0x6A ∷ 0x0B ∷ 0x41 ∷ 0x01 ∷ 0x10 ∷ 0x03 ∷ 0x0B ∷ []

-- the bytes of the custom section
abbrev pub custom_bytes : List ℕ
custom_bytes = 0x00 ∷ 0x2C ∷ 0x09 ∷ codes "r3.hooked" ++ digest ++ 0x01 ∷ 0x01 ∷ []

-- the bytes of the instrumented module, section by section
abbrev pub TwoAnswersBytes : Type 0
TwoAnswersBytes =
    encoding_of hooked_two_answers
    ≡ header_bytes ++ type_bytes ++ import_bytes ++ function_and_export_bytes ++ code_bytes ++ custom_bytes

-- ---- every kind of instruction

-- the functions of the instrumented module: the added locals of i32 join the existing one
abbrev pub EveryKindFunctions : Type 0
EveryKindFunctions =
    hooked_every_kind.funcs
    ≡ func 0 (run 3 I32 ∷ run 1 I64 ∷ run 1 F32 ∷ run 1 F64 ∷ []) every_kind_body
    ∷ func 0 added
    (Const (i32 2) ∷ Call 2 ∷ Block (Some I32) ∷ Const (i32 7) ∷ End ∷ Const (i32 2) ∷ Call 3 ∷ End ∷ []) ∷ []

-- the start function of the instrumented module
abbrev pub EveryKindStart : Type 0
EveryKindStart = hooked_every_kind.start ≡ Some 17

-- the element segment of the instrumented module
abbrev pub EveryKindSegment : Type 0
EveryKindSegment = hooked_every_kind.elems ≡ Active 0 (Const (i32 0) ∷ End ∷ []) (0 ∷ 17 ∷ []) ∷ []

-- ---- the hooked form

-- the form of an original with one import
abbrev pub form : List ℕ → (defined : ℕ) → HookedForm
form digest defined = record { digest = digest; imports = 1; defined = defined }

-- the instrumented module of two answers has the hooked form
abbrev pub TwoAnswersForm : Type 0
TwoAnswersForm = hooked_form hooked_two_answers ≡ Some (form digest 1)

-- the instrumented module of `every_kind` has the hooked form
abbrev pub EveryKindForm : Type 0
EveryKindForm = hooked_form hooked_every_kind ≡ Some (form no_digest 2)

-- other bodies do not change the form
abbrev pub DamagedForm : Type 0
DamagedForm = hooked_form (damaged 111 2) ≡ Some (form digest 1)

-- an original is not in the hooked form
abbrev pub NoForm : Type 0
NoForm = hooked_form two_answers ≡ None

-- a module with another import from the hooks' module, which is not in the hooked form
abbrev pub with_another_import : Module
with_another_import =
    record hooked_two_answers {
      imports = import_of (codes "r3") (codes "g") (Global (global_type I32 true)) ∷ hooked_two_answers.imports;
    }

-- a module with another import from the hooks' module is not in the hooked form
abbrev pub AnotherImportForm : Type 0
AnotherImportForm = hooked_form with_another_import ≡ None

-- a module without the custom section
abbrev pub without_section : Module
without_section = record hooked_two_answers { customs = [] }

-- a module without the custom section is not in the hooked form
abbrev pub NoSectionForm : Type 0
NoSectionForm = hooked_form without_section ≡ None

-- the examples have these instrumented modules
pub record InstrumentedExamples : Type 0 where
  pub two_answers_function : TwoAnswersFunction
  pub two_answers_types : TwoAnswersTypes
  pub two_answers_weights : TwoAnswersWeights
  pub two_answers_bytes : TwoAnswersBytes
  pub every_kind_functions : EveryKindFunctions
  pub every_kind_start : EveryKindStart
  pub every_kind_segment : EveryKindSegment
  pub two_answers_form : TwoAnswersForm
  pub every_kind_form : EveryKindForm
  pub damaged_form : DamagedForm
  pub no_form : NoForm
  pub another_import_form : AnotherImportForm
  pub no_section_form : NoSectionForm
