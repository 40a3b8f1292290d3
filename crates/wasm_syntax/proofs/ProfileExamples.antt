-- What the accepted profile refuses of modules, by its order and at the edges of its limits.
-- These are examples, which the check computes.
use Rattle.std.proofs.Common.{◌≡◌, ℕ, List, [], ◌∷◌, ◌++◌, Option, Some, None, true, false, replicate, refl}
use Rattle.std.specs.Prelude.{codes}
use Rattle.wasm_syntax.specs.declared.values.ValType.TheVariants.{I32, I64, F32, F64}
use Rattle.wasm_syntax.specs.declared.profile.Feature.TheVariants.{FloatArithmetic, FloatConversion}
use Rattle.wasm_syntax.specs.declared.profile.Which.TheVariants.{Parameters, Table, Memory, Locals}
use Rattle.wasm_syntax.specs.declared.instructions.Instr.{Instr}
use Rattle.wasm_syntax.specs.declared.instructions.Instr.TheVariants.{Nop, If, Else, End, Drop, Numeric}
use Rattle.wasm_syntax.specs.declared.modules.Module.{Module}
use Rattle.wasm_syntax.specs.declared.modules.ImportKind.{ImportKind}
use Rattle.wasm_syntax.specs.declared.modules.ImportKind.TheVariants as import
use Rattle.wasm_syntax.specs.declared.modules.Func.{Func}
use Rattle.wasm_syntax.specs.Profile.{Refusal, Unsupported, Limit, Reserved, first_refusal, IsAccepted}
use Rattle.wasm_syntax.proofs.Places.{valid_if}
use Rattle.wasm_syntax.specs.EmptyModule.{empty_module}
use Rattle.wasm_syntax.proofs.ModuleExamples.{func_type, limits, constant, two_answers, c_buffers, float_body, replay_two_answers, too_many_pages, max_pages}

-- a module that is not instrumented; one that may be
abbrev refused : Module → Option Refusal
refused m = first_refusal false m

abbrev refused_hooked : Module → Option Refusal
refused_hooked m = first_refusal true m

two_answers_accepted : IsAccepted false two_answers
two_answers_accepted = record { valid = valid_if two_answers refl; none_refused = refl }

c_buffers_accepted : IsAccepted false c_buffers
c_buffers_accepted = record { valid = valid_if c_buffers refl; none_refused = refl }

replay_accepted : IsAccepted false replay_two_answers
replay_accepted = record { valid = valid_if replay_two_answers refl; none_refused = refl }

-- ---- refused instructions, by function and number

float_addition : refused float_body ≡ Some (Unsupported 2 3 FloatArithmetic)
float_addition = refl

abbrev body : List Instr → Func
body instrs = record { ty = 0; locals = []; body = instrs ++ End ∷ [] }

abbrev with_bodies : List Func → Module
with_bodies funcs = record two_answers { funcs = funcs }

-- `else` and `end` have no number, and the first in the body is named before those of other classes
first_in_body : refused (with_bodies (body (constant I32 0 ∷ If None ∷ Nop ∷ Else ∷ Nop ∷ End ∷ constant F64 0
    ∷ Numeric 0xAA ∷ Drop ∷ constant F32 0 ∷ constant F32 0 ∷ Numeric 0x5B ∷ Drop ∷ []) ∷ []))
    ≡ Some (Unsupported 1 5 FloatConversion)
first_in_body = refl

first_function : refused (with_bodies (body [] ∷ body (Numeric 0xBB ∷ []) ∷ body (Numeric 0x5B ∷ []) ∷ [])) ≡ Some (Unsupported 2 0 FloatConversion)
first_function = refl

-- a refused instruction is named before any quantity, and a quantity before an import
abbrev refused_thrice : Module
refused_thrice = record float_body { memories = limits 4097 None ∷ []; imports = record { «module» = codes "r3"; name = codes "f"; kind = import.Func 0 } ∷ [] }

instruction_first : refused refused_thrice ≡ Some (Unsupported 3 3 FloatArithmetic)
instruction_first = refl

then_quantity : refused (record refused_thrice { funcs = [] }) ≡ Some (Limit Memory 4097)
then_quantity = refl

then_import : refused (record refused_thrice { funcs = []; memories = [] }) ≡ Some (Reserved 0)
then_import = refl

-- ---- quantities

pages_past : refused too_many_pages ≡ Some (Limit Memory 4097)
pages_past = refl

pages_within : refused max_pages ≡ None
pages_within = refl

abbrev importing : ImportKind → Module
importing kind = record empty_module { imports = record { «module» = codes "env"; name = codes "f"; kind = kind } ∷ [] }

imported_pages_past : refused (importing (import.Memory (limits 4097 None))) ≡ Some (Limit Memory 4097)
imported_pages_past = refl

-- a maximum may be larger
maximum_free : refused (importing (import.Memory (limits 1 (Some 65536)))) ≡ None
maximum_free = refl

entries_within : refused (record empty_module { tables = limits 1000000 None ∷ [] }) ≡ None
entries_within = refl

entries_past : refused (record empty_module { tables = limits 1000001 None ∷ [] }) ≡ Some (Limit Table 1000001)
entries_past = refl

imported_entries_past : refused (importing (import.Table (limits 1000001 None))) ≡ Some (Limit Table 1000001)
imported_entries_past = refl

abbrev taking : ℕ → Module
taking n = record empty_module { types = func_type [] [] ∷ func_type (replicate n I32) [] ∷ [] }

parameters_within : refused (taking 1000) ≡ None
parameters_within = refl

parameters_past : refused (taking 1001) ≡ Some (Limit Parameters 1001)
parameters_past = refl

abbrev having : ℕ → ℕ → Module
having some more = record empty_module {
  types = func_type (I64 ∷ []) [] ∷ [];
  funcs = record { ty = 0; locals = record { count = some; ty = I32 } ∷ record { count = more; ty = F64 } ∷ []; body = End ∷ [] } ∷ [];
}

locals_within : refused (having 20000 30000) ≡ None
locals_within = refl

locals_past : refused (having 20000 30001) ≡ Some (Limit Locals 50001)
locals_past = refl

hooked_locals_within : refused_hooked (having 20000 30005) ≡ None
hooked_locals_within = refl

hooked_locals_past : refused_hooked (having 20000 30006) ≡ Some (Limit Locals 50006)
hooked_locals_past = refl

-- parameters are looked for before the table, the table before the memory, the memory before locals
abbrev past_all : Module
past_all = record (having 50000 1) {
  types = func_type (replicate 1001 I32) [] ∷ [];
  tables = limits 1000001 None ∷ [];
  memories = limits 4097 None ∷ [];
}

parameters_first : refused past_all ≡ Some (Limit Parameters 1001)
parameters_first = refl

then_table : refused (record past_all { types = [] }) ≡ Some (Limit Table 1000001)
then_table = refl

then_memory : refused (record past_all { types = []; tables = [] }) ≡ Some (Limit Memory 4097)
then_memory = refl

then_locals : refused (record past_all { types = []; tables = []; memories = [] }) ≡ Some (Limit Locals 50001)
then_locals = refl

-- ---- reserved imports

abbrev importing_from : List ℕ → List ℕ → Module
importing_from one other = record empty_module {
  imports =
      record { «module» = one; name = codes "f"; kind = import.Memory (limits 0 None) }
      ∷ record { «module» = other; name = codes "f"; kind = import.Table (limits 0 None) }
      ∷ [];
}

reserved_import : refused (importing_from (codes "env") (codes "r3")) ≡ Some (Reserved 1)
reserved_import = refl

reserved_imports_free : refused_hooked (importing_from (codes "r3") (codes "r3")) ≡ None
reserved_imports_free = refl

other_names : refused (importing_from (codes "r33") (codes "R3")) ≡ None
other_names = refl
