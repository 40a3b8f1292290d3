-- The accepted profile: which valid modules are refused, and at which place.
use Rattle.std.specs.Prelude.{◌≡◌, ℕ, List, [], ◌++◌, length, sum_by, filter, filter_map, flat_map, Option, Some, None, Bool, true, false, cond, ◌||◌, nat_lt, bytes_eq, codes, slice_get, option_map}
use Rattle.std.specs.List.{enumerate_from}
use Rattle.base.specs.declared.opcodes.TheConstants.{F32_EQ, F64_GE, F32_ABS, F64_COPYSIGN, I32_TRUNC_F32_S, I32_TRUNC_F64_U, I64_TRUNC_F32_S, F64_PROMOTE_F32}
use Rattle.wasm_syntax.specs.declared.limits.TheConstants.{MAX_ENTRIES, MAX_LOCALS, MAX_LOCALS_HOOKED, MAX_PAGES, MAX_PARAMETERS}
use Rattle.wasm_syntax.specs.declared.profile.Feature.{Feature}
use Rattle.wasm_syntax.specs.declared.profile.Feature.TheVariants.{FloatComparison, FloatArithmetic, FloatConversion}
use Rattle.wasm_syntax.specs.declared.profile.Which.{Which}
use Rattle.wasm_syntax.specs.declared.profile.Which.TheVariants.{Parameters, Table, Memory, Locals}
use Rattle.wasm_syntax.specs.declared.instructions.Instr.{Instr}
use Rattle.wasm_syntax.specs.declared.instructions.Instr.TheVariants.{Else, End, Numeric}
use Rattle.wasm_syntax.specs.declared.modules.Module.{Module}
use Rattle.wasm_syntax.specs.declared.modules.Import.{Import}
use Rattle.wasm_syntax.specs.declared.modules.Func.{Func}
use Rattle.wasm_syntax.specs.Opcodes.{is_from}
use Rattle.wasm_syntax.specs.Index.{imported_funcs, all_tables, all_memories}
use Rattle.wasm_syntax.specs.Validity.{IsValid}

-- the class of a refused opcode (Core 1.0, 5.4.5)
abbrev pub feature_of : ℕ → Option Feature
feature_of op =
    cond (is_from F32_EQ F64_GE op) (Some FloatComparison)
    (cond (is_from F32_ABS F64_COPYSIGN op) (Some FloatArithmetic)
    (cond (is_from I32_TRUNC_F32_S I32_TRUNC_F64_U op || is_from I64_TRUNC_F32_S F64_PROMOTE_F32 op)
    (Some FloatConversion) None))

abbrev pub refused_feature : Instr → Option Feature
refused_feature (Numeric op) = feature_of op
refused_feature other = None

-- whether an instruction has a number, as all but `else` and `end` do
abbrev pub is_numbered : Instr → Bool
is_numbered Else = false
is_numbered End = false
is_numbered i = true

-- the instructions of a body, each with its number
abbrev pub numbered_instrs : List Instr → List (ℕ × Instr)
numbered_instrs body = enumerate_from 0 (filter is_numbered body)

-- why a valid module is refused: an instruction of a function, by its number; a quantity past its limit;
-- an import, by its place
pub data Refusal : Type 0 where
  Unsupported : (func number : ℕ) (feature : Feature) → Refusal
  Limit : (which : Which) (value : ℕ) → Refusal
  Reserved : (import : ℕ) → Refusal

-- each refused instruction of a function, by the function's index
abbrev pub refused_in : ℕ → Func → List Refusal
refused_in func f =
    filter_map (λ (i : ℕ × Instr). option_map (Unsupported func i.0) (refused_feature i.1)) (numbered_instrs f.body)

-- each refused instruction, by function and number
abbrev pub refused_instructions : Module → List Refusal
refused_instructions m = flat_map (λ (f : ℕ × Func). refused_in f.0 f.1) (enumerate_from (imported_funcs m) m.funcs)

-- the refusal of a quantity that is more than the most that is allowed
abbrev pub past : ℕ → Which → ℕ → Option Refusal
past most which value = cond (nat_lt most value) (Some (Limit which value)) None

-- the number of locals of a function, without its parameters
abbrev pub count_of_locals : Func → ℕ
count_of_locals f = sum_by (λ run. run.count) f.locals

-- the most locals of a function; an instrumented module has five more
abbrev pub max_locals : Bool → ℕ
max_locals hooked = cond hooked MAX_LOCALS_HOOKED MAX_LOCALS

-- each quantity past its limit: parameters by type, the table's and the memory's minimum, locals by function
abbrev pub quantities_past : Bool → Module → List Refusal
quantities_past hooked m =
    filter_map (λ ty. past MAX_PARAMETERS Parameters (length ty.params)) m.types
    ++ filter_map (λ limits. past MAX_ENTRIES Table limits.min) (all_tables m)
    ++ filter_map (λ limits. past MAX_PAGES Memory limits.min) (all_memories m)
    ++ filter_map (λ f. past (max_locals hooked) Locals (count_of_locals f)) m.funcs

-- the refusal of an import from the module `r3`
abbrev pub reserved_import : ℕ × Import → Option Refusal
reserved_import i = cond (bytes_eq i.1.module (codes "r3")) (Some (Reserved i.0)) None

-- the refusal of each import that only an instrumented module may have
abbrev pub reserved_imports : Bool → Module → List Refusal
reserved_imports hooked m = cond hooked [] (filter_map reserved_import (enumerate_from 0 m.imports))

-- all refusals, in the order in which they are reported
abbrev pub refusals : Bool → Module → List Refusal
refusals hooked m = refused_instructions m ++ quantities_past hooked m ++ reserved_imports hooked m

-- the refusal that is reported
abbrev pub first_refusal : Bool → Module → Option Refusal
first_refusal hooked m = slice_get (refusals hooked m) 0

-- an accepted module; `hooked` is true if an instrumented one is wanted
pub record IsAccepted (hooked : Bool) (m : Module) : Type 0 where
  pub valid : IsValid m
  pub none_refused : refusals hooked m ≡ []

-- a module that can be run: no instruction is refused, and the quantities are at most those of an instrumented
-- one
pub record IsSupported (m : Module) : Type 0 where
  pub instructions : refused_instructions m ≡ []
  pub quantities : quantities_past true m ≡ []
