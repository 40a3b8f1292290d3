-- Plans, code and sizes of the examples, and changes that observations make.
use Rattle.std.specs.Prelude.{◌≡◌, ℕ, List, [], ◌∷◌, length, Some, None, true, false, nat_le, codes}
use Rattle.base.specs.declared.opcodes.TheConstants.{I32_ADD, I32_SUB, I32_DIV_U, I32_REM_U, I32_STORE, I32_STORE8, I32_STORE16, I64_STORE}
use Rattle.wasm_syntax.specs.declared.values.ValType.TheVariants.{I32, I64, F32, F64}
use Rattle.wasm_syntax.specs.declared.instructions.Instr.{Instr}
use Rattle.wasm_syntax.specs.declared.instructions.Instr.TheVariants.{Unreachable, Block, End, BrTable, Return, Call, Drop, LocalGet, LocalTee, GlobalGet, GlobalSet, Store, MemorySize, MemoryGrow, Const, Numeric, RefNull, RefFunc, TableSet, TableGrow, TableSize}
use Rattle.wasm_syntax.specs.declared.modules.ElemSeg.TheVariants.{Active, Declared}
use Rattle.wasm_syntax.specs.declared.modules.Module.{Module}
use Rattle.wasm_syntax.specs.Encoding.Shortest.{encoding_of}
use Rattle.wasm_syntax.specs.Validity.{IsValid}
use Rattle.host_script.specs.declared.scripts.Script.{Script}
use Rattle.trace_model.specs.declared.tapes.Effect.TheVariants.{Grow, Table, Bytes, Entry, Global}
use Rattle.trace_model.specs.declared.tapes.Tape.{Tape}
use Rattle.trace_model.specs.Weight.{tape_weight}
use Rattle.record_replay_spec.specs.Observations.{Reads, Reaches, Writes, Resizes, WritesEntry, ResizesTable, WritesGlobal}
use Rattle.replay_module_spec.specs.Plans.{plan_of}
use Rattle.replay_module_spec.specs.Segments.{effects_code}
use Rattle.replay_module_spec.specs.Fragments.{fragment_of}
use Rattle.replay_module_spec.specs.Merge.{memory_written}
use Rattle.replay_module_spec.specs.Size.{max_bytes}
use Rattle.replay_run_spec.specs.Items.{changes_of}
use Rattle.worked_histories.specs.Build.{i32, value, func_type, limits, global_type, memory_arg, run, func, global}
use Rattle.worked_histories.specs.Modules.{two_answers, nested_call, table_entry, imported_offset}
use Rattle.worked_histories.specs.Scripts.{idle, five_seven, gives_global}
use Rattle.worked_histories.specs.RunLines.{Lines}
use Rattle.worked_replay_modules.specs.Tapes.{calls_one, ends_work, calls_two, two, four_then_one, two_answers_tape, nested_call_tape, fifteen_bytes, one_return_then_trap, calls_zero_tape, counted_tape}
use Rattle.worked_replay_modules.specs.Tests.{replay_of, print_call}

-- ---- plans

-- the outer call begins before the inner one; its second segment comes after the nested call
abbrev pub NestedPlan : Type 0
NestedPlan =
    plan_of 1 nested_call_tape ≡
    record {
      begin = calls_one ∷ ends_work ∷ [];
      imports = ((calls_two ∷ four_then_one ∷ []) ∷ (two ∷ []) ∷ []) ∷ [];
    }

-- ---- code

-- the number of the call is kept, the counter is increased, and the one group's function is called
abbrev pub two_answers_body : List Instr
two_answers_body =
    GlobalGet 0 ∷ LocalTee 0 ∷ Const (i32 1) ∷ Numeric I32_ADD ∷ GlobalSet 0 ∷ Block None ∷ Block None ∷ LocalGet 0
    ∷ Const (i32 256) ∷ Numeric I32_DIV_U ∷ BrTable (0 ∷ []) 1 ∷ End ∷ LocalGet 0 ∷ Call 3 ∷ Return ∷ End
    ∷ Unreachable ∷ End ∷ []

-- the group's function has an arm for each of the two calls
abbrev pub two_answers_group : List Instr
two_answers_group =
    Block None ∷ Block None ∷ Block None ∷ LocalGet 0 ∷ Const (i32 256) ∷ Numeric I32_REM_U ∷ BrTable (0 ∷ 1 ∷ []) 2
    ∷ End ∷ Const (i32 5) ∷ Return ∷ End ∷ Const (i32 7) ∷ Return ∷ End ∷ Unreachable ∷ End ∷ []

-- the generated part of two answers
abbrev pub TwoAnswersFragment : Type 0
TwoAnswersFragment =
    fragment_of two_answers (plan_of 1 two_answers_tape) ≡
    record {
      bodies = func 0 (run 1 I32 ∷ []) two_answers_body ∷ [];
      helpers = func 1 [] (Call 1 ∷ Drop ∷ Return ∷ End ∷ []) ∷ func 3 [] two_answers_group ∷ [];
      entry = 2;
      types =
          func_type [] [] ∷ func_type (I32 ∷ []) [] ∷ func_type (I32 ∷ []) (I32 ∷ [])
          ∷ func_type (I32 ∷ []) (I64 ∷ []) ∷ func_type (I32 ∷ []) (F32 ∷ []) ∷ func_type (I32 ∷ []) (F64 ∷ []) ∷ [];
      globals = global (global_type I32 true) (Const (i32 0) ∷ End ∷ []) ∷ [];
      declared = [];
    }

-- fifteen bytes take a store of each width
abbrev pub FifteenBytesCode : Type 0
FifteenBytesCode =
    effects_code fifteen_bytes ≡
    Const (i32 100) ∷ Const (value I64 0xF807060504030201) ∷ Store (memory_arg I64_STORE 0 0)
    ∷ Const (i32 108) ∷ Const (i32 0xFC0B0A09) ∷ Store (memory_arg I32_STORE 0 0)
    ∷ Const (i32 112) ∷ Const (i32 0x0E0D) ∷ Store (memory_arg I32_STORE16 0 0)
    ∷ Const (i32 114) ∷ Const (i32 15) ∷ Store (memory_arg I32_STORE8 0 0) ∷ []

-- the code of one of each other effect
abbrev pub OtherEffectsCode : Type 0
OtherEffectsCode =
    effects_code (Grow 2 ∷ Table 6 ∷ Entry 5 (Some 3) ∷ Entry 6 None ∷ Global 1 (value F32 2141192193) ∷ []) ≡
    Const (i32 2) ∷ MemorySize ∷ Numeric I32_SUB ∷ MemoryGrow ∷ Drop
    ∷ RefNull ∷ Const (i32 6) ∷ TableSize 0 ∷ Numeric I32_SUB ∷ TableGrow 0 ∷ Drop
    ∷ Const (i32 5) ∷ RefFunc 3 ∷ TableSet 0
    ∷ Const (i32 6) ∷ RefNull ∷ TableSet 0
    ∷ Const (value F32 2141192193) ∷ GlobalSet 1 ∷ []

-- the functions that the tape puts into the table are declared
abbrev pub DeclaredFuncs : Type 0
DeclaredFuncs =
    (fragment_of table_entry (plan_of 1 (one_return_then_trap
    (Entry 0 (Some 3) ∷ Entry 1 (Some 0) ∷ Entry 2 (Some 3) ∷ [])))).declared ≡ 0 ∷ 3 ∷ []

-- ---- the module

-- the function that the tape puts into the table is declared after the original's segments
abbrev pub DeclaredSegment : Type 0
DeclaredSegment =
    (replay_of table_entry idle (one_return_then_trap (Entry 0 (Some 3) ∷ []))).elems ≡
    Active 0 (Const (i32 0) ∷ End ∷ []) (2 ∷ []) ∷ Declared (3 ∷ []) ∷ []

-- an imported global is defined with the supplied value, and so is the offset
pub record SuppliedGlobal : Type 0 where
  pub globals : (replay_of imported_offset (gives_global (Some (i32 16))) calls_zero_tape).globals ≡
      global (global_type I32 false) (Const (i32 16) ∷ End ∷ []) ∷ []
  pub datas : (replay_of imported_offset (gives_global (Some (i32 16))) calls_zero_tape).datas ≡
      record { memory = 0; offset = Const (i32 16) ∷ End ∷ []; bytes = 65 ∷ [] } ∷ []

-- the maximum of a memory is at most the greatest that a module may declare
abbrev pub GreatMaximum : Type 0
GreatMaximum = memory_written (limits 2 (Some 100000)) ≡ limits 2 (Some 65536)

-- ---- many calls of an import

-- the replay module of 300 calls is valid
abbrev pub ManyCallsValid : Type 0
ManyCallsValid = IsValid (replay_of nested_call idle (counted_tape 300))

-- after `calls` calls of the import, a run with one more call takes these turns and shows these lines
abbrev pub ManyCalls : (calls turns : ℕ) → List (List ℕ) → Type 0
ManyCalls calls turns lines = print_call nested_call idle (counted_tape 300) 2 0 calls 400 ≡ Lines turns lines

-- the lines of a run whose call of the import is answered, with these lines of its two returns
abbrev pub answered : (text : List ℕ) → (returned : List ℕ) → List (List ℕ)
answered text returned =
    codes "host-call 2" ∷ codes "step 2 0 ->" ∷ codes "import-call 0" ∷ text ∷ returned ∷ codes "ended" ∷ []

-- the lines of a run whose call of the import is past the tape
abbrev pub trapped : List (List ℕ)
trapped =
    codes "host-call 2" ∷ codes "step 2 0 ->" ∷ codes "import-call 0" ∷ codes "host-trap" ∷ codes "host-trapped" ∷ []

-- the first and the last call of the first group, and of the second; a call after the last one, and one after the last
-- group
pub record CallsOfGroups : Type 0 where
  pub first : ManyCalls 0 279
      (answered (codes "import-return 0 i32:00000000") (codes "host-return 2 i32:00000000"))
  pub last_of_first : ManyCalls 255 279
      (answered (codes "import-return 0 i32:000000ff") (codes "host-return 2 i32:000000ff"))
  pub first_of_second : ManyCalls 256 67
      (answered (codes "import-return 0 i32:00000100") (codes "host-return 2 i32:00000100"))
  pub last : ManyCalls 299 67
      (answered (codes "import-return 0 i32:0000012b") (codes "host-return 2 i32:0000012b"))
  pub past_calls : ManyCalls 300 65 trapped
  pub past_groups : ManyCalls 512 14 trapped

-- ---- changes

-- what is written and what grows is changed, and so are the entries that a growth adds with a function; what is read,
-- what grows by nothing, and a global after the original's two are not
abbrev pub ObservedChanges : Type 0
ObservedChanges =
    changes_of 2
    (Reaches 8 1 ∷ Reads 0 (1 ∷ []) ∷ Writes 3 (7 ∷ 8 ∷ []) ∷ Resizes 1 1 ∷ Resizes 1 3 ∷ WritesEntry 0 None
    ∷ ResizesTable 1 1 (Some 9) ∷ ResizesTable 1 2 None ∷ ResizesTable 2 4 (Some 9) ∷ WritesGlobal 1 (i32 5)
    ∷ WritesGlobal 2 (i32 6) ∷ []) ≡
    Bytes 3 (7 ∷ 8 ∷ []) ∷ Grow 3 ∷ Entry 0 None ∷ Table 2 ∷ Table 4 ∷ Entry 2 (Some 9) ∷ Entry 3 (Some 9)
    ∷ Global 1 (i32 5) ∷ []

-- ---- sizes

-- the length of the replay module's shortest encoding, which is within the bound
pub record HasSize (m : Module) (script : Script) (tape : Tape) (bytes : ℕ) : Type 0 where
  pub size : length (encoding_of (replay_of m script tape)) ≡ bytes
  pub within : nat_le bytes (max_bytes m (tape_weight tape)) ≡ true

-- the length of the encoding of two answers' replay module
abbrev pub TwoAnswersSize : Type 0
TwoAnswersSize = HasSize two_answers five_seven two_answers_tape 167

-- all statements on parts hold
pub record PartsOfReplays : Type 0 where
  pub nested_plan : NestedPlan
  pub two_answers_fragment : TwoAnswersFragment
  pub fifteen_bytes_code : FifteenBytesCode
  pub other_effects_code : OtherEffectsCode
  pub declared_funcs : DeclaredFuncs
  pub declared_segment : DeclaredSegment
  pub supplied_global : SuppliedGlobal
  pub great_maximum : GreatMaximum
  pub many_calls_valid : ManyCallsValid
  pub calls_of_groups : CallsOfGroups
  pub observed_changes : ObservedChanges
  pub two_answers_size : TwoAnswersSize
