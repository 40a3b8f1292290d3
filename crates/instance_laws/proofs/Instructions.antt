-- An instruction, if all indices are resolved beforehand.
use Rattle.std.proofs.Common.{◌≡◌, ℕ, zero, suc, ◌+◌, List, [], ◌∷◌, ◌++◌, map, take, length, Option, Some, None, Bool, true, false, slice_get, refl}
use Rattle.std.specs.List.{slice_index_or}
use Rattle.wasm_syntax.specs.declared.values.ValType.{ValType}
use Rattle.wasm_syntax.specs.declared.values.ValType.TheVariants.{I32, FuncRef}
use Rattle.wasm_syntax.specs.declared.values.Val.{Val}
use Rattle.wasm_syntax.specs.declared.signatures.FuncType.{FuncType}
use Rattle.wasm_syntax.specs.declared.instructions.Instr.{Instr}
use Rattle.wasm_syntax.specs.declared.instructions.Instr.TheVariants.{Unreachable, Nop, Block, Loop, If, Else, End, Br, BrIf, BrTable, Return, Call, CallIndirect, Drop, Select, LocalGet, LocalSet, LocalTee, GlobalGet, GlobalSet, Load, Store as StoreTo, MemorySize, MemoryGrow, MemoryCopy, MemoryFill, Const, Numeric, RefNull, RefFunc, TableSet, TableGrow, TableSize}
use Rattle.wasm_syntax.specs.Alike.{same_signature}
use Rattle.wasm_syntax.specs.Opcodes.{Access, numeric_shape, load_of, store_of}
use Rattle.history_spec.specs.Numeric.{NumericValue, Computed, Undefined, Unsupported, numeric_value}
use Rattle.history_spec.specs.Store.{Store, Memory, Table, bytes_at, with_bytes_at, with_bytes_copied, bytes_of, grown_memory, grown_table, with_entry}
use Rattle.history_spec.specs.Code.{Code, Definition, signature}
use Rattle.history_spec.specs.Configuration.{Place, Label, Frame, topmost}
use Rattle.history_spec.specs.Instruction.{Execution, on, pop, takes, bits_at, choice, gives, branch, branch_to, to_label, to_caller, calls_if, calls_entry, load_result, store_result, grow_result, table_result, table_grow_result, numeric_result, type_of_top, referent, execute_plain}
use Rattle.instance_spec.specs.Instances.{Instance, World}
use Rattle.instance_spec.specs.Renamed.{renamed_place, renamed_label, renamed_frame_in, renamed_execution}

module _ (w : World) (code : Code) (defined : List (Option Definition)) (store : Store) (frame : Frame)
    (here next : Place) where
  abbrev i : Instance
  i = w.instance_of frame.func

  abbrev other : Code
  other = record code { defined = defined }

  -- the activation of the program whose indices are resolved, at any place
  abbrev second : Frame
  second = record (renamed_frame_in i frame) { at = here }

  abbrev after : Place
  after = renamed_place i next

  abbrev Alike : Execution → Execution → Type 0
  Alike first other = other ≡ renamed_execution w first

  on_alike : {X : Type 0} (o : Option X) (go go_other : X → Execution) → ((x : X) → Alike (go x) (go_other x))
      → Alike (on o go) (on o go_other)
  on_alike None go go_other alike = refl
  on_alike (Some x) go go_other alike = alike x

  pub takes_alike : (types : List ValType) (go go_other : List Val → List Val → Execution)
      → ((operands rest : List Val) → Alike (go operands rest) (go_other operands rest))
      → Alike (takes frame types go) (takes second types go_other)
  takes_alike types go go_other alike =
      on_alike (pop types frame.values) (λ p. go p.operands p.rest) (λ p. go_other p.operands p.rest)
      (λ p. alike p.operands p.rest)

  loaded : (memory : Memory) (access : Access) (operands rest : List Val) (o : Option (List ℕ))
      → Alike (load_result store frame next memory access operands rest o)
      (load_result store second after memory access operands rest o)
  loaded memory access operands rest None = refl
  loaded memory access operands rest (Some bytes) = refl

  stored : (memory : Memory) (operands rest : List Val) (o : Option (List ℕ))
      → Alike (store_result store frame next memory operands rest o)
      (store_result store second after memory operands rest o)
  stored memory operands rest None = refl
  stored memory operands rest (Some bytes) = refl

  grown : (memory : Memory) (operands rest : List Val) (o : Option Memory)
      → Alike (grow_result store frame next memory operands rest o)
      (grow_result store second after memory operands rest o)
  grown memory operands rest None = refl
  grown memory operands rest (Some larger) = refl

  set : (table : Table) (operands rest : List Val) (o : Option (List (Option ℕ)))
      → Alike (table_result store frame next table operands rest o)
      (table_result store second after table operands rest o)
  set table operands rest None = refl
  set table operands rest (Some entries) = refl

  table_grown : (table : Table) (operands rest : List Val) (o : Option Table)
      → Alike (table_grow_result store frame next table operands rest o)
      (table_grow_result store second after table operands rest o)
  table_grown table operands rest None = refl
  table_grown table operands rest (Some larger) = refl

  computed : (ty : ValType) (operands rest : List Val) (v : NumericValue)
      → Alike (numeric_result store frame next ty operands rest v)
      (numeric_result store second after ty operands rest v)
  computed ty operands rest (Computed bits) = refl
  computed ty operands rest (Undefined kind) = refl
  computed ty operands rest Unsupported = refl

  -- ---- branches

  to_caller_alike : (operands : List Val) (o : Option (List Val)) → Alike (to_caller operands o) (to_caller operands o)
  to_caller_alike operands None = refl
  to_caller_alike operands (Some results) = refl

  to_label_alike : (operands : List Val) (o : Option (List Val)) (labels : List Label) (label : Label)
      → Alike (to_label store frame operands o labels label)
      (to_label store second operands o (map (renamed_label i) labels) (renamed_label i label))
  to_label_alike operands None labels label = refl
  to_label_alike operands (Some carried) labels label = refl

  branch_alike : (operands values : List Val) (labels : List Label) (l : ℕ)
      → Alike (branch_to store frame operands values labels l)
      (branch_to store second operands values (map (renamed_label i) labels) l)
  branch_alike operands values [] zero = to_caller_alike operands (topmost frame.arity values)
  branch_alike operands values [] (suc l) = refl
  branch_alike operands values (label ∷ labels) zero =
      to_label_alike operands (topmost label.arity values) labels label
  branch_alike operands values (label ∷ labels) (suc l) = branch_alike operands values labels l

  chosen : (n : ℕ) (operands rest : List Val) (l : ℕ)
      → Alike (choice n (branch store frame operands rest l) (gives store frame next operands rest []))
      (choice n (branch store second operands rest l) (gives store second after operands rest []))
  chosen zero operands rest l = refl
  chosen (suc n) operands rest l = branch_alike operands rest frame.labels l

  -- ---- calls

  typed : (operands rest args : List Val) (func : ℕ) (b : Bool)
      → Alike (calls_if b frame next operands rest func args) (calls_if b second after operands rest func args)
  typed operands rest args func true = refl
  typed operands rest args func false = refl

  entered : (ty : FuncType) (table : Table) (operands rest : List Val) (o : Option (Option ℕ))
      → Alike (calls_entry code ty frame next table operands rest o)
      (calls_entry other ty second after table operands rest o)
  entered ty table operands rest None = refl
  entered ty table operands rest (Some None) = refl
  entered ty table operands rest (Some (Some func)) =
      on_alike (signature code func) _ _
      (λ found. typed operands rest (take (length ty.params) operands) func (same_signature ty found))

  -- ---- any one

  pub plain_alike : (instr : Instr)
      → Alike (execute_plain code store frame next instr) (execute_plain other store second after instr)
  plain_alike Unreachable = refl
  plain_alike Nop = refl
  plain_alike (Br l) = branch_alike [] frame.values frame.labels l
  plain_alike (BrIf l) =
      takes_alike (I32 ∷ []) _ _ (λ operands rest. chosen (bits_at operands 0) operands rest l)
  plain_alike (BrTable labels l) =
      takes_alike (I32 ∷ []) _ _
      (λ operands rest. branch_alike operands rest frame.labels (slice_index_or labels (bits_at operands 0) l))
  plain_alike Return = to_caller_alike [] (topmost frame.arity frame.values)
  plain_alike (Call func) =
      on_alike (signature code func) _ _ (λ ty. takes_alike ty.params _ _ (λ operands rest. refl))
  plain_alike (CallIndirect t) =
      on_alike (slice_get code.types t) _ _ (λ ty.
      on_alike store.table _ _ (λ table.
      takes_alike (ty.params ++ I32 ∷ []) _ _ (λ operands rest.
      entered ty table operands rest (slice_get table.entries (bits_at operands (length ty.params))))))
  plain_alike Drop =
      on_alike (type_of_top frame 0) _ _ (λ ty. takes_alike (ty ∷ []) _ _ (λ operands rest. refl))
  plain_alike Select =
      on_alike (type_of_top frame 1) _ _ (λ ty. takes_alike (ty ∷ ty ∷ I32 ∷ []) _ _ (λ operands rest. refl))
  plain_alike (LocalGet x) = on_alike (slice_get frame.locals x) _ _ (λ value. refl)
  plain_alike (LocalSet x) =
      on_alike (slice_get frame.locals x) _ _ (λ old. takes_alike (old.ty ∷ []) _ _ (λ operands rest. refl))
  plain_alike (LocalTee x) =
      on_alike (slice_get frame.locals x) _ _ (λ old. takes_alike (old.ty ∷ []) _ _ (λ operands rest. refl))
  plain_alike (GlobalGet x) = on_alike (slice_get store.globals x) _ _ (λ value. refl)
  plain_alike (GlobalSet x) =
      on_alike (slice_get store.globals x) _ _ (λ old. takes_alike (old.ty ∷ []) _ _ (λ operands rest. refl))
  plain_alike (Load at) =
      on_alike (load_of at.op) _ _ (λ access.
      on_alike store.memory _ _ (λ memory.
      takes_alike (I32 ∷ []) _ _ (λ operands rest.
      loaded memory access operands rest (bytes_at memory.bytes (bits_at operands 0 + at.offset) access.width))))
  plain_alike (StoreTo at) =
      on_alike (store_of at.op) _ _ (λ access.
      on_alike store.memory _ _ (λ memory.
      takes_alike (I32 ∷ access.ty ∷ []) _ _ (λ operands rest.
      stored memory operands rest
      (with_bytes_at memory.bytes (bits_at operands 0 + at.offset) (bytes_of access.width (bits_at operands 1))))))
  plain_alike MemorySize = on_alike store.memory _ _ (λ memory. refl)
  plain_alike MemoryGrow =
      on_alike store.memory _ _ (λ memory.
      takes_alike (I32 ∷ []) _ _ (λ operands rest.
      grown memory operands rest (grown_memory memory (bits_at operands 0))))
  plain_alike MemoryCopy =
      on_alike store.memory _ _ (λ memory.
      takes_alike (I32 ∷ I32 ∷ I32 ∷ []) _ _ (λ operands rest.
      stored memory operands rest
      (with_bytes_copied memory.bytes (bits_at operands 0) (bits_at operands 1) (bits_at operands 2))))
  plain_alike MemoryFill =
      on_alike store.memory _ _ (λ memory. takes_alike (I32 ∷ I32 ∷ I32 ∷ []) _ _ (λ operands rest. stored memory operands rest _))
  plain_alike (Const value) = refl
  plain_alike (Numeric op) =
      on_alike (numeric_shape op) _ _ (λ shape.
      takes_alike shape.operands _ _ (λ operands rest.
      computed shape.result operands rest (numeric_value op operands)))
  plain_alike RefNull = refl
  plain_alike (RefFunc func) = refl
  plain_alike (TableSet zero) =
      on_alike store.table _ _ (λ table.
      takes_alike (I32 ∷ FuncRef ∷ []) _ _ (λ operands rest.
      set table operands rest (with_entry table.entries (bits_at operands 0) (referent (bits_at operands 1)))))
  plain_alike (TableSet (suc t)) = refl
  plain_alike (TableGrow zero) =
      on_alike store.table _ _ (λ table.
      takes_alike (FuncRef ∷ I32 ∷ []) _ _ (λ operands rest.
      table_grown table operands rest (grown_table table (bits_at operands 1) (referent (bits_at operands 0)))))
  plain_alike (TableGrow (suc t)) = refl
  plain_alike (TableSize zero) = on_alike store.table _ _ (λ table. refl)
  plain_alike (TableSize (suc t)) = refl
  plain_alike (Block ty) = refl
  plain_alike (Loop ty) = refl
  plain_alike (If ty) = refl
  plain_alike Else = refl
  plain_alike End = refl
