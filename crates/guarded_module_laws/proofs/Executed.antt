-- An instruction of a replay module, and the same instruction in its guarded module.
use Rattle.std.proofs.Common.{◌≡◌, ℕ, zero, suc, ◌+◌, List, [], ◌∷◌, ◌++◌, map, take, length, Option, Some, None, Bool, true, false, slice_get, refl, ap, sym, ◌∙◌, subst}
use Rattle.std.specs.List.{slice_index_or}
use Rattle.std.proofs.lemmas.Option.{slice_get_within}
use Rattle.base.proofs.Lists.{get_front, set_front}
use Rattle.wasm_syntax.specs.declared.values.ValType.{ValType}
use Rattle.wasm_syntax.specs.declared.values.ValType.TheVariants.{I32, FuncRef}
use Rattle.wasm_syntax.specs.declared.values.Val.{Val}
use Rattle.wasm_syntax.specs.declared.signatures.FuncType.{FuncType}
use Rattle.wasm_syntax.specs.declared.instructions.Instr.{Instr}
use Rattle.wasm_syntax.specs.declared.instructions.Instr.TheVariants.{Unreachable, Nop, Block, Loop, If, Else, End, Br, BrIf, BrTable, Return, Call, CallIndirect, Drop, Select, LocalGet, LocalSet, LocalTee, GlobalGet, GlobalSet, Load, Store as StoreTo, MemorySize, MemoryGrow, MemoryCopy, MemoryFill, Const, Numeric, RefNull, RefFunc, TableSet, TableGrow, TableSize}
use Rattle.wasm_syntax.specs.Alike.{same_signature}
use Rattle.wasm_syntax.specs.Nest.{Nest, Empty, Plain, InBlock, InLoop, InIf, InIfElse, size}
use Rattle.wasm_syntax.specs.Opcodes.{Access, numeric_shape, load_of, store_of}
use Rattle.history_spec.specs.Numeric.{NumericValue, Computed, Undefined, Unsupported, numeric_value}
use Rattle.history_spec.specs.Store.{Store, Memory, Table, bytes_at, with_bytes_at, with_bytes_copied, bytes_of, grown_memory, grown_table, with_entry}
use Rattle.history_spec.specs.Code.{Code, signature}
use Rattle.history_spec.specs.Configuration.{Place, place, Label, Frame, topmost}
use Rattle.history_spec.specs.Instruction.{Execution, Did, Calls, frame_after, on, pop, takes, bits_at, choice, enters, block_arity, gives, branch, branch_to, to_label, to_caller, calls_if, calls_entry, load_result, store_result, grow_result, table_result, table_grow_result, numeric_result, type_of_top, referent, execute, execute_at, execute_plain}
use Rattle.guarded_module_spec.specs.Forms.{is_indirect}
use Rattle.guarded_module_laws.specs.Moved.{with_more, called_by, moved_nest, moved_place, moved_label, moved_frame, moved_execution, HasRule}

module _ (to : ℕ → ℕ) (func : ℕ) (more : List Val) (code other : Code)
    (types : (t : ℕ) (ty : FuncType) → slice_get code.types t ≡ Some ty → slice_get other.types t ≡ Some ty)
    (called : (g : ℕ) (ty : FuncType) → signature code g ≡ Some ty → signature other (to g) ≡ Some ty) where
  module _ (store : Store) (frame : Frame) (here next : Place) where
    -- the activation in the guarded module, at any place
    abbrev second : Frame
    second = record (moved_frame to func frame) { at = here }

    abbrev own : Store
    own = with_more more store

    abbrev after : Place
    after = moved_place to next

    abbrev Alike : Execution → Execution → Type 0
    Alike first last = HasRule first → last ≡ moved_execution to func more first

    same : (first last : Execution) → last ≡ moved_execution to func more first → Alike first last
    same first last e rule = e

    on_both : {X : Type 0} (o p : Option X) (go go_other : X → Execution) → ((x : X) → o ≡ Some x → p ≡ Some x)
        → ((x : X) → o ≡ Some x → Alike (go x) (go_other x)) → Alike (on o go) (on p go_other)
    on_both None p go go_other there alike rule = absurd rule
    on_both (Some x) p go go_other there alike rule = ap (λ q. on q go_other) (there x refl) ∙ alike x refl rule

    on_alike : {X : Type 0} (o : Option X) (go go_other : X → Execution) → ((x : X) → Alike (go x) (go_other x))
        → Alike (on o go) (on o go_other)
    on_alike o go go_other alike = on_both o o go go_other (λ x e. e) (λ x e. alike x)

    pub takes_alike : (tys : List ValType) (go go_other : List Val → List Val → Execution)
        → ((operands rest : List Val) → Alike (go operands rest) (go_other operands rest))
        → Alike (takes frame tys go) (takes second tys go_other)
    takes_alike tys go go_other alike =
        on_alike (pop tys frame.values) (λ p. go p.operands p.rest) (λ p. go_other p.operands p.rest)
        (λ p. alike p.operands p.rest)

    loaded : (memory : Memory) (access : Access) (operands rest : List Val) (o : Option (List ℕ))
        → Alike (load_result store frame next memory access operands rest o)
        (load_result own second after memory access operands rest o)
    loaded memory access operands rest None rule = refl
    loaded memory access operands rest (Some bytes) rule = refl

    stored : (memory : Memory) (operands rest : List Val) (o : Option (List ℕ))
        → Alike (store_result store frame next memory operands rest o)
        (store_result own second after memory operands rest o)
    stored memory operands rest None rule = refl
    stored memory operands rest (Some bytes) rule = refl

    grown : (memory : Memory) (operands rest : List Val) (o : Option Memory)
        → Alike (grow_result store frame next memory operands rest o)
        (grow_result own second after memory operands rest o)
    grown memory operands rest None rule = refl
    grown memory operands rest (Some larger) rule = refl

    set : (table : Table) (operands rest : List Val) (o : Option (List (Option ℕ)))
        → Alike (table_result store frame next table operands rest o)
        (table_result own second after table operands rest o)
    set table operands rest None rule = refl
    set table operands rest (Some entries) rule = refl

    table_grown : (table : Table) (operands rest : List Val) (o : Option Table)
        → Alike (table_grow_result store frame next table operands rest o)
        (table_grow_result own second after table operands rest o)
    table_grown table operands rest None rule = refl
    table_grown table operands rest (Some larger) rule = refl

    computed : (ty : ValType) (operands rest : List Val) (v : NumericValue)
        → Alike (numeric_result store frame next ty operands rest v)
        (numeric_result own second after ty operands rest v)
    computed ty operands rest (Computed bits) rule = refl
    computed ty operands rest (Undefined kind) rule = refl
    computed ty operands rest Unsupported rule = absurd rule

    -- ---- branches

    to_caller_alike : (operands : List Val) (o : Option (List Val))
        → Alike (to_caller operands o) (to_caller operands o)
    to_caller_alike operands None rule = absurd rule
    to_caller_alike operands (Some results) rule = refl

    to_label_alike : (operands : List Val) (o : Option (List Val)) (labels : List Label) (label : Label)
        → Alike (to_label store frame operands o labels label)
        (to_label own second operands o (map (moved_label to) labels) (moved_label to label))
    to_label_alike operands None labels label rule = absurd rule
    to_label_alike operands (Some carried) labels label rule = refl

    branch_alike : (operands values : List Val) (labels : List Label) (l : ℕ)
        → Alike (branch_to store frame operands values labels l)
        (branch_to own second operands values (map (moved_label to) labels) l)
    branch_alike operands values [] zero = to_caller_alike operands (topmost frame.arity values)
    branch_alike operands values [] (suc l) = λ rule. absurd rule
    branch_alike operands values (label ∷ labels) zero =
        to_label_alike operands (topmost label.arity values) labels label
    branch_alike operands values (label ∷ labels) (suc l) = branch_alike operands values labels l

    chosen : (n : ℕ) (operands rest : List Val) (l : ℕ)
        → Alike (choice n (branch store frame operands rest l) (gives store frame next operands rest []))
        (choice n (branch own second operands rest l) (gives own second after operands rest []))
    chosen zero operands rest l = λ rule. refl
    chosen (suc n) operands rest l = branch_alike operands rest frame.labels l

    -- ---- calls; those through the table are by the numbers that the table holds

    typed : (stays : (g : ℕ) → to g ≡ g) (operands rest args : List Val) (g : ℕ) (b : Bool)
        → Alike (calls_if b frame next operands rest g args) (calls_if b second after operands rest g args)
    typed stays operands rest args g true rule =
        ap (λ (k : ℕ). Did operands [] (Some g) (Calls (frame_after second after rest) k args)) (sym (stays g))
    typed stays operands rest args g false rule = refl

    entered : (stays : (g : ℕ) → to g ≡ g) (ty : FuncType) (table : Table) (operands rest : List Val)
        (o : Option (Option ℕ))
        → Alike (calls_entry code ty frame next table operands rest o)
        (calls_entry other ty second after table operands rest o)
    entered stays ty table operands rest None = λ rule. refl
    entered stays ty table operands rest (Some None) = λ rule. refl
    entered stays ty table operands rest (Some (Some g)) =
        on_both (signature code g) (signature other g) _ _
        (λ found e. subst (λ k. signature other k ≡ Some found) (stays g) (called g found e))
        (λ found e. typed stays operands rest (take (length ty.params) operands) g (same_signature ty found))

    -- ---- any one

    pub plain_alike : (instr : Instr) → (is_indirect instr ≡ true → (g : ℕ) → to g ≡ g)
        → Alike (execute_plain code store frame next instr) (execute_plain other own second after (called_by to instr))
    plain_alike Unreachable stays = λ rule. refl
    plain_alike Nop stays = λ rule. refl
    plain_alike (Br l) stays = branch_alike [] frame.values frame.labels l
    plain_alike (BrIf l) stays =
        takes_alike (I32 ∷ []) _ _ (λ operands rest. chosen (bits_at operands 0) operands rest l)
    plain_alike (BrTable labels l) stays =
        takes_alike (I32 ∷ []) _ _
        (λ operands rest. branch_alike operands rest frame.labels (slice_index_or labels (bits_at operands 0) l))
    plain_alike Return stays = to_caller_alike [] (topmost frame.arity frame.values)
    plain_alike (Call g) stays =
        on_both (signature code g) (signature other (to g)) _ _ (called g)
        (λ ty e. takes_alike ty.params _ _ (λ operands rest rule. refl))
    plain_alike (CallIndirect t) stays =
        on_both (slice_get code.types t) (slice_get other.types t) _ _ (types t) (λ ty e.
        on_alike store.table _ _ (λ table.
        takes_alike (ty.params ++ I32 ∷ []) _ _ (λ operands rest.
        entered (stays refl) ty table operands rest (slice_get table.entries (bits_at operands (length ty.params))))))
    plain_alike Drop stays =
        on_alike (type_of_top frame 0) _ _ (λ ty. takes_alike (ty ∷ []) _ _ (λ operands rest rule. refl))
    plain_alike Select stays =
        on_alike (type_of_top frame 1) _ _ (λ ty. takes_alike (ty ∷ ty ∷ I32 ∷ []) _ _ (λ operands rest rule. refl))
    plain_alike (LocalGet x) stays = on_alike (slice_get frame.locals x) _ _ (λ value rule. refl)
    plain_alike (LocalSet x) stays =
        on_alike (slice_get frame.locals x) _ _ (λ old. takes_alike (old.ty ∷ []) _ _ (λ operands rest rule. refl))
    plain_alike (LocalTee x) stays =
        on_alike (slice_get frame.locals x) _ _ (λ old. takes_alike (old.ty ∷ []) _ _ (λ operands rest rule. refl))
    plain_alike (GlobalGet x) stays =
        on_both (slice_get store.globals x) (slice_get (store.globals ++ more) x) _ _
        (λ value e. get_front store.globals more x (slice_get_within store.globals x value e) ∙ e)
        (λ value e rule. refl)
    plain_alike (GlobalSet x) stays =
        on_both (slice_get store.globals x) (slice_get (store.globals ++ more) x) _ _
        (λ value e. get_front store.globals more x (slice_get_within store.globals x value e) ∙ e)
        (λ old e. takes_alike (old.ty ∷ []) _ _ (λ operands rest rule.
        ap (λ (globals : List Val). gives (record store { globals = globals }) second after operands rest [])
        (set_front store.globals more x old (slice_index_or operands 0 old) e)))
    plain_alike (Load at) stays =
        on_alike (load_of at.op) _ _ (λ access.
        on_alike store.memory _ _ (λ memory.
        takes_alike (I32 ∷ []) _ _ (λ operands rest.
        loaded memory access operands rest (bytes_at memory.bytes (bits_at operands 0 + at.offset) access.width))))
    plain_alike (StoreTo at) stays =
        on_alike (store_of at.op) _ _ (λ access.
        on_alike store.memory _ _ (λ memory.
        takes_alike (I32 ∷ access.ty ∷ []) _ _ (λ operands rest.
        stored memory operands rest
        (with_bytes_at memory.bytes (bits_at operands 0 + at.offset) (bytes_of access.width (bits_at operands 1))))))
    plain_alike MemorySize stays = on_alike store.memory _ _ (λ memory rule. refl)
    plain_alike MemoryGrow stays =
        on_alike store.memory _ _ (λ memory.
        takes_alike (I32 ∷ []) _ _ (λ operands rest.
        grown memory operands rest (grown_memory memory (bits_at operands 0))))
    plain_alike MemoryCopy stays =
        on_alike store.memory _ _ (λ memory.
        takes_alike (I32 ∷ I32 ∷ I32 ∷ []) _ _ (λ operands rest.
        stored memory operands rest
        (with_bytes_copied memory.bytes (bits_at operands 0) (bits_at operands 1) (bits_at operands 2))))
    plain_alike MemoryFill stays =
        on_alike store.memory _ _
        (λ memory. takes_alike (I32 ∷ I32 ∷ I32 ∷ []) _ _ (λ operands rest. stored memory operands rest _))
    plain_alike (Const value) stays = λ rule. refl
    plain_alike (Numeric op) stays =
        on_alike (numeric_shape op) _ _ (λ shape.
        takes_alike shape.operands _ _ (λ operands rest.
        computed shape.result operands rest (numeric_value op operands)))
    plain_alike RefNull stays = λ rule. refl
    plain_alike (RefFunc g) stays = λ rule. refl
    plain_alike (TableSet zero) stays =
        on_alike store.table _ _ (λ table.
        takes_alike (I32 ∷ FuncRef ∷ []) _ _ (λ operands rest.
        set table operands rest (with_entry table.entries (bits_at operands 0) (referent (bits_at operands 1)))))
    plain_alike (TableSet (suc t)) stays = λ rule. absurd rule
    plain_alike (TableGrow zero) stays =
        on_alike store.table _ _ (λ table.
        takes_alike (FuncRef ∷ I32 ∷ []) _ _ (λ operands rest.
        table_grown table operands rest (grown_table table (bits_at operands 1) (referent (bits_at operands 0)))))
    plain_alike (TableGrow (suc t)) stays = λ rule. absurd rule
    plain_alike (TableSize zero) stays = on_alike store.table _ _ (λ table rule. refl)
    plain_alike (TableSize (suc t)) stays = λ rule. absurd rule
    plain_alike (Block ty) stays = λ rule. absurd rule
    plain_alike (Loop ty) stays = λ rule. absurd rule
    plain_alike (If ty) stays = λ rule. absurd rule
    plain_alike Else stays = λ rule. absurd rule
    plain_alike End stays = λ rule. absurd rule

  -- ---- the next instruction of an activation

  size_alike : (nest : Nest) → size (moved_nest to nest) ≡ size nest
  size_alike Empty = refl
  size_alike (Plain i rest) = ap (λ k. 1 + k) (size_alike rest)
  size_alike (InBlock ty body rest) =
      ap (λ k. 1 + k + size (moved_nest to rest)) (size_alike body) ∙ ap (λ k. 1 + size body + k) (size_alike rest)
  size_alike (InLoop ty body rest) =
      ap (λ k. 1 + k + size (moved_nest to rest)) (size_alike body) ∙ ap (λ k. 1 + size body + k) (size_alike rest)
  size_alike (InIf ty body rest) =
      ap (λ k. 1 + k + size (moved_nest to rest)) (size_alike body) ∙ ap (λ k. 1 + size body + k) (size_alike rest)
  size_alike (InIfElse ty body last rest) =
      ap (λ k. 1 + k + size (moved_nest to last) + size (moved_nest to rest)) (size_alike body)
      ∙ ap (λ k. 1 + size body + k + size (moved_nest to rest)) (size_alike last)
      ∙ ap (λ k. 1 + size body + size last + k) (size_alike rest)

  -- no call through the table is next, or the numbers stay
  abbrev StaysIfIndirect : Nest → Type 0
  StaysIfIndirect (Plain i rest) = is_indirect i ≡ true → (g : ℕ) → to g ≡ g
  StaysIfIndirect rest = Unit {0}

  module _ (store : Store) (frame : Frame) where
    chosen_place : (n : ℕ) (first last : Place)
        → choice n (moved_place to first) (moved_place to last) ≡ moved_place to (choice n first last)
    chosen_place zero first last = refl
    chosen_place (suc n) first last = refl

    abbrev moved : Frame
    moved = moved_frame to func frame

    pub executed_at : (nest : Nest) (n : ℕ) → StaysIfIndirect nest
        → HasRule (execute_at code store frame nest n)
        → execute_at other (with_more more store) moved (moved_nest to nest) n
        ≡ moved_execution to func more (execute_at code store frame nest n)
    executed_at Empty n stays = λ rule. absurd rule
    executed_at (Plain instr rest) n stays = λ rule.
        plain_alike store frame moved.at (place rest (n + 1)) instr stays rule
    executed_at (InBlock ty body rest) n stays = λ rule.
        ap
        (λ k. enters (with_more more store) moved [] frame.values (block_arity ty)
        (place (moved_nest to body) (n + 1)) (place (moved_nest to rest) (n + 1 + k))
        (place (moved_nest to rest) (n + 1 + k)))
        (size_alike body)
    executed_at (InLoop ty body rest) n stays = λ rule.
        ap
        (λ k. enters (with_more more store) moved [] frame.values 0
        (place (moved_nest to body) (n + 1)) (place (InLoop ty (moved_nest to body) (moved_nest to rest)) n)
        (place (moved_nest to rest) (n + 1 + k)))
        (size_alike body)
    executed_at (InIf ty body rest) n stays =
        takes_alike store frame moved.at frame.at (I32 ∷ []) _ _ (λ operands values rule.
        ap
        (λ k. enters (with_more more store) moved operands values (block_arity ty)
        (choice (bits_at operands 0) (place (moved_nest to body) (n + 1)) (place Empty (n + 1 + k)))
        (place (moved_nest to rest) (n + 1 + k)) (place (moved_nest to rest) (n + 1 + k)))
        (size_alike body)
        ∙ ap
        (λ at. enters (with_more more store) moved operands values (block_arity ty) at
        (place (moved_nest to rest) (n + 1 + size body)) (place (moved_nest to rest) (n + 1 + size body)))
        (chosen_place (bits_at operands 0) (place body (n + 1)) (place Empty (n + 1 + size body))))
    executed_at (InIfElse ty body last rest) n stays =
        takes_alike store frame moved.at frame.at (I32 ∷ []) _ _ (λ operands values rule.
        ap
        (λ k. enters (with_more more store) moved operands values (block_arity ty)
        (choice (bits_at operands 0) (place (moved_nest to body) (n + 1))
        (place (moved_nest to last) (n + 1 + k)))
        (place (moved_nest to rest) (n + 1 + k + size (moved_nest to last)))
        (place (moved_nest to rest) (n + 1 + k + size (moved_nest to last))))
        (size_alike body)
        ∙ ap
        (λ k. enters (with_more more store) moved operands values (block_arity ty)
        (choice (bits_at operands 0) (place (moved_nest to body) (n + 1))
        (place (moved_nest to last) (n + 1 + size body)))
        (place (moved_nest to rest) (n + 1 + size body + k))
        (place (moved_nest to rest) (n + 1 + size body + k)))
        (size_alike last)
        ∙ ap
        (λ at. enters (with_more more store) moved operands values (block_arity ty) at
        (place (moved_nest to rest) (n + 1 + size body + size last))
        (place (moved_nest to rest) (n + 1 + size body + size last)))
        (chosen_place (bits_at operands 0) (place body (n + 1)) (place last (n + 1 + size body))))

    -- the execution in the guarded module is that in the replay module, moved
    pub executed : StaysIfIndirect frame.at.rest → HasRule (execute code store frame)
        → execute other (with_more more store) moved ≡ moved_execution to func more (execute code store frame)
    executed stays rule = executed_at frame.at.rest frame.at.number stays rule
