-- What a run of a module observes of its memory, table and globals, and where the host's activities begin and end, in
-- order.
use Rattle.std.specs.Prelude.{ℕ, suc, ◌+◌, ◌%◌, List, [], ◌∷◌, ◌++◌, length, Option, Some, None, replicate, slice_get, option_map, unwrap_or}
use Rattle.wasm_syntax.specs.declared.values.Val.{Val}
use Rattle.wasm_syntax.specs.declared.instructions.Instr.{Instr}
use Rattle.wasm_syntax.specs.declared.instructions.Instr.TheVariants.{CallIndirect, GlobalGet, GlobalSet, Load, Store as StoreTo, MemorySize, MemoryGrow, MemoryCopy, MemoryFill, TableSet, TableGrow, TableSize}
use Rattle.wasm_syntax.specs.Nest.{Nest, Plain}
use Rattle.wasm_syntax.specs.Opcodes.{load_of, store_of}
use Rattle.base.specs.declared.outcomes.Outcome.TheVariants.{Ended}
use Rattle.trace_model.specs.declared.tapes.Origin.{Origin}
use Rattle.trace_model.specs.declared.tapes.Origin.TheVariants.{Begin, Import, Back}
use Rattle.trace_model.specs.declared.tapes.Next.{Next}
use Rattle.trace_model.specs.declared.tapes.Next.TheVariants.{Call, Return, End, Trap}
use Rattle.history_spec.specs.declared.entries.Entry.{Entry}
use Rattle.history_spec.specs.declared.entries.Entry.TheVariants.{HostCall, HostReturn, ImportCall, ImportReturn, HostTrap}
use Rattle.history_spec.specs.Store.{Store, Memory, Table, pages, grown_memory, grown_table, bytes_at, with_bytes_at, with_entry, bytes_of}
use Rattle.history_spec.specs.Configuration.{Activation, InModule}
use Rattle.history_spec.specs.Instruction.{referent}
use Rattle.history_spec.specs.Step.{Program, Progress, Running, Finished, StepResult, step}

-- an activity of the host begins or ends; a load reads bytes, a copy reads those of its source, bytes are written; an
-- access reaches up to an end, in a memory of the found number of pages; the memory's size is found, and left; an
-- access of the table reaches an entry, in a table of the found number of entries; an entry is read or written; the
-- table's size is found, and left, with new entries that hold `func`; a global is read or written
pub data Observation : Type 0 where
  Begins : (origin : Origin) → Observation
  Ends : (next : Next) → Observation
  Reads : (address : ℕ) (bytes : List ℕ) → Observation
  Copies : (address : ℕ) (bytes : List ℕ) → Observation
  Writes : (address : ℕ) (bytes : List ℕ) → Observation
  Reaches : (end found : ℕ) → Observation
  Resizes : (found left : ℕ) → Observation
  ReadsEntry : (index : ℕ) (func : Option ℕ) → Observation
  WritesEntry : (index : ℕ) (func : Option ℕ) → Observation
  ReachesEntry : (index found : ℕ) → Observation
  ResizesTable : (found left : ℕ) (func : Option ℕ) → Observation
  ReadsGlobal : (global : ℕ) (value : Val) → Observation
  WritesGlobal : (global : ℕ) (value : Val) → Observation

-- the observations of an optional part, empty if there is none
abbrev pub on : {X : Type 0} → Option X → (X → List Observation) → List Observation
on None observe = []
on (Some x) observe = observe x

-- the bits of an operand, counted from the topmost
abbrev pub bits_from_top : List Val → ℕ → ℕ
bits_from_top values i = unwrap_or (option_map (λ value. value.bits) (slice_get values i)) 0

-- ---- memory

-- the observations of a load, by its address and width (Core 1.0, 4.4.4)
abbrev pub load_observations : (address width : ℕ) → Memory → List Observation
load_observations address width memory =
    Reaches (address + width) (pages memory)
    ∷ on (bytes_at memory.bytes address width) (λ bytes. Reads address bytes ∷ [])

-- the observations of a store or a fill, by its address, its count of bytes and the bytes (Core 1.0, 4.4.4; Core 2.0,
-- 4.4.7)
abbrev pub store_observations : (address count : ℕ) (bytes : List ℕ) → Memory → List Observation
store_observations address count bytes memory =
    Reaches (address + count) (pages memory)
    ∷ on (with_bytes_at memory.bytes address bytes) (λ all. Writes address bytes ∷ [])

-- the observations of a copy, by its target, source and count; its target gets what its source held before (Core 2.0,
-- 4.4.7)
abbrev pub copy_observations : (to source count : ℕ) → Memory → List Observation
copy_observations to source count memory =
    Reaches (source + count) (pages memory)
    ∷ Reaches (to + count) (pages memory)
    ∷ on (bytes_at memory.bytes source count) (λ bytes.
    on (with_bytes_at memory.bytes to bytes) (λ all. Copies source bytes ∷ Writes to bytes ∷ []))

-- the observation of the memory's size (Core 1.0, 4.4.4)
abbrev pub size_observations : Memory → List Observation
size_observations memory = Resizes (pages memory) (pages memory) ∷ []

-- the observation of a growth of the memory; a growth that fails leaves the size that it finds (Core 1.0, 4.4.4)
abbrev pub grow_observations : (by : ℕ) → Memory → List Observation
grow_observations by memory = Resizes (pages memory) (pages (unwrap_or (grown_memory memory by) memory)) ∷ []

-- ---- the table

-- the observations of a call by the table (Core 1.0, 4.4.5)
abbrev pub entry_observations : (index : ℕ) → Table → List Observation
entry_observations index table =
    ReachesEntry index (length table.entries)
    ∷ on (slice_get table.entries index) (λ func. ReadsEntry index func ∷ [])

-- the observations of a change of an entry (Core 2.0, 4.4.6)
abbrev pub set_observations : (index : ℕ) (func : Option ℕ) → Table → List Observation
set_observations index func table =
    ReachesEntry index (length table.entries)
    ∷ on (with_entry table.entries index func) (λ all. WritesEntry index func ∷ [])

-- the observation of the table's size (Core 2.0, 4.4.6)
abbrev pub table_size_observations : Table → List Observation
table_size_observations table = ResizesTable (length table.entries) (length table.entries) None ∷ []

-- the observation of a growth of the table (Core 2.0, 4.4.6)
abbrev pub table_grow_observations : (by : ℕ) (func : Option ℕ) → Table → List Observation
table_grow_observations by func table =
    ResizesTable (length table.entries) (length (unwrap_or (grown_table table by func) table).entries) func ∷ []

-- ---- instructions

-- the observations of an instruction that opens no block, with these values on the stack, the topmost first (Core 1.0,
-- 4.4.3 to 4.4.5; Core 2.0, 4.4.6 and 4.4.7). Reads of immutable globals are included, so that a global that is read
-- has a value: nobody sets these globals, so what is read is known, and is never needed.
abbrev pub plain_observations : Store → List Val → Instr → List Observation
plain_observations store values (Load at) =
    on (load_of at.op) (λ access.
    on store.memory (load_observations (bits_from_top values 0 + at.offset) access.width))
plain_observations store values (StoreTo at) =
    on (store_of at.op) (λ access.
    on store.memory
    (store_observations (bits_from_top values 1 + at.offset) access.width
    (bytes_of access.width (bits_from_top values 0))))
plain_observations store values MemorySize = on store.memory size_observations
plain_observations store values MemoryGrow = on store.memory (grow_observations (bits_from_top values 0))
plain_observations store values MemoryCopy =
    on store.memory (copy_observations (bits_from_top values 2) (bits_from_top values 1) (bits_from_top values 0))
plain_observations store values MemoryFill =
    on store.memory
    (store_observations (bits_from_top values 2) (bits_from_top values 0)
    (replicate (bits_from_top values 0) (bits_from_top values 1 % 256)))
plain_observations store values (CallIndirect t) = on store.table (entry_observations (bits_from_top values 0))
plain_observations store values (TableSet t) =
    on store.table (set_observations (bits_from_top values 1) (referent (bits_from_top values 0)))
plain_observations store values (TableSize t) = on store.table table_size_observations
plain_observations store values (TableGrow t) =
    on store.table (table_grow_observations (bits_from_top values 0) (referent (bits_from_top values 1)))
plain_observations store values (GlobalGet x) = on (slice_get store.globals x) (λ value. ReadsGlobal x value ∷ [])
plain_observations store values (GlobalSet x) = on (slice_get values 0) (λ value. WritesGlobal x value ∷ [])
plain_observations store values i = []

-- the observations of the next instruction of a body; entering a block observes nothing
abbrev pub nest_observations : Store → List Val → Nest → List Observation
nest_observations store values (Plain i rest) = plain_observations store values i
nest_observations store values nest = []

-- the observations of a step of the topmost activation; an action of the host observes nothing
abbrev pub stack_observations : Store → List Activation → List Observation
stack_observations store (InModule frame ∷ below) = nest_observations store frame.values frame.at.rest
stack_observations store stack = []

-- ---- activities of the host

-- where the host's activities begin and end, by the entries of a step
abbrev pub activity_observations : List Entry → List Observation
activity_observations [] = []
activity_observations (HostCall func args ∷ later) = Ends (Call func args) ∷ activity_observations later
activity_observations (HostReturn func results ∷ later) = Begins Back ∷ activity_observations later
activity_observations (ImportCall import args ∷ later) = Begins (Import import) ∷ activity_observations later
activity_observations (ImportReturn import results ∷ later) =
    Ends (Return (slice_get results 0)) ∷ activity_observations later
activity_observations (HostTrap ∷ later) = Ends Trap ∷ activity_observations later
activity_observations (entry ∷ later) = activity_observations later

-- the observation that the host's own work ends
abbrev pub end_observations : Progress → List Observation
end_observations (Finished Ended) = Ends End ∷ []
end_observations at = []

-- ---- runs

-- the observations of at most `k` steps
abbrev pub observations : Program → ℕ → Progress → List Observation
observations program (suc k) (Running config) =
    stack_observations config.store config.stack
    ++ (activity_observations (step program config).entries ++ observations program k (step program config).next)
observations program k at = end_observations at

-- the observations of a run from its start, with which the host's first activity begins
abbrev pub run_observations : Program → StepResult → ℕ → List Observation
run_observations program initial k =
    Begins Begin ∷ (activity_observations initial.entries ++ observations program k initial.next)
