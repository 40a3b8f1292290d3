-- What a run reads of its globals, and what the host passes and returns, are constants; what it reads of its table has
-- an index of 32 bits.
use Rattle.std.proofs.Common.{◌≡◌, ℕ, zero, suc, ◌+◌, ◌%◌, ◌^◌, ◌<◌, ◌≤◌, List, [], ◌∷◌, length, map, Option, Some, None, true, replicate, slice_get, refl, sym, subst, arith}
use Rattle.std.specs.Prelude.{IsTrue}
use Rattle.std.specs.List.{AllByRecursion}
use Rattle.std.proofs.lemmas.List.Elements.{recursion_from_All}
use Rattle.std.proofs.lemmas.Option.{slice_get_within}
use Rattle.base.proofs.Lists.{joined_all}
use Rattle.wasm_syntax.specs.declared.values.Val.{Val}
use Rattle.wasm_syntax.specs.declared.values.ValType.{ValType}
use Rattle.wasm_syntax.specs.declared.signatures.GlobalType.{GlobalType}
use Rattle.wasm_syntax.specs.declared.signatures.Limits.{Limits}
use Rattle.wasm_syntax.specs.declared.instructions.Instr.{Instr}
use Rattle.wasm_syntax.specs.declared.instructions.Instr.TheVariants.{CallIndirect, GlobalGet, GlobalSet, Load, Store as StoreTo, MemorySize, MemoryGrow, MemoryCopy, MemoryFill, TableSet, TableGrow, TableSize}
use Rattle.wasm_syntax.specs.declared.modules.Global.{Global}
use Rattle.wasm_syntax.specs.declared.modules.Module.{Module}
use Rattle.wasm_syntax.specs.Index.{all_globals, all_tables, imported_globals}
use Rattle.wasm_syntax.specs.Nest.{Nest, Plain}
use Rattle.wasm_syntax.specs.Opcodes.{load_of, store_of}
use Rattle.wasm_syntax.specs.Typing.{is_constant, is_number}
use Rattle.wasm_syntax.specs.Validity.{IsGlobal, IsImport, IsValid}
use Rattle.history_spec.specs.Store.{Store, Memory, Table, bytes_at, bytes_of, with_bytes_at, with_entry}
use Rattle.history_spec.specs.Instruction.{referent}
use Rattle.record_replay_spec.specs.Observations.{Observation, Ends, Reads, Copies, Writes, ReadsEntry, WritesEntry, ReadsGlobal, WritesGlobal, on, bits_from_top, copy_observations, entry_observations, grow_observations, load_observations, nest_observations, plain_observations, set_observations, size_observations, store_observations, table_grow_observations, table_size_observations}
use Rattle.type_safety.specs.Stores.{IsStore, MayBeTable, func_count, global_types}
use Rattle.type_safety.specs.Values.{AreValues, count_of}
use Rattle.replay_module_laws.specs.Written.{IsConstantNext}
use Rattle.replay_module_laws.proofs.Outside.{number_constant, numbers_imported}

-- what an observation reads or passes is a constant
abbrev pub IsConstantSeen : Observation → Type 0
IsConstantSeen (Ends next) = IsConstantNext next
IsConstantSeen (ReadsEntry index func) = index < 2 ^ 32
IsConstantSeen (ReadsGlobal global value) = is_constant value ≡ true
IsConstantSeen o = Unit {0}

abbrev pub AreConstantSeen : List Observation → Type 0
AreConstantSeen seen = AllByRecursion IsConstantSeen seen

-- ---- stores

abbrev HasFewEntries : Store → Type 0
HasFewEntries store = (table : Table) → store.table ≡ Some table → length table.entries ≤ 2 ^ 32

abbrev HasConstants : List Val → Type 0
HasConstants globals = (x : ℕ) (value : Val) → slice_get globals x ≡ Some value → is_constant value ≡ true

entries_few : (funcs : ℕ) (limits : List Limits) (o : Option Table) → MayBeTable funcs limits o → (table : Table)
    → o ≡ Some table → length table.entries ≤ 2 ^ 32
entries_few funcs [] None is table e = cc
entries_few funcs [] (Some own) is table e = absurd is
entries_few funcs (first ∷ more) None is table e = cc
entries_few funcs (first ∷ more) (Some own) is table e =
    let same : own ≡ table = cc in
    let most = is.most in
    subst (λ (t : Table). length t.entries ≤ 2 ^ 32) same (omega (arith, most))

values_constant : (funcs : ℕ) (types : List ValType) (values : List Val)
    → AllByRecursion (λ t. IsTrue (is_number t)) types → AreValues funcs types values → HasConstants values
values_constant funcs [] [] numbers are x value h = cc
values_constant funcs [] (v ∷ values) numbers are x value h = absurd are
values_constant funcs (t ∷ types) [] numbers are x value h = absurd are
values_constant funcs (t ∷ types) (v ∷ values) numbers are zero value h =
    let same : v ≡ value = cc in
    let own = sym are.0.typed in
    subst (λ (w : Val). is_constant w ≡ true) same
    (number_constant v.ty v.bits funcs (subst (λ t. IsTrue (is_number t)) own numbers.0)
    (subst (λ t. v.bits < count_of funcs t) own are.0.in_range))
values_constant funcs (t ∷ types) (v ∷ values) numbers are (suc x) value h =
    values_constant funcs types values numbers.1 are.1 x value h

own_numbers : (m : Module) (globals : List Global) → AllByRecursion (IsGlobal m) globals
    → AllByRecursion (λ (g : GlobalType). IsTrue (is_number g.ty)) (map (λ g. g.ty) globals)
own_numbers m [] valid = tt
own_numbers m (g ∷ globals) valid = (valid.0.number, own_numbers m globals valid.1)

types_numbers : (globals : List GlobalType) → AllByRecursion (λ (g : GlobalType). IsTrue (is_number g.ty)) globals
    → AllByRecursion (λ t. IsTrue (is_number t)) (map (λ g. g.ty) globals)
types_numbers [] all = tt
types_numbers (g ∷ globals) all = (all.0, types_numbers globals all.1)

globals_numbers : (m : Module) → IsValid m → AllByRecursion (λ t. IsTrue (is_number t)) (global_types m)
globals_numbers m valid =
    types_numbers (all_globals m)
    (joined_all (λ (g : GlobalType). IsTrue (is_number g.ty)) (imported_globals m) (map (λ g. g.ty) m.globals)
    (numbers_imported m m.imports (recursion_from_All (λ i. IsImport m i.kind) m.imports valid.outside.imports))
    (own_numbers m m.globals (recursion_from_All (IsGlobal m) m.globals valid.outside.globals)))

-- ---- what an instruction observes

on_all : {X : Type 0} (o : Option X) (observe : X → List Observation)
    → ((x : X) → o ≡ Some x → AreConstantSeen (observe x)) → AreConstantSeen (on o observe)
on_all None observe each = tt
on_all (Some x) observe each = each x refl

load_constant : (address width : ℕ) (memory : Memory) → AreConstantSeen (load_observations address width memory)
load_constant address width memory =
    (tt, on_all (bytes_at memory.bytes address width) (λ bytes. Reads address bytes ∷ []) (λ bytes e. (tt, tt)))

store_constant : (address count : ℕ) (bytes : List ℕ) (memory : Memory)
    → AreConstantSeen (store_observations address count bytes memory)
store_constant address count bytes memory =
    (tt, on_all (with_bytes_at memory.bytes address bytes) (λ all. Writes address bytes ∷ []) (λ all e. (tt, tt)))

copy_constant : (to source count : ℕ) (memory : Memory) → AreConstantSeen (copy_observations to source count memory)
copy_constant to source count memory = (
  tt,
  (
    tt,
    on_all (bytes_at memory.bytes source count)
        (λ bytes. on (with_bytes_at memory.bytes to bytes) (λ all. Copies source bytes ∷ Writes to bytes ∷ []))
        (λ bytes e.
        on_all (with_bytes_at memory.bytes to bytes) (λ all. Copies source bytes ∷ Writes to bytes ∷ [])
        (λ all f. (tt, (tt, tt)))),
  ),
)

entry_constant : (index : ℕ) (table : Table) → length table.entries ≤ 2 ^ 32
    → AreConstantSeen (entry_observations index table)
entry_constant index table few = (
  tt,
  on_all (slice_get table.entries index) (λ func. ReadsEntry index func ∷ [])
      (λ func e. ((let below = slice_get_within table.entries index func e in omega (arith, below, few)), tt)),
)

set_constant : (index : ℕ) (func : Option ℕ) (table : Table) → AreConstantSeen (set_observations index func table)
set_constant index func table =
    (tt, on_all (with_entry table.entries index func) (λ all. WritesEntry index func ∷ []) (λ all e. (tt, tt)))

module _ (store : Store) (few : HasFewEntries store) (constants : HasConstants store.globals) (values : List Val) where
  plain_constant : (i : Instr) → AreConstantSeen (plain_observations store values i)
  plain_constant (Load at) =
      on_all (load_of at.op)
      (λ access. on store.memory (load_observations (bits_from_top values 0 + at.offset) access.width))
      (λ access e.
      on_all store.memory (load_observations (bits_from_top values 0 + at.offset) access.width)
      (λ memory f. load_constant (bits_from_top values 0 + at.offset) access.width memory))
  plain_constant (StoreTo at) =
      on_all (store_of at.op)
      (λ access.
      on store.memory
      (store_observations (bits_from_top values 1 + at.offset) access.width
      (bytes_of access.width (bits_from_top values 0))))
      (λ access e.
      on_all store.memory
      (store_observations (bits_from_top values 1 + at.offset) access.width
      (bytes_of access.width (bits_from_top values 0)))
      (λ memory f.
      store_constant (bits_from_top values 1 + at.offset) access.width
      (bytes_of access.width (bits_from_top values 0)) memory))
  plain_constant MemorySize = on_all store.memory size_observations (λ memory e. (tt, tt))
  plain_constant MemoryGrow =
      on_all store.memory (grow_observations (bits_from_top values 0)) (λ memory e. (tt, tt))
  plain_constant MemoryCopy =
      on_all store.memory
      (copy_observations (bits_from_top values 2) (bits_from_top values 1) (bits_from_top values 0))
      (λ memory e. copy_constant (bits_from_top values 2) (bits_from_top values 1) (bits_from_top values 0) memory)
  plain_constant MemoryFill =
      on_all store.memory
      (store_observations (bits_from_top values 2) (bits_from_top values 0)
      (replicate (bits_from_top values 0) (bits_from_top values 1 % 256)))
      (λ memory e.
      store_constant (bits_from_top values 2) (bits_from_top values 0)
      (replicate (bits_from_top values 0) (bits_from_top values 1 % 256)) memory)
  plain_constant (CallIndirect t) =
      on_all store.table (entry_observations (bits_from_top values 0))
      (λ table e. entry_constant (bits_from_top values 0) table (few table e))
  plain_constant (TableSet t) =
      on_all store.table (set_observations (bits_from_top values 1) (referent (bits_from_top values 0)))
      (λ table e. set_constant (bits_from_top values 1) (referent (bits_from_top values 0)) table)
  plain_constant (TableSize t) = on_all store.table table_size_observations (λ table e. (tt, tt))
  plain_constant (TableGrow t) =
      on_all store.table (table_grow_observations (bits_from_top values 0) (referent (bits_from_top values 1)))
      (λ table e. (tt, tt))
  plain_constant (GlobalGet x) =
      on_all (slice_get store.globals x) (λ value. ReadsGlobal x value ∷ []) (λ value e. (constants x value e, tt))
  plain_constant (GlobalSet x) =
      on_all (slice_get values 0) (λ value. WritesGlobal x value ∷ []) (λ value e. (tt, tt))
  plain_constant i = tt

  nest_constant : (nest : Nest) → AreConstantSeen (nest_observations store values nest)
  nest_constant (Plain i rest) = plain_constant i
  nest_constant nest = tt

-- what an instruction observes of a well-typed store is constant
pub observed_constant : (m : Module) (store : Store) → IsValid m → IsStore m store → (values : List Val) (nest : Nest)
    → AreConstantSeen (nest_observations store values nest)
observed_constant m store valid is values nest =
    nest_constant store (entries_few (func_count m) (all_tables m) store.table is.table)
    (values_constant (func_count m) (global_types m) store.globals (globals_numbers m valid) is.globals) values nest
