-- The events of the observations of hook calls have a spelling.
use Rattle.std.proofs.Common.{◌≡◌, ℕ, ◌+◌, ◌-◌, ◌*◌, ◌<◌, ◌≤◌, ◌^◌, List, [], ◌∷◌, length, take, drop, Option, Some, None, Bool, true, false, cond, nat_eq, nat_le, nat_lt, slice_get, option_and_then, IfSome, refl, sym, ap, ◌∙◌, subst, arith}
use Rattle.std.specs.List.{AllByRecursion}
use Rattle.std.proofs.lemmas.Bool.{eqb-true, leb-true, ltb-true}
use Rattle.std.proofs.lemmas.List.{length-take-le, length-drop}
use Rattle.std.proofs.lemmas.Option.{slice_get_within}
use Rattle.base.proofs.Lists.{all_at, joined_all}
use Rattle.base.proofs.Options.{cond_some}
use Rattle.base.specs.declared.marks.TheConstants.{TYPE_I32, TYPE_I64, TYPE_F32, TYPE_F64}
use Rattle.wasm_syntax.specs.declared.values.Val.{Val}
use Rattle.wasm_syntax.specs.declared.values.ValType.{ValType}
use Rattle.wasm_syntax.specs.declared.values.ValType.TheVariants.{I32, I64, F32, F64, FuncRef}
use Rattle.wasm_syntax.specs.declared.signatures.Limits.{Limits}
use Rattle.wasm_syntax.specs.Alike.{same_types}
use Rattle.wasm_syntax.specs.Encoding.Encodable.{FitsConst, FitsU32}
use Rattle.wasm_syntax.specs.Typing.{is_number}
use Rattle.wasm_syntax.proofs.ValTypes.{types_same}
use Rattle.trace_model.specs.declared.events.Event.{Event}
use Rattle.trace_model.specs.declared.events.Event.TheVariants as events
use Rattle.trace_bytes.specs.declared.tags.TheConstants.{VERSION_2}
use Rattle.trace_bytes.specs.Spelled.{FitEvents, FitsEvent, FitsVal}
use Rattle.history_spec.specs.Store.{Memory, Table, bytes_at, pages, with_bytes_at}
use Rattle.history_spec.specs.Code.{types_of}
use Rattle.history_spec.specs.Instruction.{bits_at}
use Rattle.record_replay_spec.specs.Observations as replay
use Rattle.record_replay_spec.specs.Observations.{Observation, Begins, Ends, Reads, Copies, Writes, Reaches, Resizes, ReadsEntry, WritesEntry, ReachesEntry, ResizesTable, ReadsGlobal, WritesGlobal, load_observations, store_observations, copy_observations, size_observations, entry_observations}
use Rattle.record_replay_spec.specs.Known.{entry_of}
use Rattle.type_safety.specs.Values.{AreValues, count_of}
use Rattle.type_safety.specs.Stores.{MayBeMemory, MayBeTable}
use Rattle.record_replay_spec.specs.Hooks.{hook_count, on, original}
use Rattle.record_replay_spec.specs.Order.{bits_fit, value_if_fits, value_reported}
use Rattle.record_replay_spec.specs.Alike.{same_option, same_value}
use Rattle.record_replay_spec.specs.Logs.{LogState, all_observed_events, differing_runs, found_events, log_after, observed_events, seen_events, sees_size, unless, with_first_byte}

-- ---- values

pub number_fits : (ty : ValType) (bits : ℕ) → is_number ty ≡ true → bits_fit ty bits ≡ true → FitsConst ty bits
number_fits I32 bits number fit = ltb-true bits (2 ^ 32) fit
number_fits I64 bits number fit = ltb-true bits (2 ^ 64) fit
number_fits F32 bits number fit = ltb-true bits (2 ^ 32) fit
number_fits F64 bits number fit = ltb-true bits (2 ^ 64) fit
number_fits FuncRef bits number fit = absurd (cc number)

fitted : (ty : ValType) (bits : ℕ) (v : Val) → is_number ty ≡ true → value_if_fits bits ty ≡ Some v → FitsVal v
fitted ty bits v number is =
    let fit = cond_some (bits_fit ty bits) (Some (record { ty = ty; bits = bits })) v is in
    let same : record { ty = ty; bits = bits } ≡ v = cc fit.1 in
    subst FitsVal same (number_fits ty bits number fit.0)

pub reported_fits : (byte bits : ℕ) (v : Val) → value_reported byte bits ≡ Some v → FitsVal v
reported_fits byte bits v =
    by (nat_eq byte TYPE_I32) (nat_eq byte TYPE_I64) (nat_eq byte TYPE_F32) (nat_eq byte TYPE_F64)
  where
    by : (a b c d : Bool)
        → option_and_then (value_if_fits bits)
        (cond a (Some I32) (cond b (Some I64) (cond c (Some F32) (cond d (Some F64) None)))) ≡ Some v → FitsVal v
    by true b c d is = fitted I32 bits v refl is
    by false true c d is = fitted I64 bits v refl is
    by false false true d is = fitted F32 bits v refl is
    by false false false true is = fitted F64 bits v refl is
    by false false false false is = absurd (cc is)

-- the first argument, if it is an i32, fits
pub first_arg : (funcs : ℕ) (types params : List ValType) (args : List Val) → AreValues funcs types args
    → same_types (I32 ∷ params) (types_of args) ≡ true → FitsU32 (bits_at args 0)
first_arg funcs types params [] values same = absurd (cc same)
first_arg funcs [] params (v ∷ args) values same = absurd values
first_arg funcs (t ∷ types) params (v ∷ args) values same =
    let typed : I32 ∷ params ≡ v.ty ∷ types_of args = types_same (I32 ∷ params) (types_of (v ∷ args)) same in
    let first : I32 ≡ v.ty = cc typed in
    subst (λ t. v.bits < count_of funcs t) (sym values.0.typed ∙ sym first) values.0.in_range

-- ---- runs of bytes

-- a non-empty event of bytes within addresses of 32 bits
abbrev IsRun : Event → Type 0
IsRun (events.Bytes at bytes) = (0 < length bytes) × (at + length bytes < 2 ^ 32)
IsRun event = ⊥

first_joined : (address byte : ℕ) (runs : List Event) → address + 1 < 2 ^ 32 → AllByRecursion IsRun runs
    → AllByRecursion IsRun (with_first_byte address byte runs)
first_joined address byte [] within are = ((omega arith, within), tt)
first_joined address byte (events.Bytes at bytes ∷ runs) within are = by (nat_eq at (address + 1)) refl
  where
    by : (b : Bool) → nat_eq at (address + 1) ≡ b
        → AllByRecursion IsRun (cond b (events.Bytes address (byte ∷ bytes) ∷ runs)
        (events.Bytes address (byte ∷ []) ∷ events.Bytes at bytes ∷ runs))
    by true is =
        let next = eqb-true at (address + 1) is in
        let whole = are.0.1 in ((omega arith, omega (arith, next, whole)), are.1)
    by false is = ((omega arith, within), are)
first_joined address byte (events.Enter func args ∷ runs) within are = absurd are.0
first_joined address byte (events.Leave func ∷ runs) within are = absurd are.0
first_joined address byte (events.Pre callee ∷ runs) within are = absurd are.0
first_joined address byte (events.Post value ∷ runs) within are = absurd are.0
first_joined address byte (events.Grow count ∷ runs) within are = absurd are.0
first_joined address byte (events.Seen ∷ runs) within are = absurd are.0
first_joined address byte (events.Table size ∷ runs) within are = absurd are.0
first_joined address byte (events.Entry index func ∷ runs) within are = absurd are.0
first_joined address byte (events.Global global value ∷ runs) within are = absurd are.0

are_runs : (known : ℕ → ℕ) (address : ℕ) (bytes : List ℕ) → address + length bytes < 2 ^ 32
    → AllByRecursion IsRun (differing_runs known address bytes)
are_runs known address [] within = tt
are_runs known address (byte ∷ bytes) within =
    by (nat_eq byte (known address)) (are_runs known (address + 1) bytes (omega (arith, within)))
  where
    by : (b : Bool) → AllByRecursion IsRun (differing_runs known (address + 1) bytes)
        → AllByRecursion IsRun (cond b (differing_runs known (address + 1) bytes)
        (with_first_byte address byte (differing_runs known (address + 1) bytes)))
    by true rest = rest
    by false rest =
        first_joined address byte (differing_runs known (address + 1) bytes) (omega (arith, within)) rest

runs_fit : (runs : List Event) → AllByRecursion IsRun runs → FitEvents VERSION_2 runs
runs_fit [] are = tt
runs_fit (events.Bytes at bytes ∷ runs) are =
    let some = are.0.0 in let whole = are.0.1 in
    (record { address = omega (arith, some, whole); some = some; few = omega (arith, whole) }, runs_fit runs are.1)
runs_fit (events.Enter func args ∷ runs) are = absurd are.0
runs_fit (events.Leave func ∷ runs) are = absurd are.0
runs_fit (events.Pre callee ∷ runs) are = absurd are.0
runs_fit (events.Post value ∷ runs) are = absurd are.0
runs_fit (events.Grow count ∷ runs) are = absurd are.0
runs_fit (events.Seen ∷ runs) are = absurd are.0
runs_fit (events.Table size ∷ runs) are = absurd are.0
runs_fit (events.Entry index func ∷ runs) are = absurd are.0
runs_fit (events.Global global value ∷ runs) are = absurd are.0

-- ---- events of observations

abbrev pub IsSmall : Observation → Type 0
IsSmall (Reads address bytes) = address + length bytes < 2 ^ 32
IsSmall (Copies address bytes) = address + length bytes < 2 ^ 32
IsSmall (ReachesEntry index found) = FitsU32 found
IsSmall (ReadsEntry index func) = FitsU32 index × IfSome func FitsU32
IsSmall (ReadsGlobal global value) = FitsU32 global × FitsVal value
IsSmall o = Unit {0}

abbrev pub AreSmall : List Observation → Type 0
AreSmall os = AllByRecursion IsSmall os

pub unless_fits : (b : Bool) (event : Event) → FitsEvent VERSION_2 event → FitEvents VERSION_2 (unless b event)
unless_fits true event fits = tt
unless_fits false event fits = (fits, tt)

pub original_fits : (n : ℕ) (func : Option ℕ) → IfSome func FitsU32 → IfSome (option_and_then (original n) func) FitsU32
original_fits n None fits = tt
original_fits n (Some func) fits = by (nat_lt func n) (nat_lt func (n + hook_count))
  where
    by : (a b : Bool) → IfSome (cond a (Some func) (cond b None (Some (func - hook_count)))) FitsU32
    by true b = fits
    by false true = tt
    by false false = omega (arith, fits)

found_fit : (n : ℕ) (state : LogState) (o : Observation) → IsSmall o
    → FitEvents VERSION_2 (found_events n state.known o)
found_fit n state (Begins origin) small = tt
found_fit n state (Ends next) small = tt
found_fit n state (Reads address bytes) small = runs_fit _ (are_runs state.known.byte address bytes small)
found_fit n state (Copies address bytes) small = runs_fit _ (are_runs state.known.byte address bytes small)
found_fit n state (Writes address bytes) small = tt
found_fit n state (Reaches «end» found) small = tt
found_fit n state (Resizes found left) small = tt
found_fit n state (ReadsEntry index func) small =
    unless_fits (same_option nat_eq (state.known.entry index) func) (events.Entry index (option_and_then (original n) func))
    (small.0, original_fits n func small.1)
found_fit n state (WritesEntry index func) small = tt
found_fit n state (ReachesEntry index found) small = by (nat_lt index state.known.entries)
  where
    by : (b : Bool)
        → FitEvents VERSION_2 (cond b [] (unless (nat_eq found state.known.entries) (events.Table found)))
    by true = tt
    by false = unless_fits (nat_eq found state.known.entries) (events.Table found) (refl, small)
found_fit n state (ResizesTable found left func) small = tt
found_fit n state (ReadsGlobal global value) small =
    unless_fits (same_option same_value (state.known.global global) (Some value)) (events.Global global value) small
found_fit n state (WritesGlobal global value) small = tt

seen_fit : (b : Bool) (state : LogState) → FitEvents VERSION_2 (cond b (seen_events state) [])
seen_fit true state = unless_fits (nat_eq state.known.pages state.noticed) events.Seen tt
seen_fit false state = tt

pub observed_fit : (n : ℕ) (state : LogState) (os : List Observation) → AreSmall os
    → FitEvents VERSION_2 (all_observed_events n state os)
observed_fit n state [] small = tt
observed_fit n state (o ∷ os) small =
    joined_all (FitsEvent VERSION_2) (observed_events n state o) _
    (joined_all (FitsEvent VERSION_2) (cond (sees_size state.known.pages o) (seen_events state) []) _
    (seen_fit (sees_size state.known.pages o) state) (found_fit n state o small.0))
    (observed_fit n (log_after state o) os small.1)

-- ---- observations of calls

-- the observations of an optional part of the store are small
seen_small : {X : Type 0} (o : Option X) (observe : X → List Observation)
    → ((x : X) → o ≡ Some x → AreSmall (observe x)) → AreSmall (replay.on o observe)
seen_small None observe each = tt
seen_small (Some x) observe each = each x refl

pub shown_small : {X : Type 0} (o : Option X) (observe : X → List Observation)
    → ((x : X) → o ≡ Some x → AreSmall (observe x)) → AreSmall (on o observe)
shown_small None observe each = tt
shown_small (Some x) observe each = each x refl

whole_pages : (count size : ℕ) → size ≡ count * 65536 → count ≤ 4096 → size ≤ 268435456
whole_pages count size is few = omega (arith, is, few)

pub memory_small : (limits : List Limits) (memory : Memory) → MayBeMemory limits (Some memory)
    → (length memory.bytes ≤ 268435456) × (pages memory ≤ 4096)
memory_small [] memory is = absurd is
memory_small (limits ∷ more) memory is = (whole_pages (pages memory) (length memory.bytes) is.whole is.most, is.most)

-- the bytes that an access finds are within addresses of 32 bits
found_within : (all : List ℕ) (address count : ℕ) (bytes : List ℕ) → length all ≤ 268435456
    → bytes_at all address count ≡ Some bytes → address + length bytes < 2 ^ 32
found_within all address count bytes short is =
    let found = cond_some (nat_le (address + count) (length all)) (Some (take count (drop address all))) bytes is in
    let within = leb-true (address + count) (length all) found.0 in
    let left : length (drop address all) ≡ length all - address = length-drop address all in
    let taken : length (take count (drop address all)) ≡ count =
    length-take-le count (drop address all) (omega (arith, within, left)) in
    let same : length (take count (drop address all)) ≡ length bytes = ap length (inner found.1) in
    omega (arith, within, taken, same, short)
  where
    inner : Some (take count (drop address all)) ≡ Some bytes → take count (drop address all) ≡ bytes
    inner e = cc e

pub memory_reads : (limits : List Limits) (memory : Memory) (address count : ℕ) → MayBeMemory limits (Some memory)
    → AreSmall (load_observations address count memory)
memory_reads limits memory address count is =
    let short = (memory_small limits memory is).0 in (
      tt,
      seen_small (bytes_at memory.bytes address count) (λ bytes. Reads address bytes ∷ [])
          (λ bytes e. (found_within memory.bytes address count bytes short e, tt)),
    )

pub memory_writes : (memory : Memory) (address count : ℕ) (bytes : List ℕ)
    → AreSmall (store_observations address count bytes memory)
memory_writes memory address count bytes =
    (tt, seen_small (with_bytes_at memory.bytes address bytes) (λ all. Writes address bytes ∷ []) (λ all e. (tt, tt)))

pub memory_copies : (limits : List Limits) (memory : Memory) (to source count : ℕ) → MayBeMemory limits (Some memory)
    → AreSmall (copy_observations to source count memory)
memory_copies limits memory to source count is =
    let short = (memory_small limits memory is).0 in (
      tt,
      (
        tt,
        seen_small (bytes_at memory.bytes source count)
            (λ bytes. replay.on (with_bytes_at memory.bytes to bytes) (λ all. Copies source bytes ∷ Writes to bytes ∷ []))
            (λ bytes e. seen_small (with_bytes_at memory.bytes to bytes) (λ all. Copies source bytes ∷ Writes to bytes ∷ [])
            (λ all f. (found_within memory.bytes source count bytes short e, (tt, tt)))),
      ),
    )

entry_small : (funcs : ℕ) (entry : Option ℕ) → funcs < 2 ^ 31 → IfSome entry (λ func. func < funcs)
    → IfSome entry FitsU32
entry_small funcs None few is = tt
entry_small funcs (Some func) few is = omega (arith, few, is)

pub table_reads : (funcs : ℕ) (limits : List Limits) (table : Table) (index : ℕ) → funcs < 2 ^ 31
    → MayBeTable funcs limits (Some table) → AreSmall (entry_observations index table)
table_reads funcs [] table index few is = absurd is
table_reads funcs (limits ∷ more) table index few is =
    let most : length table.entries ≤ 1000000 = is.most in (
      omega (arith, most),
      seen_small (slice_get table.entries index) (λ func. ReadsEntry index func ∷ [])
          (λ func e.
          let within = slice_get_within table.entries index func e in
          let entry = all_at (λ entry. IfSome entry (λ func. func < funcs)) table.entries index func is.entries e in
          ((omega (arith, most, within), entry_small funcs func few entry), tt)),
    )

pub table_entry : (funcs : ℕ) (limits : List Limits) (table : Option Table) (index : ℕ) → funcs < 2 ^ 31
    → MayBeTable funcs limits table → IfSome (entry_of table index) FitsU32
table_entry funcs limits None index few is = tt
table_entry funcs [] (Some table) index few is = absurd is
table_entry funcs (limits ∷ more) (Some table) index few is = by (slice_get table.entries index) refl
  where
    by : (o : Option (Option ℕ)) → slice_get table.entries index ≡ o → IfSome (option_and_then (λ entry. entry) o) FitsU32
    by None e = tt
    by (Some entry) e =
        entry_small funcs entry few
        (all_at (λ entry. IfSome entry (λ func. func < funcs)) table.entries index entry is.entries e)
