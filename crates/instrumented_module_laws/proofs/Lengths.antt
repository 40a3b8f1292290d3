-- The length of instrumented bodies: at most 23 instructions for each of the original, and five for each parameter.
use Rattle.std.proofs.Common.{◌≡◌, ℕ, ◌+◌, ◌*◌, ◌≤◌, List, [], ◌∷◌, ◌++◌, length, Option, Some, None, Bool, true, false, cond, slice_get, arith, length-append}
use Rattle.wasm_syntax.specs.declared.values.ValType.{ValType}
use Rattle.wasm_syntax.specs.declared.values.ValType.TheVariants.{I32, I64, F32, F64, FuncRef}
use Rattle.wasm_syntax.specs.declared.signatures.FuncType.{FuncType}
use Rattle.wasm_syntax.specs.declared.instructions.Instr.{Instr}
use Rattle.wasm_syntax.specs.declared.instructions.Instr.TheVariants.{Block, Loop, If, Else, End, Return, Call, CallIndirect, LocalGet, GlobalGet, GlobalSet, Load, Store, MemorySize, MemoryGrow, MemoryCopy, MemoryFill}
use Rattle.wasm_syntax.specs.Index.{type_at, func_type, all_globals}
use Rattle.wasm_syntax.specs.Nest.{Nest, Empty, Plain, InBlock, InLoop, InIf, InIfElse, flat}
use Rattle.wasm_syntax.specs.Opcodes.{load_of, store_of}
use Rattle.record_replay_spec.specs.declared.hooks.Hook.{Hook}
use Rattle.record_replay_spec.specs.declared.hooks.Hook.TheVariants as hook
use Rattle.record_replay_spec.specs.Hooks.{on}
use Rattle.record_replay_spec.specs.Insertions.{Site, imports_at, value_local, calls, widened, reports_local, reports_number, reports_params, reports_global, before_load, before_store, after_call, inserted_before, inserted_after, inserted_at_enter, inserted_at_end}
use Rattle.record_replay_spec.specs.Instrumented.{renumbered, before_nest, instrumented_nest, instrumented_body}

-- ---- pieces

on_length : {X : Type 0} (o : Option X) (make : X → List Instr) (most : ℕ) → ((x : X) → length (make x) ≤ most)
    → length (on o make) ≤ most
on_length None make most each = omega arith
on_length (Some x) make most each = each x

-- a value's bits, and more instructions
widened_length : (ty : ValType) (is : List Instr) → length (widened ty ++ is) ≤ 2 + length is
widened_length I32 is = omega arith
widened_length I64 is = omega arith
widened_length F32 is = omega arith
widened_length F64 is = omega arith
widened_length FuncRef is = omega arith

local_length : (s : Site) (ty : ValType) (local : ℕ) → length (reports_local s ty local) ≤ 5
local_length s ty local = let h = widened_length ty (calls s hook.Arg ∷ []) in omega (arith, h)

global_length : (s : Site) (kind : Hook) (global : ℕ) (ty : ValType) → length (reports_global s kind global ty) ≤ 7
global_length s kind global ty =
    let h = widened_length ty (calls s kind ∷ LocalGet (value_local s ty) ∷ []) in omega (arith, h)

params_length : (s : Site) (local : ℕ) (types : List ValType) → length (reports_params s local types) ≤ 5 * length types
params_length s local [] = omega arith
params_length s local (ty ∷ types) =
    let first = local_length s ty local in
    let rest = params_length s (local + 1) types in
    let both = length-append (reports_local s ty local) (reports_params s (local + 1) types) in
    omega (arith, first, rest, both)

after_call_length : (s : Site) (over : List Instr) (results : List ValType) → length over ≤ 2
    → length (after_call s over results) ≤ 9
after_call_length s over [] few = omega (arith, few)
after_call_length s over (ty ∷ types) few =
    let last : List Instr = LocalGet (value_local s ty) ∷ [] in
    let own = local_length s ty (value_local s ty) in
    let more = length-append (reports_local s ty (value_local s ty)) (over ++ last) in
    let end = length-append over last in omega (arith, few, own, more, end)

before_length : (s : Site) (i : Instr) → length (inserted_before s i) ≤ 13
before_length s (Load at) = on_length (load_of at.op) (before_load s at) 13 (λ a. omega arith)
before_length s (Store at) =
    on_length (store_of at.op) (before_store s at) 13
    (λ a. let h = widened_length a.ty (calls s hook.Store ∷ LocalGet s.locals ∷ LocalGet (value_local s a.ty) ∷ []) in
    omega (arith, h))
before_length s (GlobalSet global) =
    on_length (slice_get (all_globals s.m) global) (λ ty. reports_global s hook.Gset global ty.ty) 13
    (λ ty. let h = global_length s hook.Gset global ty.ty in omega (arith, h))
before_length s Return = omega arith
before_length s (Call func) = omega arith
before_length s (CallIndirect ty) = omega arith
before_length s MemorySize = omega arith
before_length s MemoryCopy = omega arith
before_length s MemoryFill = omega arith
before_length s i = omega arith

mutable_length : (b : Bool) (is : List Instr) (most : ℕ) → length is ≤ most → length (cond b is []) ≤ most
mutable_length true is most h = h
mutable_length false is most h = omega arith

after_length : (s : Site) (i : Instr) → length (inserted_after s i) ≤ 9
after_length s (Call func) =
    on_length (func_type s.m func) (λ ty. after_call s (reports_number s hook.Post func) ty.results) 9
    (λ ty. after_call_length s (reports_number s hook.Post func) ty.results (omega arith))
after_length s (CallIndirect t) =
    on_length (type_at s.m t) (λ ty. after_call s (calls s hook.Ipost ∷ []) ty.results) 9
    (λ ty. after_call_length s (calls s hook.Ipost ∷ []) ty.results (omega arith))
after_length s MemoryGrow = omega arith
after_length s (GlobalGet global) =
    on_length (slice_get (all_globals s.m) global) (λ ty. cond ty.mutable (reports_global s hook.Gget global ty.ty) []) 9
    (λ ty. mutable_length ty.mutable (reports_global s hook.Gget global ty.ty) 9
    (let h = global_length s hook.Gget global ty.ty in omega (arith, h)))
after_length s i = omega arith

-- ---- bodies

flat_before : (is : List Instr) (nest : Nest) → length (flat (before_nest is nest)) ≡ length is + length (flat nest)
flat_before [] nest = omega arith
flat_before (i ∷ is) nest = let h = flat_before is nest in omega (arith, h)

-- two parts with an instruction between them, each part at most 23 times as long as the original's
joined_length : (between : Instr) (own made own_later later : List Instr) → length made ≤ 23 * length own
    → length later ≤ 23 * length own_later
    → length (made ++ between ∷ later) ≤ 23 * length (own ++ between ∷ own_later)
joined_length between own made own_later later first second =
    let a = length-append made (between ∷ later) in
    let b = length-append own (between ∷ own_later) in omega (arith, a, b, first, second)

block_length : (i between : Instr) (own made own_later later : List Instr) → length made ≤ 23 * length own
    → length later ≤ 23 * length own_later
    → length (i ∷ (made ++ between ∷ later)) ≤ 23 * length (i ∷ (own ++ between ∷ own_later))
block_length i between own made own_later later first second =
    let both = joined_length between own made own_later later first second in omega (arith, both)

nest_length : (s : Site) (nest : Nest) → length (flat (instrumented_nest s nest)) ≤ 23 * length (flat nest)
nest_length s Empty = omega arith
nest_length s (Plain i rest) =
    let later = before_nest (inserted_after s i) (instrumented_nest s rest) in
    let a = flat_before (inserted_before s i) (Plain (renumbered (imports_at s) i) later) in
    let b = flat_before (inserted_after s i) (instrumented_nest s rest) in
    let c = before_length s i in
    let d = after_length s i in
    let e = nest_length s rest in omega (arith, a, b, c, d, e)
nest_length s (InBlock ty body rest) =
    block_length (Block ty) End (flat body) (flat (instrumented_nest s body)) (flat rest)
    (flat (instrumented_nest s rest)) (nest_length s body) (nest_length s rest)
nest_length s (InLoop ty body rest) =
    block_length (Loop ty) End (flat body) (flat (instrumented_nest s body)) (flat rest)
    (flat (instrumented_nest s rest)) (nest_length s body) (nest_length s rest)
nest_length s (InIf ty body rest) =
    block_length (If ty) End (flat body) (flat (instrumented_nest s body)) (flat rest) (flat (instrumented_nest s rest))
    (nest_length s body) (nest_length s rest)
nest_length s (InIfElse ty body other rest) =
    let second = flat (instrumented_nest s other) in
    let last = flat (instrumented_nest s rest) in
    block_length (If ty) Else (flat body) (flat (instrumented_nest s body)) (flat other ++ End ∷ flat rest)
    (second ++ End ∷ last) (nest_length s body)
    (joined_length End (flat other) second (flat rest) last (nest_length s other) (nest_length s rest))

-- the body of an instrumented function, with its own `End`
pub body_length : (s : Site) (ty : FuncType) (nest : Nest)
    → length (flat (instrumented_body s ty nest) ++ End ∷ []) ≤ 5 * length ty.params + (23 * length (flat nest) + 7)
body_length s ty nest =
    let first = inserted_at_enter s ty.params in
    let end = before_nest (inserted_at_end s) Empty in
    let block = InBlock (slice_get ty.results 0) (instrumented_nest s nest) end in
    let a = length-append (flat (before_nest first block)) (End ∷ []) in
    let b = flat_before first block in
    let c = length-append (reports_params s 0 ty.params) (reports_number s hook.Enter s.func) in
    let d = params_length s 0 ty.params in
    let e = length-append (flat (instrumented_nest s nest)) (End ∷ flat end) in
    let f = nest_length s nest in omega (arith, a, b, c, d, e, f)
