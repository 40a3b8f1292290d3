-- The instructions inserted into a body are of few kinds: a property of these kinds holds of each inserted
-- instruction.
use Rattle.std.proofs.Common.{◌≡◌, ℕ, ◌+◌, ◌-◌, ◌<◌, ◌≤◌, List, [], ◌∷◌, ◌++◌, length, Option, Some, None, Bool, true, false, cond, refl, arith}
use Rattle.std.specs.Prelude.{nat_lt, slice_get}
use Rattle.std.specs.List.{AllByRecursion}
use Rattle.std.proofs.lemmas.Bool.Decides.{nat_tests}
use Rattle.base.proofs.Lists.{item_passes, joined_all}
use Rattle.base.proofs.Options.{cond_some}
use Rattle.base.specs.declared.opcodes.TheConstants.{I32_LOAD, I64_LOAD32_U, I32_STORE, I64_STORE32, I32_WRAP_I64, I64_EXTEND_I32_U, I32_REINTERPRET_F32, I64_REINTERPRET_F64}
use Rattle.wasm_syntax.specs.declared.values.ValType.{ValType}
use Rattle.wasm_syntax.specs.declared.values.ValType.TheVariants.{I32, I64, F32, F64, FuncRef}
use Rattle.wasm_syntax.specs.declared.signatures.FuncType.{FuncType}
use Rattle.wasm_syntax.specs.declared.signatures.GlobalType.{GlobalType}
use Rattle.wasm_syntax.specs.declared.instructions.MemArg.{MemArg}
use Rattle.wasm_syntax.specs.declared.instructions.Instr.{Instr}
use Rattle.wasm_syntax.specs.declared.instructions.Instr.TheVariants as instrs
use Rattle.wasm_syntax.specs.declared.instructions.Instr.TheVariants.{Call, LocalGet, LocalSet, LocalTee, Numeric}
use Rattle.wasm_syntax.specs.Alike.{type_byte}
use Rattle.wasm_syntax.specs.Index.{all_globals, func_type, type_at}
use Rattle.wasm_syntax.specs.Opcodes.{Access, is_from, load_of, load_table, store_of, store_table}
use Rattle.record_replay_spec.specs.declared.hooks.Hook.{Hook}
use Rattle.record_replay_spec.specs.declared.hooks.Hook.TheVariants as hook
use Rattle.record_replay_spec.specs.Hooks.{on}
use Rattle.record_replay_spec.specs.Insertions.{Site, after_call, before_load, before_store, bits_of_local, calls, inserted_after, inserted_at_end, inserted_at_enter, inserted_before, number, range_operands, reports_global, reports_index, reports_local, reports_number, reports_params, reports_range, value_local, widened}

-- a property of the numbers that hooks are passed for an instruction
abbrev pub HasReported : (ℕ → Type 0) → Instr → Type 0
HasReported Q (Call func) = Q func
HasReported Q (instrs.Load at) = Q at.offset
HasReported Q (instrs.Store at) = Q at.offset
HasReported Q (instrs.GlobalGet global) = Q global
HasReported Q (instrs.GlobalSet global) = Q global
HasReported Q i = Unit {0}

-- a property of each kind of inserted instruction, if the numbers passed to hooks have theirs
pub record HoldsOfKinds (P : Instr → Type 0) (Q : ℕ → Type 0) (s : Site) : Type 0 where
  pub reported : (bits : ℕ) → Q bits → P (number bits)
  pub hook : (kind : Hook) → P (calls s kind)
  pub get : (local : ℕ) → local ≤ s.locals + 4 → P (LocalGet local)
  pub set : (local : ℕ) → local ≤ s.locals + 4 → P (LocalSet local)
  pub tee : P (LocalTee s.locals)
  pub wrapped : P (Numeric I32_WRAP_I64)
  pub extended : P (Numeric I64_EXTEND_I32_U)
  pub bits32 : P (Numeric I32_REINTERPRET_F32)
  pub bits64 : P (Numeric I64_REINTERPRET_F64)
  pub own : Q s.func
  pub small : (n : ℕ) → n < 128 → Q n

-- ---- widths of accesses

abbrev is_narrow : Access → Bool
is_narrow a = nat_lt a.width 128

narrow : (a : Access) → is_narrow a ≡ true → a.width < 128
narrow a h = grind (arith, nat_tests, h)

load_narrow : (op : ℕ) (a : Access) → load_of op ≡ Some a → a.width < 128
load_narrow op a h =
    narrow a (item_passes is_narrow load_table (op - I32_LOAD) a refl (cond_some (is_from I32_LOAD I64_LOAD32_U op) _ a h).1)

store_narrow : (op : ℕ) (a : Access) → store_of op ≡ Some a → a.width < 128
store_narrow op a h =
    narrow a (item_passes is_narrow store_table (op - I32_STORE) a refl (cond_some (is_from I32_STORE I64_STORE32 op) _ a h).1)

byte_small : (ty : ValType) → type_byte ty < 128
byte_small I32 = omega arith
byte_small I64 = omega arith
byte_small F32 = omega arith
byte_small F64 = omega arith
byte_small FuncRef = omega arith

value_there : (s : Site) (ty : ValType) → value_local s ty ≤ s.locals + 4
value_there s I32 = omega arith
value_there s I64 = omega arith
value_there s F32 = omega arith
value_there s F64 = omega arith
value_there s FuncRef = omega arith

module _ (P : Instr → Type 0) (Q : ℕ → Type 0) (s : Site) (has : HoldsOfKinds P Q s) where
  -- each of a piece
  abbrev Each : List Instr → Type 0
  Each is = AllByRecursion P is

  joined : (front back : List Instr) → Each front → Each back → Each (front ++ back)
  joined front back a b = joined_all P front back a b

  address_get : P (LocalGet s.locals)
  address_get = has.get s.locals (omega arith)

  value_get : (ty : ValType) → P (LocalGet (value_local s ty))
  value_get ty = has.get (value_local s ty) (value_there s ty)

  value_set : (ty : ValType) → P (LocalSet (value_local s ty))
  value_set ty = has.set (value_local s ty) (value_there s ty)

  -- ---- pieces

  widens : (ty : ValType) → Each (widened ty)
  widens I32 = (has.extended, tt)
  widens I64 = tt
  widens F32 = (has.bits32, (has.extended, tt))
  widens F64 = (has.bits64, tt)
  widens FuncRef = tt

  each_bits : (ty : ValType) (local : ℕ) → local ≤ s.locals + 4 → Each (bits_of_local ty local)
  each_bits ty local there = (has.get local there, widens ty)

  each_local : (ty : ValType) (local : ℕ) → local ≤ s.locals + 4 → Each (reports_local s ty local)
  each_local ty local there = (
    has.reported (type_byte ty) (has.small (type_byte ty) (byte_small ty)),
    joined (bits_of_local ty local) (calls s hook.Arg ∷ []) (each_bits ty local there) (has.hook hook.Arg, tt),
  )

  each_number : (kind : Hook) (bits : ℕ) → Q bits → Each (reports_number s kind bits)
  each_number kind bits q = (has.reported bits q, (has.hook kind, tt))

  each_param : (local : ℕ) (types : List ValType) → local + length types ≤ s.locals → Each (reports_params s local types)
  each_param local [] few = tt
  each_param local (ty ∷ types) few =
      joined (reports_local s ty local) (reports_params s (local + 1) types) (each_local ty local (omega (arith, few)))
      (each_param (local + 1) types (omega (arith, few)))

  each_index : (kind : Hook) → Each (reports_index s kind)
  each_index kind = (has.tee, (has.hook kind, (address_get, tt)))

  each_operand : Each (range_operands s)
  each_operand = (value_get I64, (has.wrapped, (address_get, (value_get I32, tt))))

  each_range : (kind : Hook) → Each (reports_range s kind)
  each_range kind = (
    value_set I32,
    (
      has.set s.locals (omega arith),
      (
        has.extended,
        (
          value_set I64,
          joined (range_operands s) (calls s kind ∷ range_operands s) each_operand (has.hook kind, each_operand),
        ),
      ),
    ),
  )

  each_load : (at : MemArg) (a : Access) → Q at.offset → a.width < 128 → Each (before_load s at a)
  each_load at a q less =
      (has.tee, (has.reported at.offset q, (has.reported a.width (has.small a.width less), (has.hook hook.Load, (address_get, tt)))))

  each_store : (at : MemArg) (a : Access) → Q at.offset → a.width < 128 → Each (before_store s at a)
  each_store at a q less = (
    value_set a.ty,
    (
      has.tee,
      (
        has.reported at.offset q,
        (
          has.reported a.width (has.small a.width less),
          joined (bits_of_local a.ty (value_local s a.ty)) (calls s hook.Store ∷ LocalGet s.locals ∷ LocalGet (value_local s a.ty) ∷ [])
              (each_bits a.ty (value_local s a.ty) (value_there s a.ty)) (has.hook hook.Store, (address_get, (value_get a.ty, tt))),
        ),
      ),
    ),
  )

  each_global : (kind : Hook) (global : ℕ) (ty : ValType) → Q global → Each (reports_global s kind global ty)
  each_global kind global ty q = (
    value_set ty,
    (
      has.reported global q,
      joined (bits_of_local ty (value_local s ty)) (calls s kind ∷ LocalGet (value_local s ty) ∷ [])
          (each_bits ty (value_local s ty) (value_there s ty)) (has.hook kind, (value_get ty, tt)),
    ),
  )

  each_over : (over : List Instr) (results : List ValType) → Each over → Each (after_call s over results)
  each_over over [] h = h
  each_over over (ty ∷ types) h = (
    value_set ty,
    joined (reports_local s ty (value_local s ty)) (over ++ LocalGet (value_local s ty) ∷ [])
        (each_local ty (value_local s ty) (value_there s ty)) (joined over (LocalGet (value_local s ty) ∷ []) h (value_get ty, tt)),
  )

  -- ---- code for what exists

  each_on : {X : Type 0} (o : Option X) (make : X → List Instr) → ((x : X) → o ≡ Some x → Each (make x)) → Each (on o make)
  each_on None make h = tt
  each_on (Some x) make h = h x refl

  mutable_global : (b : Bool) (global : ℕ) (ty : ValType) → Q global → Each (cond b (reports_global s hook.Gget global ty) [])
  mutable_global true global ty q = each_global hook.Gget global ty q
  mutable_global false global ty q = tt

  -- ---- around an instruction

  pub each_before : (i : Instr) → HasReported Q i → Each (inserted_before s i)
  each_before instrs.Return q = each_number hook.Leave s.func has.own
  each_before (Call func) q = each_number hook.Pre func q
  each_before (instrs.CallIndirect ty) q = each_index hook.Ipre
  each_before (instrs.Load at) q =
      each_on (load_of at.op) (before_load s at) (λ a found. each_load at a q (load_narrow at.op a found))
  each_before (instrs.Store at) q =
      each_on (store_of at.op) (before_store s at) (λ a found. each_store at a q (store_narrow at.op a found))
  each_before instrs.MemorySize q = (has.hook hook.Size, tt)
  each_before (instrs.GlobalSet global) q =
      each_on (slice_get (all_globals s.m) global) (λ (ty : GlobalType). reports_global s hook.Gset global ty.ty)
      (λ ty found. each_global hook.Gset global ty.ty q)
  each_before instrs.MemoryCopy q = each_range hook.Copy
  each_before instrs.MemoryFill q = each_range hook.Fill
  each_before i q = tt

  pub each_after : (i : Instr) → HasReported Q i → Each (inserted_after s i)
  each_after (Call func) q =
      each_on (func_type s.m func) (λ (ty : FuncType). after_call s (reports_number s hook.Post func) ty.results)
      (λ ty found. each_over (reports_number s hook.Post func) ty.results (each_number hook.Post func q))
  each_after (instrs.CallIndirect ty) q =
      each_on (type_at s.m ty) (λ (found : FuncType). after_call s (calls s hook.Ipost ∷ []) found.results)
      (λ found is. each_over (calls s hook.Ipost ∷ []) found.results (has.hook hook.Ipost, tt))
  each_after instrs.MemoryGrow q = each_index hook.Grow
  each_after (instrs.GlobalGet global) q =
      each_on (slice_get (all_globals s.m) global) (λ (ty : GlobalType). cond ty.mutable (reports_global s hook.Gget global ty.ty) [])
      (λ ty found. mutable_global ty.mutable global ty.ty q)
  each_after i q = tt

  -- ---- of a body

  pub each_at_enter : (params : List ValType) → length params ≤ s.locals → Each (inserted_at_enter s params)
  each_at_enter params few =
      joined (reports_params s 0 params) (reports_number s hook.Enter s.func) (each_param 0 params (omega (arith, few)))
      (each_number hook.Enter s.func has.own)

  pub each_at_end : Each (inserted_at_end s)
  each_at_end = each_number hook.Leave s.func has.own
