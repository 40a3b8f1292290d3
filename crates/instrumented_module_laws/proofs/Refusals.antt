-- Inserted instructions are not refused, and an instrumented body has no refused instruction if the original has none.
use Rattle.std.proofs.Common.{◌≡◌, ℕ, ◌+◌, List, [], ◌∷◌, ◌++◌, Option, Some, None, Bool, true, false, cond, option_map, slice_get, refl, ap, ◌∙◌}
use Rattle.std.specs.Prelude.{filter, filter_map}
use Rattle.std.specs.List.{AllByRecursion, enumerate_from, cons_option}
use Rattle.base.proofs.Lists.{joined_all}
use Rattle.wasm_syntax.specs.declared.values.ValType.{ValType}
use Rattle.wasm_syntax.specs.declared.values.ValType.TheVariants.{I32, I64, F32, F64, FuncRef}
use Rattle.wasm_syntax.specs.declared.signatures.FuncType.{FuncType}
use Rattle.wasm_syntax.specs.declared.instructions.Instr.{Instr}
use Rattle.wasm_syntax.specs.declared.instructions.Instr.TheVariants.{Else, End, Return, Call, CallIndirect, LocalGet, GlobalGet, GlobalSet, Load, Store, MemorySize, MemoryGrow, MemoryCopy, MemoryFill}
use Rattle.wasm_syntax.specs.Index.{type_at, func_type, all_globals}
use Rattle.wasm_syntax.specs.Nest.{Nest, Empty, Plain, InBlock, InLoop, InIf, InIfElse, flat}
use Rattle.wasm_syntax.specs.Opcodes.{load_of, store_of}
use Rattle.wasm_syntax.specs.Profile.{Unsupported, refused_feature, is_numbered}
use Rattle.type_safety.specs.Frames.{HasNoneRefused}
use Rattle.record_replay_spec.specs.declared.hooks.Hook.TheVariants as hook
use Rattle.record_replay_spec.specs.Hooks.{on}
use Rattle.record_replay_spec.specs.Insertions.{Site, imports_at, value_local, calls, widened, reports_local, reports_number, reports_params, reports_global, before_load, before_store, after_call, inserted_before, inserted_after, inserted_at_enter, inserted_at_end}
use Rattle.record_replay_spec.specs.Instrumented.{renumbered, before_nest, instrumented_nest, instrumented_body}

abbrev IsUnrefused : Instr → Type 0
IsUnrefused i = refused_feature i ≡ None

-- no instruction of a list is refused
abbrev pub AreUnrefused : List Instr → Type 0
AreUnrefused is = AllByRecursion IsUnrefused is

-- ---- pieces

unrefused_on : {X : Type 0} (o : Option X) (make : X → List Instr) → ((x : X) → AreUnrefused (make x))
    → AreUnrefused (on o make)
unrefused_on None make each = tt
unrefused_on (Some x) make each = each x

with_widened : (ty : ValType) (is : List Instr) → AreUnrefused is → AreUnrefused (widened ty ++ is)
with_widened I32 is h = (refl, h)
with_widened I64 is h = h
with_widened F32 is h = (refl, (refl, h))
with_widened F64 is h = (refl, h)
with_widened FuncRef is h = h

local_unrefused : (s : Site) (ty : ValType) (local : ℕ) → AreUnrefused (reports_local s ty local)
local_unrefused s ty local = (refl, (refl, with_widened ty (calls s hook.Arg ∷ []) (refl, tt)))

params_unrefused : (s : Site) (local : ℕ) (types : List ValType) → AreUnrefused (reports_params s local types)
params_unrefused s local [] = tt
params_unrefused s local (ty ∷ types) =
    joined_all IsUnrefused (reports_local s ty local) (reports_params s (local + 1) types) (local_unrefused s ty local)
    (params_unrefused s (local + 1) types)

after_call_unrefused : (s : Site) (over : List Instr) (results : List ValType) → AreUnrefused over
    → AreUnrefused (after_call s over results)
after_call_unrefused s over [] h = h
after_call_unrefused s over (ty ∷ types) h =
    let last : List Instr = LocalGet (value_local s ty) ∷ [] in (
      refl,
      joined_all IsUnrefused (reports_local s ty (value_local s ty)) (over ++ last)
          (local_unrefused s ty (value_local s ty)) (joined_all IsUnrefused over last h (refl, tt)),
    )

global_get_unrefused : (s : Site) (global : ℕ) (ty : ValType) → AreUnrefused (reports_global s hook.Gget global ty)
global_get_unrefused s global ty =
    (refl, (refl, (refl, with_widened ty (calls s hook.Gget ∷ LocalGet (value_local s ty) ∷ []) (refl, (refl, tt)))))

global_set_unrefused : (s : Site) (global : ℕ) (ty : ValType) → AreUnrefused (reports_global s hook.Gset global ty)
global_set_unrefused s global ty =
    (refl, (refl, (refl, with_widened ty (calls s hook.Gset ∷ LocalGet (value_local s ty) ∷ []) (refl, (refl, tt)))))

before_unrefused : (s : Site) (i : Instr) → AreUnrefused (inserted_before s i)
before_unrefused s Return = (refl, (refl, tt))
before_unrefused s (Call func) = (refl, (refl, tt))
before_unrefused s (CallIndirect ty) = (refl, (refl, (refl, tt)))
before_unrefused s (Load at) =
    unrefused_on (load_of at.op) (before_load s at) (λ a. (refl, (refl, (refl, (refl, (refl, tt))))))
before_unrefused s (Store at) =
    unrefused_on (store_of at.op) (before_store s at)
    (λ a. (
      refl,
      (
        refl,
        (
          refl,
          (
            refl,
            (
              refl,
              with_widened a.ty (calls s hook.Store ∷ LocalGet s.locals ∷ LocalGet (value_local s a.ty) ∷ [])
                  (refl, (refl, (refl, tt))),
            ),
          ),
        ),
      ),
    ))
before_unrefused s MemorySize = (refl, tt)
before_unrefused s (GlobalSet global) =
    unrefused_on (slice_get (all_globals s.m) global) (λ ty. reports_global s hook.Gset global ty.ty)
    (λ ty. global_set_unrefused s global ty.ty)
before_unrefused s MemoryCopy =
    (refl, (refl, (refl, (refl, (refl, (refl, (refl, (refl, (refl, (refl, (refl, (refl, (refl, tt)))))))))))))
before_unrefused s MemoryFill =
    (refl, (refl, (refl, (refl, (refl, (refl, (refl, (refl, (refl, (refl, (refl, (refl, (refl, tt)))))))))))))
before_unrefused s i = tt

mutable_unrefused : (b : Bool) (is : List Instr) → AreUnrefused is → AreUnrefused (cond b is [])
mutable_unrefused true is h = h
mutable_unrefused false is h = tt

after_unrefused : (s : Site) (i : Instr) → AreUnrefused (inserted_after s i)
after_unrefused s (Call func) =
    unrefused_on (func_type s.m func) (λ ty. after_call s (reports_number s hook.Post func) ty.results)
    (λ ty. after_call_unrefused s (reports_number s hook.Post func) ty.results (refl, (refl, tt)))
after_unrefused s (CallIndirect t) =
    unrefused_on (type_at s.m t) (λ ty. after_call s (calls s hook.Ipost ∷ []) ty.results)
    (λ ty. after_call_unrefused s (calls s hook.Ipost ∷ []) ty.results (refl, tt))
after_unrefused s MemoryGrow = (refl, (refl, (refl, tt)))
after_unrefused s (GlobalGet global) =
    unrefused_on (slice_get (all_globals s.m) global)
    (λ ty. cond ty.mutable (reports_global s hook.Gget global ty.ty) [])
    (λ ty. mutable_unrefused ty.mutable (reports_global s hook.Gget global ty.ty) (global_get_unrefused s global ty.ty))
after_unrefused s i = tt

renumbered_unrefused : (n : ℕ) (i : Instr) → IsUnrefused i → IsUnrefused (renumbered n i)
renumbered_unrefused n (Call func) h = refl
renumbered_unrefused n i h = h

-- ---- bodies

flat_before : (is : List Instr) (nest : Nest) → AreUnrefused is → AreUnrefused (flat nest)
    → AreUnrefused (flat (before_nest is nest))
flat_before [] nest h k = k
flat_before (i ∷ is) nest h k = (h.0, flat_before is nest h.1 k)

nest_unrefused : (s : Site) (nest : Nest) → HasNoneRefused nest → AreUnrefused (flat (instrumented_nest s nest))
nest_unrefused s Empty h = tt
nest_unrefused s (Plain i rest) h =
    let later = before_nest (inserted_after s i) (instrumented_nest s rest) in
    flat_before (inserted_before s i) (Plain (renumbered (imports_at s) i) later) (before_unrefused s i) (
      renumbered_unrefused (imports_at s) i h.0,
      flat_before (inserted_after s i) (instrumented_nest s rest) (after_unrefused s i) (nest_unrefused s rest h.1),
    )
nest_unrefused s (InBlock ty body rest) h =
    let last = flat (instrumented_nest s rest) in (
      refl,
      joined_all IsUnrefused (flat (instrumented_nest s body)) (End ∷ last) (nest_unrefused s body h.0)
          (refl, nest_unrefused s rest h.1),
    )
nest_unrefused s (InLoop ty body rest) h =
    let last = flat (instrumented_nest s rest) in (
      refl,
      joined_all IsUnrefused (flat (instrumented_nest s body)) (End ∷ last) (nest_unrefused s body h.0)
          (refl, nest_unrefused s rest h.1),
    )
nest_unrefused s (InIf ty body rest) h =
    let last = flat (instrumented_nest s rest) in (
      refl,
      joined_all IsUnrefused (flat (instrumented_nest s body)) (End ∷ last) (nest_unrefused s body h.0)
          (refl, nest_unrefused s rest h.1),
    )
nest_unrefused s (InIfElse ty body other rest) h =
    let last = flat (instrumented_nest s rest) in
    let second = flat (instrumented_nest s other) in (
      refl,
      joined_all IsUnrefused (flat (instrumented_nest s body)) (Else ∷ (second ++ End ∷ last))
          (nest_unrefused s body h.0) (
            refl,
            joined_all IsUnrefused second (End ∷ last) (nest_unrefused s other h.1)
                (refl, nest_unrefused s rest h.2),
          ),
    )

pub body_unrefused : (s : Site) (ty : FuncType) (nest : Nest) → HasNoneRefused nest
    → AreUnrefused (flat (instrumented_body s ty nest) ++ End ∷ [])
body_unrefused s ty nest h =
    let first = inserted_at_enter s ty.params in
    let end = before_nest (inserted_at_end s) Empty in
    let block = InBlock (slice_get ty.results 0) (instrumented_nest s nest) end in
    joined_all IsUnrefused (flat (before_nest first block)) (End ∷ [])
    (flat_before first block
    (joined_all IsUnrefused (reports_params s 0 ty.params) (reports_number s hook.Enter s.func)
    (params_unrefused s 0 ty.params) (refl, (refl, tt))) (
      refl,
      joined_all IsUnrefused (flat (instrumented_nest s nest)) (End ∷ flat end) (nest_unrefused s nest h)
          (refl, (refl, (refl, tt))),
    ))
    (refl, tt)

-- ---- a body without refused instructions has no refusals

pub none_named : (func start : ℕ) (body : List Instr) → AreUnrefused body
    → filter_map (λ (i : ℕ × Instr). option_map (Unsupported func i.0) (refused_feature i.1))
    (enumerate_from start (filter is_numbered body))
    ≡ []
none_named func start [] h = refl
none_named func start (i ∷ is) h = by (is_numbered i) (λ k. none_named func k is h.1)
  where
    by : (b : Bool)
        → ((k : ℕ) → filter_map (λ (j : ℕ × Instr). option_map (Unsupported func j.0) (refused_feature j.1))
        (enumerate_from k (filter is_numbered is)) ≡ [])
        → filter_map (λ (j : ℕ × Instr). option_map (Unsupported func j.0) (refused_feature j.1))
        (enumerate_from start (cond b (i ∷ filter is_numbered is) (filter is_numbered is)))
        ≡ []
    by true later =
        ap (λ o. cons_option (option_map (Unsupported func start) o)
        (filter_map (λ (j : ℕ × Instr). option_map (Unsupported func j.0) (refused_feature j.1))
        (enumerate_from (start + 1) (filter is_numbered is)))) h.0
        ∙ later (start + 1)
    by false later = later start
