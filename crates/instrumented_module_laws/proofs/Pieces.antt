-- Sequences of pieces of code: their types, whatever is below on the stack.
use Rattle.std.proofs.Common.{◌≡◌, ℕ, suc, ◌+◌, ◌^◌, ◌≤◌, List, [], ◌∷◌, ◌++◌, length, reverse, Some, true, IsTrue, nat_lt, slice_get, option_map, refl, sym, ap, ◌∙◌, subst, arith}
use Rattle.std.proofs.lemmas.Bool.Decides.{nat_tests}
use Rattle.base.specs.declared.opcodes.TheConstants.{I32_WRAP_I64, I64_EXTEND_I32_U, I32_REINTERPRET_F32, I64_REINTERPRET_F64}
use Rattle.wasm_syntax.specs.declared.values.ValType.{ValType}
use Rattle.wasm_syntax.specs.declared.values.ValType.TheVariants.{I32, I64, F32, F64, FuncRef}
use Rattle.wasm_syntax.specs.declared.instructions.MemArg.{MemArg}
use Rattle.wasm_syntax.specs.declared.instructions.Instr.{Instr}
use Rattle.wasm_syntax.specs.declared.instructions.Instr.TheVariants.{LocalGet, LocalSet, LocalTee, Numeric}
use Rattle.wasm_syntax.specs.Encoding.Encodable.{FitsU32}
use Rattle.wasm_syntax.specs.Alike.{type_byte}
use Rattle.wasm_syntax.specs.Nest.{Nest}
use Rattle.wasm_syntax.specs.Opcodes.{Access}
use Rattle.wasm_syntax.specs.Typing.{Context, Moves, Leads, is_number, if_true, func_at, call_of, instr_type, IsTyped}
use Rattle.record_replay_spec.specs.declared.hooks.Hook.{Hook}
use Rattle.record_replay_spec.specs.declared.hooks.Hook.TheVariants.{Arg, Enter, Load, Store}
use Rattle.record_replay_spec.specs.Hooks.{hook_func, hook_params, hook_type}
use Rattle.record_replay_spec.specs.Insertions.{Site, imports_at, calls, number, address_local, value_local, widened, bits_of_local, reports_local, reports_number, reports_params, before_load, before_store, reports_global, range_operands, reports_range, reports_index, after_call, inserted_at_enter}
use Rattle.record_replay_spec.specs.Instrumented.{before_nest}

-- a sequence leads from one stack to another
abbrev pub Steps : Context → List Instr → List ValType → List ValType → Type 0
Steps ctx [] before after = before ≡ after
Steps ctx (i ∷ is) before after =
    (middle : List ValType) × Leads ctx (instr_type ctx i) before middle × Steps ctx is middle after

-- a sequence leads from one stack to another; as a record, so that lemmas in a chain find their arguments
pub record Sequence (ctx : Context) (is : List Instr) (before after : List ValType) : Type 0 where
  pub steps : Steps ctx is before after

typed_steps : (ctx : Context) (is : List Instr) (nest : Nest) (before middle after : List ValType)
    → Steps ctx is before middle → IsTyped ctx nest middle after → IsTyped ctx (before_nest is nest) before after
typed_steps ctx [] nest before middle after h typed = subst (λ b. IsTyped ctx nest b after) (sym h) typed
typed_steps ctx (i ∷ is) nest before middle after h typed =
    (h.0, h.1, typed_steps ctx is nest h.0 middle after h.2 typed)

pub typed_after : (ctx : Context) (is : List Instr) (nest : Nest) (before middle after : List ValType)
    → Sequence ctx is before middle → IsTyped ctx nest middle after → IsTyped ctx (before_nest is nest) before after
typed_after ctx is nest before middle after h typed = typed_steps ctx is nest before middle after h.steps typed

both_steps : (ctx : Context) (is js : List Instr) (before middle after : List ValType)
    → Steps ctx is before middle → Steps ctx js middle after → Steps ctx (is ++ js) before after
both_steps ctx [] js before middle after h k = subst (λ b. Steps ctx js b after) (sym h) k
both_steps ctx (i ∷ is) js before middle after h k = (h.0, h.1, both_steps ctx is js h.0 middle after h.2 k)

both : (ctx : Context) (is js : List Instr) (before middle after : List ValType)
    → Sequence ctx is before middle → Sequence ctx js middle after → Sequence ctx (is ++ js) before after
both ctx is js before middle after h k =
    record { steps = both_steps ctx is js before middle after h.steps k.steps }

-- an empty sequence
pub nothing : (ctx : Context) (types : List ValType) → Sequence ctx [] types types
nothing ctx types = record { steps = refl }

-- the types of the added locals and of the hooks in a context
pub record HasHooks (s : Site) (ctx : Context) : Type 0 where
  pub address : slice_get ctx.locals (address_local s) ≡ Some I32
  pub value : (ty : ValType) → IsTrue (is_number ty) → slice_get ctx.locals (value_local s ty) ≡ Some ty
  pub hook : (kind : Hook) → func_at ctx (hook_func (imports_at s) kind) ≡ Some (hook_type kind)

pub word_test : (n : ℕ) → FitsU32 n → nat_lt n (2 ^ 32) ≡ true
word_test n h = grind (arith, nat_tests)

no_number : IsTrue (is_number FuncRef) → ⊥
no_number e = cc

module _ (s : Site) (ctx : Context) (has : HasHooks s ctx) where
  -- one instruction, and more after it
  run : (i : Instr) (is : List Instr) (operands results below after : List ValType)
      → instr_type ctx i ≡ Some (Moves operands results)
      → Sequence ctx is (results ++ below) after → Sequence ctx (i ∷ is) (operands ++ below) after
  run i is operands results below after e more =
      record {
        steps = (
          results ++ below,
          subst (λ o. Leads ctx o (operands ++ below) (results ++ below)) (sym e)
              (record { below = below; had = refl; left = refl }),
          more.steps,
        );
      }

  get : (x : ℕ) (ty : ValType) (is : List Instr) (below after : List ValType) → slice_get ctx.locals x ≡ Some ty
      → Sequence ctx is (ty ∷ below) after → Sequence ctx (LocalGet x ∷ is) below after
  get x ty is below after e more =
      run (LocalGet x) is [] (ty ∷ []) below after (ap (option_map (λ (t : ValType). Moves [] (t ∷ []))) e) more

  set : (x : ℕ) (ty : ValType) (is : List Instr) (below after : List ValType) → slice_get ctx.locals x ≡ Some ty
      → Sequence ctx is below after → Sequence ctx (LocalSet x ∷ is) (ty ∷ below) after
  set x ty is below after e more =
      run (LocalSet x) is (ty ∷ []) [] below after (ap (option_map (λ (t : ValType). Moves (t ∷ []) [])) e) more

  tee : (x : ℕ) (ty : ValType) (is : List Instr) (below after : List ValType) → slice_get ctx.locals x ≡ Some ty
      → Sequence ctx is (ty ∷ below) after → Sequence ctx (LocalTee x ∷ is) (ty ∷ below) after
  tee x ty is below after e more =
      run (LocalTee x) is (ty ∷ []) (ty ∷ []) below after
      (ap (option_map (λ (t : ValType). Moves (t ∷ []) (t ∷ []))) e) more

  constant : (n : ℕ) (is : List Instr) (below after : List ValType) → nat_lt n (2 ^ 32) ≡ true
      → Sequence ctx is (I32 ∷ below) after → Sequence ctx (number n ∷ is) below after
  constant n is below after e more =
      run (number n) is [] (I32 ∷ []) below after (ap (λ b. if_true b (Moves [] (I32 ∷ []))) e) more

  hook_is : (kind : Hook) → instr_type ctx (calls s kind) ≡ Some (Moves (reverse (hook_params kind)) [])
  hook_is kind = ap (option_map call_of) (has.hook kind)

  reported : (kind : Hook) (is : List Instr) (below after : List ValType)
      → Sequence ctx is below after → Sequence ctx (calls s kind ∷ is) (reverse (hook_params kind) ++ below) after
  reported kind is below after more = run (calls s kind) is (reverse (hook_params kind)) [] below after (hook_is kind) more

  -- a value is converted to its bits
  wide : (ty : ValType) (is : List Instr) (below after : List ValType) → IsTrue (is_number ty)
      → Sequence ctx is (I64 ∷ below) after → Sequence ctx (widened ty ++ is) (ty ∷ below) after
  wide I32 is below after num more = run (Numeric I64_EXTEND_I32_U) is (I32 ∷ []) (I64 ∷ []) below after refl more
  wide I64 is below after num more = more
  wide F32 is below after num more =
      run (Numeric I32_REINTERPRET_F32) (Numeric I64_EXTEND_I32_U ∷ is) (F32 ∷ []) (I32 ∷ []) below after refl
      (run (Numeric I64_EXTEND_I32_U) is (I32 ∷ []) (I64 ∷ []) below after refl more)
  wide F64 is below after num more = run (Numeric I64_REINTERPRET_F64) is (F64 ∷ []) (I64 ∷ []) below after refl more
  wide FuncRef is below after num more = absurd (no_number num)

  byte_word : (ty : ValType) → nat_lt (type_byte ty) (2 ^ 32) ≡ true
  byte_word I32 = refl
  byte_word I64 = refl
  byte_word F32 = refl
  byte_word F64 = refl
  byte_word FuncRef = refl

  reports_local_runs : (ty : ValType) (local : ℕ) (below : List ValType) → IsTrue (is_number ty)
      → slice_get ctx.locals local ≡ Some ty → Sequence ctx (reports_local s ty local) below below
  reports_local_runs ty local below num there =
      constant (type_byte ty) (bits_of_local ty local ++ calls s Arg ∷ []) below below (byte_word ty)
      (get local ty (widened ty ++ calls s Arg ∷ []) (I32 ∷ below) below there
      (wide ty (calls s Arg ∷ []) (I32 ∷ below) below num (reported Arg [] below below (nothing ctx below))))

  pub reports_number_runs : (kind : Hook) (n : ℕ) (below : List ValType) → FitsU32 n → hook_params kind ≡ I32 ∷ []
      → Sequence ctx (reports_number s kind n) below below
  reports_number_runs kind n below word takes =
      constant n (calls s kind ∷ []) below below (word_test n word)
      (subst (λ params. Sequence ctx (calls s kind ∷ []) (reverse params ++ below) below) takes
      (reported kind [] below below (nothing ctx below)))

  pub load_runs : (at : MemArg) (access : Access) (below : List ValType) → FitsU32 at.offset
      → nat_lt access.width (2 ^ 32) ≡ true → Sequence ctx (before_load s at access) (I32 ∷ below) (I32 ∷ below)
  load_runs at access below offset width =
      let address = address_local s in
      let last : List Instr = LocalGet address ∷ [] in
      tee address I32 _ below (I32 ∷ below) has.address
      (constant at.offset _ (I32 ∷ below) (I32 ∷ below) (word_test at.offset offset)
      (constant access.width (calls s Load ∷ last) (I32 ∷ I32 ∷ below) (I32 ∷ below) width
      (reported Load last below (I32 ∷ below)
      (get address I32 [] below (I32 ∷ below) has.address (nothing ctx (I32 ∷ below))))))

  pub store_runs : (at : MemArg) (access : Access) (below : List ValType) → FitsU32 at.offset
      → nat_lt access.width (2 ^ 32) ≡ true → IsTrue (is_number access.ty)
      → Sequence ctx (before_store s at access) (access.ty ∷ I32 ∷ below) (access.ty ∷ I32 ∷ below)
  store_runs at access below offset width num =
      let address = address_local s in
      let value = value_local s access.ty in
      let end : List ValType = access.ty ∷ I32 ∷ below in
      let there = has.value access.ty num in
      let last : List Instr = LocalGet address ∷ LocalGet value ∷ [] in
      set value access.ty _ (I32 ∷ below) end there
      (tee address I32 _ below end has.address
      (constant at.offset _ (I32 ∷ below) end (word_test at.offset offset)
      (constant access.width _ (I32 ∷ I32 ∷ below) end width
      (get value access.ty _ (I32 ∷ I32 ∷ I32 ∷ below) end there
      (wide access.ty (calls s Store ∷ last) (I32 ∷ I32 ∷ I32 ∷ below) end num
      (reported Store last below end
      (get address I32 _ below end has.address
      (get value access.ty [] (I32 ∷ below) end there (nothing ctx end)))))))))

  pub global_runs : (kind : Hook) (global : ℕ) (ty : ValType) (below : List ValType) → FitsU32 global
      → hook_params kind ≡ I32 ∷ I64 ∷ [] → IsTrue (is_number ty)
      → Sequence ctx (reports_global s kind global ty) (ty ∷ below) (ty ∷ below)
  global_runs kind global ty below word takes num =
      let value = value_local s ty in
      let there = has.value ty num in
      let last : List Instr = LocalGet value ∷ [] in
      set value ty _ below (ty ∷ below) there
      (constant global _ below (ty ∷ below) (word_test global word)
      (get value ty _ (I32 ∷ below) (ty ∷ below) there
      (wide ty (calls s kind ∷ last) (I32 ∷ below) (ty ∷ below) num
      (subst (λ params. Sequence ctx (calls s kind ∷ last) (reverse params ++ below) (ty ∷ below)) takes
      (reported kind last below (ty ∷ below) (get value ty [] below (ty ∷ below) there (nothing ctx (ty ∷ below))))))))

  abbrev three : List ValType → List ValType
  three below = I32 ∷ I32 ∷ I32 ∷ below

  operands_run : (is : List Instr) (below after : List ValType) → Sequence ctx is (three below) after
      → Sequence ctx (range_operands s ++ is) below after
  operands_run is below after more =
      get (value_local s I64) I64 _ below after (has.value I64 refl)
      (run (Numeric I32_WRAP_I64) _ (I64 ∷ []) (I32 ∷ []) below after refl
      (get (address_local s) I32 _ (I32 ∷ below) after has.address
      (get (value_local s I32) I32 is (I32 ∷ I32 ∷ below) after (has.value I32 refl) more)))

  pub range_runs : (kind : Hook) (below : List ValType) → hook_params kind ≡ I32 ∷ I32 ∷ I32 ∷ []
      → Sequence ctx (reports_range s kind) (three below) (three below)
  range_runs kind below takes =
      set (value_local s I32) I32 _ (I32 ∷ I32 ∷ below) (three below) (has.value I32 refl)
      (set (address_local s) I32 _ (I32 ∷ below) (three below) has.address
      (run (Numeric I64_EXTEND_I32_U) _ (I32 ∷ []) (I64 ∷ []) below (three below) refl
      (set (value_local s I64) I64 _ below (three below) (has.value I64 refl)
      (operands_run (calls s kind ∷ range_operands s) below (three below)
      (subst (λ params. Sequence ctx (calls s kind ∷ range_operands s) (reverse params ++ below) (three below)) takes
      (reported kind (range_operands s) below (three below)
      (operands_run [] below (three below) (nothing ctx (three below)))))))))

  pub index_runs : (kind : Hook) (below : List ValType) → hook_params kind ≡ I32 ∷ []
      → Sequence ctx (reports_index s kind) (I32 ∷ below) (I32 ∷ below)
  index_runs kind below takes =
      let last : List Instr = LocalGet (address_local s) ∷ [] in
      tee (address_local s) I32 (calls s kind ∷ last) below (I32 ∷ below) has.address
      (subst (λ params. Sequence ctx (calls s kind ∷ last) (reverse params ++ below) (I32 ∷ below)) takes
      (reported kind last below (I32 ∷ below)
      (get (address_local s) I32 [] below (I32 ∷ below) has.address (nothing ctx (I32 ∷ below)))))

  -- a call of a hook without parameters
  pub alone_runs : (kind : Hook) (below : List ValType) → hook_params kind ≡ []
      → Sequence ctx (calls s kind ∷ []) below below
  alone_runs kind below takes =
      subst (λ params. Sequence ctx (calls s kind ∷ []) (reverse params ++ below) below) takes
      (reported kind [] below below (nothing ctx below))

  pub after_call_runs : (over : List Instr) (results below : List ValType)
      → ((types : List ValType) → Sequence ctx over types types) → length results ≤ 1
      → ((ty : ValType) → slice_get results 0 ≡ Some ty → IsTrue (is_number ty))
      → Sequence ctx (after_call s over results) (reverse results ++ below) (reverse results ++ below)
  after_call_runs over [] below runs few num = runs below
  after_call_runs over (ty ∷ []) below runs few num =
      let value = value_local s ty in
      let there = has.value ty (num ty refl) in
      set value ty _ below (ty ∷ below) there
      (both ctx (reports_local s ty value) _ below below (ty ∷ below)
      (reports_local_runs ty value below (num ty refl) there)
      (both ctx over (LocalGet value ∷ []) below below (ty ∷ below) (runs below)
      (get value ty [] below (ty ∷ below) there (nothing ctx (ty ∷ below)))))
  after_call_runs over (ty ∷ next ∷ types) below runs few num = absurd (omega (arith, few))

  params_run : (local : ℕ) (types : List ValType)
      → ((place : ℕ) (ty : ValType) → slice_get types place ≡ Some ty
      → IsTrue (is_number ty) × (slice_get ctx.locals (local + place) ≡ Some ty))
      → Sequence ctx (reports_params s local types) [] []
  params_run local [] each = nothing ctx []
  params_run local (ty ∷ types) each =
      let first = each 0 ty refl in
      let at : local + 0 ≡ local = omega arith in
      let there = ap (slice_get ctx.locals) (sym at) ∙ first.1 in
      both ctx (reports_local s ty local) (reports_params s (local + 1) types) [] [] []
      (reports_local_runs ty local [] first.0 there)
      (params_run (local + 1) types (λ place t is.
      let found = each (suc place) t is in
      let e : local + 1 + place ≡ local + suc place = omega arith in
      (found.0, ap (slice_get ctx.locals) e ∙ found.1)))

  pub enter_runs : (params : List ValType) → FitsU32 s.func
      → ((place : ℕ) (ty : ValType) → slice_get params place ≡ Some ty
      → IsTrue (is_number ty) × (slice_get ctx.locals place ≡ Some ty))
      → Sequence ctx (inserted_at_enter s params) [] []
  enter_runs params word each =
      both ctx (reports_params s 0 params) (reports_number s Enter s.func) [] [] []
      (params_run 0 params (λ place ty is.
      let found = each place ty is in
      let e : 0 + place ≡ place = omega arith in (found.0, ap (slice_get ctx.locals) e ∙ found.1)))
      (reports_number_runs Enter s.func [] word refl)
