-- The typing of the code of effects.
use Rattle.std.proofs.Common.{◌≡◌, ℕ, zero, suc, ◌+◌, ◌*◌, ◌^◌, ◌<◌, ◌≤◌, List, [], ◌∷◌, ◌++◌, length, Option, Some, None, true, cond, refl, sym, ap, ◌∙◌, subst, arith}
use Rattle.std.specs.Prelude.{◌&&◌, drop, nat_le, nat_lt, option_and_then, slice_get, take}
use Rattle.std.specs.List.{AllByRecursion, list_all}
use Rattle.std.proofs.Math.Nat.{pow-suc}
use Rattle.std.proofs.lemmas.Bool.Decides.{nat_tests}
use Rattle.std.proofs.lemmas.List.{append_assoc}
use Rattle.base.proofs.Booleans.{and_parts}
use Rattle.base.specs.declared.opcodes.TheConstants.{I32_SUB}
use Rattle.wasm_syntax.specs.declared.limits.TheConstants.{MAX_ENTRIES, MAX_PAGES, PAGE_SIZE}
use Rattle.wasm_syntax.specs.declared.values.Val.{Val}
use Rattle.wasm_syntax.specs.declared.values.ValType.{ValType}
use Rattle.wasm_syntax.specs.declared.values.ValType.TheVariants.{I32, I64, FuncRef}
use Rattle.wasm_syntax.specs.declared.signatures.GlobalType.{GlobalType}
use Rattle.wasm_syntax.specs.declared.signatures.Limits.{Limits}
use Rattle.wasm_syntax.specs.declared.instructions.Instr.{Instr}
use Rattle.wasm_syntax.specs.declared.instructions.Instr.TheVariants.{Const, Drop, GlobalSet, MemoryGrow, MemorySize, Numeric, RefFunc, RefNull, Store, TableGrow, TableSet, TableSize}
use Rattle.wasm_syntax.specs.declared.modules.Module.{Module}
use Rattle.wasm_syntax.specs.Nest.{Nest, Plain}
use Rattle.wasm_syntax.specs.Alike.{same_type}
use Rattle.wasm_syntax.specs.Index.{all_globals, all_memories, all_tables}
use Rattle.wasm_syntax.specs.Typing.{Context, IsTyped, Moves, has_memory, if_true, instr_type, is_constant, set_of}
use Rattle.wasm_syntax.proofs.ValTypes.{types_same}
use Rattle.trace_model.specs.declared.tapes.Effect.{Effect}
use Rattle.trace_model.specs.declared.tapes.Effect.TheVariants.{Grow, Table, Bytes, Entry, Global}
use Rattle.trace_model.specs.Fitting.{effect_fits, grows_within, is_within, names_function, takes_value}
use Rattle.history_spec.specs.Code.{i32_value}
use Rattle.history_spec.specs.Store.{number_of}
use Rattle.replay_module_spec.specs.Dispatch.{sequence}
use Rattle.replay_module_spec.specs.Effects.{Width, Eight, Four, Two, One, byte_count, effect_code, i32_const, reference_code, store_opcode, store_type, store_widths, stores_code}
use Rattle.replay_module_spec.specs.Segments.{effects_code}
use Rattle.replay_module_spec.proofs.Widths.{counts_of, counts_of_all}
use Rattle.replay_module_laws.specs.Written.{IsConstantEffect}
use Rattle.replay_module_laws.proofs.Serving.{Serves, constant_typed, dropped, moved, number_typed}

-- ---- effects that fit

pub memory_there : (limit size : ℕ) (memories : List Limits) → grows_within limit size (slice_get memories 0) ≡ true
    → (0 < length memories) × (size ≤ limit)
memory_there limit size [] h = absurd (cc h)
memory_there limit size (own ∷ more) h = (omega arith, within own.max h)
  where
    within : (max : Option ℕ) → is_within limit size max ≡ true → size ≤ limit
    within None h = grind (arith, nat_tests, h)
    within (Some max) h =
        let p = (and_parts (nat_le size limit) (nat_le size max) h).0 in grind (arith, nat_tests, p)

pub taken_type : (ty : ValType) (o : Option GlobalType) → takes_value ty o ≡ true
    → (g : GlobalType) × (o ≡ Some g) × (g.mutable ≡ true) × (g.ty ≡ ty)
taken_type ty None h = absurd (cc h)
taken_type ty (Some g) h =
    let p = and_parts g.mutable (same_type ty g.ty) h in
    let same = types_same (ty ∷ []) (g.ty ∷ []) (ap (λ b. b && true) p.1) in
    let own : g.ty ≡ ty = cc in
    (g, refl, p.0, own)

-- ---- widths

pub number_small : (width : ℕ) (bytes : List ℕ) → AllByRecursion (λ byte. byte < 256) bytes
    → number_of (take width bytes) < 256 ^ width
number_small zero bytes are = omega arith
number_small (suc width) [] are = let later = number_small width [] tt in omega (arith, pow-suc 256 width, later)
number_small (suc width) (byte ∷ bytes) are =
    let first = are.0 in
    let later = number_small width bytes are.1 in
    omega (arith, pow-suc 256 width, first, later)

pub width_typed : (width : Width) (number : ℕ) → number < 256 ^ byte_count width
    → is_constant (record { ty = store_type width; bits = number }) ≡ true
width_typed Eight number small = grind (arith, nat_tests, small)
width_typed Four number small = grind (arith, nat_tests, small)
width_typed Two number small = grind (arith, nat_tests, small)
width_typed One number small = grind (arith, nat_tests, small)

pub rest_small : (count : ℕ) (bytes : List ℕ) → AllByRecursion (λ byte. byte < 256) bytes
    → AllByRecursion (λ byte. byte < 256) (drop count bytes)
rest_small zero bytes are = are
rest_small (suc count) [] are = are
rest_small (suc count) (byte ∷ bytes) are = rest_small count bytes are.1

pub some_bytes : (width : Width) → 0 < byte_count width
some_bytes Eight = omega arith
some_bytes Four = omega arith
some_bytes Two = omega arith
some_bytes One = omega arith

module _ (m : Module) (ctx : Context) (serves : Serves m ctx) where
  store_is : (width : Width) → has_memory ctx ≡ true
      → instr_type ctx (Store (record { op = store_opcode width; align = 0; offset = 0 }))
      ≡ Some (Moves (store_type width ∷ I32 ∷ []) [])
  store_is Eight there = ap (λ b. cond b (Some (Moves (I64 ∷ I32 ∷ []) [])) None) there
  store_is Four there = ap (λ b. cond b (Some (Moves (I32 ∷ I32 ∷ []) [])) None) there
  store_is Two there = ap (λ b. cond b (Some (Moves (I32 ∷ I32 ∷ []) [])) None) there
  store_is One there = ap (λ b. cond b (Some (Moves (I32 ∷ I32 ∷ []) [])) None) there

  stores_typed : (widths : List Width) (address : ℕ) (bytes : List ℕ) (code : List Instr) (rest : Nest)
      (before after : List ValType) → has_memory ctx ≡ true → address + counts_of widths ≤ 2 ^ 32
      → AllByRecursion (λ byte. byte < 256) bytes → IsTyped ctx (sequence code rest) before after
      → IsTyped ctx (sequence (stores_code widths address bytes ++ code) rest) before after
  stores_typed [] address bytes code rest before after there small are later = later
  stores_typed (width ∷ widths) address bytes code rest before after there small are later =
      let some = some_bytes width in
      let number = number_of (take (byte_count width) bytes) in
      let value : Val = record { ty = store_type width; bits = number } in
      let others =
      stores_code widths (address + byte_count width) (drop (byte_count width) bytes) ++ code in
      let tail =
      stores_typed widths (address + byte_count width) (drop (byte_count width) bytes) code rest before after there
      (omega (arith, small)) (rest_small (byte_count width) bytes are) later in
      constant_typed ctx (i32_value address) before
      (Plain (Const value)
      (Plain (Store (record { op = store_opcode width; align = 0; offset = 0 })) (sequence others rest))) after
      (number_typed address (omega (arith, small, some)))
      (constant_typed ctx value (I32 ∷ before)
      (Plain (Store (record { op = store_opcode width; align = 0; offset = 0 })) (sequence others rest)) after
      (width_typed width number (number_small (byte_count width) bytes are))
      (moved ctx (Store (record { op = store_opcode width; align = 0; offset = 0 })) (store_type width ∷ I32 ∷ []) []
      before (sequence others rest) after (store_is width there) tail))

  reference_typed : (func : Option ℕ) (below : List ValType) (rest : Nest) (after : List ValType)
      → names_function m func ≡ true → IsTyped ctx rest (FuncRef ∷ below) after
      → IsTyped ctx (Plain (reference_code func) rest) below after
  reference_typed None below rest after named later = moved ctx RefNull [] (FuncRef ∷ []) below rest after refl later
  reference_typed (Some func) below rest after named later =
      moved ctx (RefFunc func) [] (FuncRef ∷ []) below rest after
      (ap (λ b. if_true b (Moves [] (FuncRef ∷ []))) (serves.declared func (grind (arith, nat_tests, named)))) later

  effect_typed : (effect : Effect) (code : List Instr) (rest : Nest) (before after : List ValType)
      → effect_fits m effect ≡ true → IsConstantEffect effect → IsTyped ctx (sequence code rest) before after
      → IsTyped ctx (sequence (effect_code effect ++ code) rest) before after
  effect_typed (Grow pages) code rest before after fits are later =
      let there = memory_there MAX_PAGES pages (all_memories m) fits in
      let small = there.1 in
      let has = serves.memory there.0 in
      constant_typed ctx (i32_value pages) before (sequence (MemorySize ∷ Numeric I32_SUB ∷ MemoryGrow ∷ Drop ∷ code) rest) after
      (number_typed pages (omega (arith, small)))
      (moved ctx MemorySize [] (I32 ∷ []) (I32 ∷ before) (sequence (Numeric I32_SUB ∷ MemoryGrow ∷ Drop ∷ code) rest) after
      (ap (λ b. if_true b (Moves [] (I32 ∷ []))) has)
      (moved ctx (Numeric I32_SUB) (I32 ∷ I32 ∷ []) (I32 ∷ []) before (sequence (MemoryGrow ∷ Drop ∷ code) rest) after refl
      (moved ctx MemoryGrow (I32 ∷ []) (I32 ∷ []) before (sequence (Drop ∷ code) rest) after
      (ap (λ b. if_true b (Moves (I32 ∷ []) (I32 ∷ []))) has)
      (dropped ctx I32 before (sequence code rest) after later))))
  effect_typed (Table size) code rest before after fits are later =
      let there = memory_there MAX_ENTRIES size (all_tables m) fits in
      let small = there.1 in
      let has = serves.table there.0 in
      moved ctx RefNull [] (FuncRef ∷ []) before (sequence (i32_const size ∷ TableSize 0 ∷ Numeric I32_SUB ∷ TableGrow 0 ∷ Drop ∷ code) rest)
      after refl
      (constant_typed ctx (i32_value size) (FuncRef ∷ before) (sequence (TableSize 0 ∷ Numeric I32_SUB ∷ TableGrow 0 ∷ Drop ∷ code) rest)
      after (number_typed size (omega (arith, small)))
      (moved ctx (TableSize 0) [] (I32 ∷ []) (I32 ∷ FuncRef ∷ before) (sequence (Numeric I32_SUB ∷ TableGrow 0 ∷ Drop ∷ code) rest) after
      (ap (λ b. if_true b (Moves [] (I32 ∷ []))) has)
      (moved ctx (Numeric I32_SUB) (I32 ∷ I32 ∷ []) (I32 ∷ []) (FuncRef ∷ before) (sequence (TableGrow 0 ∷ Drop ∷ code) rest) after
      refl
      (moved ctx (TableGrow 0) (I32 ∷ FuncRef ∷ []) (I32 ∷ []) before (sequence (Drop ∷ code) rest) after
      (ap (λ b. if_true b (Moves (I32 ∷ FuncRef ∷ []) (I32 ∷ []))) has)
      (dropped ctx I32 before (sequence code rest) after later)))))
  effect_typed (Bytes addr bytes) code rest before after fits are later =
      let p =
      and_parts (nat_lt 0 (length (all_memories m))) (nat_le (addr + length bytes) (MAX_PAGES * PAGE_SIZE)) fits in
      let first = p.0 in
      let second = p.1 in
      let there : 0 < length (all_memories m) = grind (arith, nat_tests, first) in
      let within : addr + length bytes ≤ MAX_PAGES * PAGE_SIZE = grind (arith, nat_tests, second) in
      let all = counts_of_all (length bytes) in
      stores_typed (store_widths (length bytes)) addr bytes code rest before after (serves.memory there)
      (omega (arith, within, all)) are later
  effect_typed (Entry index func) code rest before after fits are later =
      let p = and_parts (nat_lt 0 (length (all_tables m))) (names_function m func) fits in
      let first = p.0 in
      let has = serves.table (grind (arith, nat_tests, first)) in
      constant_typed ctx (i32_value index) before (sequence (reference_code func ∷ TableSet 0 ∷ code) rest) after
      (number_typed index are)
      (reference_typed func (I32 ∷ before) (sequence (TableSet 0 ∷ code) rest) after p.1
      (moved ctx (TableSet 0) (FuncRef ∷ I32 ∷ []) [] before (sequence code rest) after
      (ap (λ b. if_true b (Moves (FuncRef ∷ I32 ∷ []) [])) has) later))
  effect_typed (Global global value) code rest before after fits are later =
      let t = taken_type value.ty (slice_get (all_globals m) global) fits in
      constant_typed ctx value before (sequence (GlobalSet global ∷ code) rest) after are
      (moved ctx (GlobalSet global) (value.ty ∷ []) [] before (sequence code rest) after
      (ap (option_and_then set_of) (serves.globals global t.0 t.1)
      ∙ ap (λ b. if_true b (Moves (t.0.ty ∷ []) [])) t.2 ∙ ap (λ ty. Some (Moves (ty ∷ []) [])) t.3) later)

  pub effects_typed : (effects : List Effect) (code : List Instr) (rest : Nest) (before after : List ValType)
      → list_all (effect_fits m) effects ≡ true → AllByRecursion IsConstantEffect effects
      → IsTyped ctx (sequence code rest) before after
      → IsTyped ctx (sequence (effects_code effects ++ code) rest) before after
  effects_typed [] code rest before after fits are later = later
  effects_typed (effect ∷ effects) code rest before after fits are later =
      let p = and_parts (effect_fits m effect) (list_all (effect_fits m) effects) fits in
      subst (λ l. IsTyped ctx (sequence l rest) before after)
      (sym (append_assoc (effect_code effect) (effects_code effects) code))
      (effect_typed effect (effects_code effects ++ code) rest before after p.0 are.0
      (effects_typed effects code rest before after p.1 are.1 later))
