-- The typing of the functions of a guarded module's own, in contexts that have what they need.
use Rattle.std.proofs.Common.{◌≡◌, ℕ, zero, suc, ◌+◌, ◌^◌, ◌<◌, List, [], ◌∷◌, ◌++◌, map, Some, true, option_and_then, option_map, refl, ap, ◌∙◌, arith}
use Rattle.std.specs.Prelude.{slice_get, cond, drop, None}
use Rattle.std.specs.List.{AllByRecursion}
use Rattle.base.specs.declared.opcodes.TheConstants.{I32_ADD, I32_REM_U, I32_SUB, I32_SHL, I64_NE, I64_XOR, I64_ROTL, I64_MUL, I64_LOAD, I64_EXTEND_I32_U}
use Rattle.wasm_syntax.specs.declared.values.ValType.{ValType}
use Rattle.wasm_syntax.specs.declared.values.ValType.TheVariants.{I32, I64}
use Rattle.wasm_syntax.specs.declared.signatures.GlobalType.{GlobalType}
use Rattle.wasm_syntax.specs.declared.instructions.Instr.{Instr}
use Rattle.wasm_syntax.specs.declared.instructions.Instr.TheVariants.{Unreachable, BrIf, Return, Call, LocalGet, LocalSet, LocalTee, GlobalGet, GlobalSet, Load, MemorySize, Numeric}
use Rattle.wasm_syntax.specs.Nest.{Nest, Empty, Plain, InIf}
use Rattle.wasm_syntax.specs.Typing.{Context, IsTyped, Leaves, Moves, call_of, func_at, has_memory, if_true, inside, set_of}
use Rattle.history_spec.specs.Code.{i32_value}
use Rattle.replay_module_spec.specs.declared.groups.TheConstants.{GROUP_CALLS}
use Rattle.replay_module_spec.specs.Dispatch.{sequence}
use Rattle.replay_module_spec.specs.Effects.{i32_const}
use Rattle.replay_module_spec.specs.Functions.{start_type}
use Rattle.replay_module_laws.proofs.Serving.{constant_typed, led, moved, number_typed}
use Rattle.replay_module_laws.proofs.TypedDispatch.{IsArm, dispatch_typed}
use Rattle.replay_module_laws.proofs.Generated.{counter_type, selects_call}
use Rattle.guarded_module_spec.specs.declared.numbers.Numbers.{Numbers}
use Rattle.guarded_module_spec.specs.declared.words.TheConstants.{DIGEST_FACTOR, DIGEST_ROTATION}
use Rattle.guarded_module_spec.specs.Numbers.{check_place, digest_place, next_place, passed}
use Rattle.guarded_module_spec.specs.Words.{end_word}
use Rattle.guarded_module_spec.specs.Fronts.{check_number, i64_const}
use Rattle.guarded_module_spec.specs.Functions.{check_memory, check_nest, digest_begin, digest_loop, digest_nest, digest_turn, group_nest, start_code, word_arm}
use Rattle.guarded_module_laws.proofs.TypedFronts.{gives_word, takes_word, taken, number_checked, word_typed}

-- ---- instructions in any context

module _ (ctx : Context) where
  -- an i32 is pushed
  pub i32_pushed : (bits : ℕ) (rest : Nest) (below after : List ValType) → bits < 2 ^ 32
      → IsTyped ctx rest (I32 ∷ below) after → IsTyped ctx (Plain (i32_const bits) rest) below after
  i32_pushed bits rest below after small later =
      constant_typed ctx (i32_value bits) below rest after (number_typed bits small) later

  -- an i64 is pushed
  pub i64_pushed : (bits : ℕ) (rest : Nest) (below after : List ValType) → bits < 2 ^ 64
      → IsTyped ctx rest (I64 ∷ below) after
      → IsTyped ctx (sequence (i64_const bits ∷ []) rest) below after
  i64_pushed bits rest below after small later =
      constant_typed ctx (record { ty = I64; bits = bits }) below rest after (word_typed bits small) later

  -- a local of a type is read, and one is written
  pub read : (x : ℕ) (ty : ValType) (rest : Nest) (below after : List ValType) → slice_get ctx.locals x ≡ Some ty
      → IsTyped ctx rest (ty ∷ below) after → IsTyped ctx (Plain (LocalGet x) rest) below after
  read x ty rest below after there later =
      moved ctx (LocalGet x) [] (ty ∷ []) below rest after
      (ap (option_map (λ (t : ValType). Moves [] (t ∷ []))) there) later

  pub written : (x : ℕ) (ty : ValType) (rest : Nest) (below after : List ValType) → slice_get ctx.locals x ≡ Some ty
      → IsTyped ctx rest below after → IsTyped ctx (Plain (LocalSet x) rest) (ty ∷ below) after
  written x ty rest below after there later =
      moved ctx (LocalSet x) (ty ∷ []) [] below rest after
      (ap (option_map (λ (t : ValType). Moves (t ∷ []) [])) there) later

  pub kept : (x : ℕ) (ty : ValType) (rest : Nest) (below after : List ValType) → slice_get ctx.locals x ≡ Some ty
      → IsTyped ctx rest (ty ∷ below) after → IsTyped ctx (Plain (LocalTee x) rest) (ty ∷ below) after
  kept x ty rest below after there later =
      moved ctx (LocalTee x) (ty ∷ []) (ty ∷ []) below rest after
      (ap (option_map (λ (t : ValType). Moves (t ∷ []) (t ∷ []))) there) later

-- ---- the exported function

module _ (ctx : Context) (n : Numbers) (checks : func_at ctx (check_place n) ≡ Some takes_word) where
  end_checked : IsTyped ctx (sequence (check_number n end_word ++ []) Empty) [] []
  end_checked = number_checked ctx n checks end_word [] Empty [] [] (omega arith) refl

  pub start_typed : (entry : ℕ) → func_at ctx entry ≡ Some start_type
      → ((more : ℕ) → n.digests ≡ suc more → (has_memory ctx ≡ true) × (func_at ctx (digest_place n) ≡ Some gives_word))
      → IsTyped ctx (sequence (start_code n entry) Empty) [] []
  start_typed entry has_type memory =
      moved ctx (Call entry) [] [] [] (sequence (check_memory n.digests n ++ check_number n end_word) Empty) []
      (ap (option_map call_of) has_type) (by n.digests memory)
    where
      by : (digests : ℕ)
          → ((more : ℕ) → digests ≡ suc more → (has_memory ctx ≡ true) × (func_at ctx (digest_place n) ≡ Some gives_word))
          → IsTyped ctx
          (sequence (check_memory digests n ++ check_number n end_word) Empty) [] []
      by zero memory = end_checked
      by (suc more) memory =
          let rest = check_number n end_word in
          let there = memory more refl in
          moved ctx MemorySize [] (I32 ∷ []) []
          (sequence (Numeric I64_EXTEND_I32_U ∷ Call (check_place n) ∷ Call (digest_place n) ∷ Call (check_place n) ∷ rest) Empty)
          [] (ap (λ b. if_true b (Moves [] (I32 ∷ []))) there.0)
          (moved ctx (Numeric I64_EXTEND_I32_U) (I32 ∷ []) (I64 ∷ []) []
          (sequence (Call (check_place n) ∷ Call (digest_place n) ∷ Call (check_place n) ∷ rest) Empty) [] refl
          (taken ctx n checks [] (sequence (Call (digest_place n) ∷ Call (check_place n) ∷ rest) Empty) []
          (moved ctx (Call (digest_place n)) [] (I64 ∷ []) []
          (sequence (Call (check_place n) ∷ rest) Empty) [] (ap (option_map call_of) there.1)
          (taken ctx n checks [] (sequence rest Empty) [] end_checked))))

-- ---- the function that compares a word

module _ (ctx : Context) (n : Numbers) (gives : func_at ctx (next_place n) ≡ Some gives_word)
    (word : slice_get ctx.locals 0 ≡ Some I64) (counts : slice_get ctx.globals (passed n) ≡ Some counter_type) where
  pub check_typed : IsTyped ctx (check_nest n) [] []
  check_typed =
      let last = sequence (GlobalGet (passed n) ∷ i32_const 1 ∷ Numeric I32_ADD ∷ GlobalSet (passed n) ∷ []) Empty in
      let branch = InIf None (sequence (Unreachable ∷ []) Empty) last in
      read ctx 0 I64 (sequence (Call (next_place n) ∷ Numeric I64_NE ∷ []) branch) [] [] word
      (moved ctx (Call (next_place n)) [] (I64 ∷ []) (I64 ∷ []) (Plain (Numeric I64_NE) branch) []
      (ap (option_map call_of) gives)
      (moved ctx (Numeric I64_NE) (I64 ∷ I64 ∷ []) (I32 ∷ []) [] branch [] refl (
        [],
        refl,
        refl,
        led (inside [] ctx) Unreachable (Leaves []) Empty [] [] [] refl (record { below = []; had = refl }) refl,
        refl,
        moved ctx (GlobalGet (passed n)) [] (I32 ∷ []) []
            (sequence (i32_const 1 ∷ Numeric I32_ADD ∷ GlobalSet (passed n) ∷ []) Empty) []
            (ap (option_map (λ (g : GlobalType). Moves [] (g.ty ∷ []))) counts)
            (i32_pushed ctx 1 (sequence (Numeric I32_ADD ∷ GlobalSet (passed n) ∷ []) Empty) (I32 ∷ []) [] (omega arith)
            (moved ctx (Numeric I32_ADD) (I32 ∷ I32 ∷ []) (I32 ∷ []) [] (sequence (GlobalSet (passed n) ∷ []) Empty) [] refl
            (moved ctx (GlobalSet (passed n)) (I32 ∷ []) [] [] Empty [] (ap (option_and_then set_of) counts) refl))),
      )))

-- ---- the digest

module _ (ctx : Context) (memory : has_memory ctx ≡ true) (address : slice_get ctx.locals 0 ≡ Some I32)
    (digest : slice_get ctx.locals 1 ≡ Some I64) where
  -- eight bytes are taken into the digest
  turn_typed : (label : Context) → label.locals ≡ ctx.locals → has_memory label ≡ true → (code : List Instr)
      → IsTyped label (sequence code Empty) [] [] → IsTyped label (sequence (digest_turn ++ code) Empty) [] []
  turn_typed label locals has code later =
      let past : ℕ → Nest = λ count. sequence (drop count digest_turn ++ code) Empty in
      let first = ap (λ l. slice_get l 0) locals in
      let second = ap (λ l. slice_get l 1) locals in
      read label 0 I32 (past 1) [] [] (first ∙ address)
      (i32_pushed label 8 (past 2) (I32 ∷ []) [] (omega arith)
      (moved label (Numeric I32_SUB) (I32 ∷ I32 ∷ []) (I32 ∷ []) [] (past 3) [] refl
      (kept label 0 I32 (past 4) [] [] (first ∙ address)
      (moved label (Load (record { op = I64_LOAD; align = 3; offset = 0 })) (I32 ∷ []) (I64 ∷ []) [] (past 5) []
      (ap (λ b. cond b (Some (Moves (I32 ∷ []) (I64 ∷ []))) None) has)
      (read label 1 I64 (past 6) (I64 ∷ []) [] (second ∙ digest)
      (moved label (Numeric I64_XOR) (I64 ∷ I64 ∷ []) (I64 ∷ []) [] (past 7) [] refl
      (i64_pushed label DIGEST_ROTATION (past 8) (I64 ∷ []) [] (omega arith)
      (moved label (Numeric I64_ROTL) (I64 ∷ I64 ∷ []) (I64 ∷ []) [] (past 9) [] refl
      (i64_pushed label DIGEST_FACTOR (past 10) (I64 ∷ []) [] (omega arith)
      (moved label (Numeric I64_MUL) (I64 ∷ I64 ∷ []) (I64 ∷ []) [] (past 11) [] refl
      (written label 1 I64 (sequence code Empty) [] [] (second ∙ digest) later)))))))))))

  pub digest_typed : IsTyped ctx digest_nest [] (I64 ∷ [])
  digest_typed =
      let loop = inside [] (inside [] ctx) in
      let branch : Nest = InIf None digest_loop (Plain (LocalGet 1) Empty) in
      let past : ℕ → Nest = λ count. sequence (drop count digest_begin) branch in
      moved ctx MemorySize [] (I32 ∷ []) [] (past 1) (I64 ∷ []) (ap (λ b. if_true b (Moves [] (I32 ∷ []))) memory)
      (i32_pushed ctx 16 (past 2) (I32 ∷ []) (I64 ∷ []) (omega arith)
      (moved ctx (Numeric I32_SHL) (I32 ∷ I32 ∷ []) (I32 ∷ []) [] (past 3) (I64 ∷ []) refl
      (kept ctx 0 I32 branch [] (I64 ∷ []) address (
        [],
        refl,
        refl,
        (
          refl,
          turn_typed loop refl memory (LocalGet 0 ∷ BrIf 0 ∷ [])
              (read loop 0 I32 (Plain (BrIf 0) Empty) [] [] address (moved loop (BrIf 0) (I32 ∷ []) [] [] Empty [] refl refl)),
          refl,
        ),
        refl,
        read ctx 1 I64 Empty [] (I64 ∷ []) digest refl,
      ))))

-- ---- the words

module _ (ctx : Context) (given : ctx.results ≡ I64 ∷ []) where
  word_arm_typed : (word : ℕ) → word < 2 ^ 64 → IsArm ctx (word_arm word)
  word_arm_typed word small labels after =
      i64_pushed (record ctx { labels = labels }) word (sequence (Return ∷ []) Empty) [] after small
      (led (record ctx { labels = labels }) Return (Leaves (I64 ∷ [])) Empty (I64 ∷ []) after after
      (ap (λ l. Some (Leaves l)) given) (record { below = []; had = refl }) refl)

  word_arms_typed : (words : List ℕ) → AllByRecursion (λ word. word < 2 ^ 64) words
      → AllByRecursion (IsArm ctx) (map word_arm words)
  word_arms_typed [] small = tt
  word_arms_typed (word ∷ words) small = (word_arm_typed word small.0, word_arms_typed words small.1)

  pub group_typed : (words : List ℕ) (after : List ValType) → AllByRecursion (λ word. word < 2 ^ 64) words
      → slice_get ctx.locals 0 ≡ Some I32 → IsTyped ctx (group_nest words) [] after
  group_typed words after small number =
      dispatch_typed ctx (LocalGet 0 ∷ i32_const GROUP_CALLS ∷ Numeric I32_REM_U ∷ []) (map word_arm words) ctx.labels after
      (selects_call ctx (I64 ∷ []) given 0 number) (word_arms_typed words small)
