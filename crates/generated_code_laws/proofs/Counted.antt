-- The function in an import's place counts its call.
use Rattle.std.proofs.Common.{◌≡◌, ℕ, zero, suc, ◌+◌, ◌%◌, ◌^◌, ◌<◌, List, [], ◌∷◌, ◌++◌, length, Some, None, true, false, nat_lt, slice_get, slice_set, slice_index, replicate, refl, sym, ap, ◌∙◌, arith}
use Rattle.std.specs.Prelude.{cond, map}
use Rattle.std.specs.List.{slice_index_or}
use Rattle.std.proofs.lemmas.List.{length-map}
use Rattle.base.proofs.Lists.{get_after_by}
use Rattle.base.specs.declared.opcodes.TheConstants.{I32_ADD}
use Rattle.wasm_syntax.specs.declared.values.Val.{Val}
use Rattle.wasm_syntax.specs.declared.values.ValType.TheVariants.{I32}
use Rattle.wasm_syntax.specs.declared.signatures.GlobalType.{GlobalType}
use Rattle.wasm_syntax.specs.declared.instructions.Instr.TheVariants.{GlobalGet, GlobalSet, LocalTee, Numeric}
use Rattle.wasm_syntax.specs.declared.modules.Module.{Module}
use Rattle.wasm_syntax.specs.Index.{all_globals}
use Rattle.wasm_syntax.specs.Nest.{Nest, Plain}
use Rattle.trace_model.specs.declared.tapes.Effect.TheVariants.{Global}
use Rattle.history_spec.specs.Code.{i32_value, zero_of}
use Rattle.history_spec.specs.Store.{Store, with_global}
use Rattle.history_spec.specs.Configuration.{place, Label, point, at_point}
use Rattle.history_spec.specs.Instruction.{on, gives, takes, with_local}
use Rattle.replay_module_spec.specs.Dispatch.{sequence}
use Rattle.replay_module_spec.specs.Effects.{i32_const}
use Rattle.replay_module_spec.specs.Functions.{count_code}
use Rattle.record_replay_spec.specs.Observations.{ReadsGlobal, on as on_part}
use Rattle.replay_run_spec.specs.Items.{Steps, changes_of}
use Rattle.generated_code_laws.specs.Leads.{Watched, Leads, IsOutside, Standing, standing}
use Rattle.generated_code_laws.proofs.Along.{along}
use Rattle.generated_code_laws.proofs.One.{begins, did}
use Rattle.replay_module_laws.specs.Stores.{counters, with_own}
use Rattle.generated_code_laws.proofs.Sound.{IsSound}

-- ---- counters

set_after : {X : Type 0} (front own : List X) (i j : ℕ) (x : X) → j ≡ length front + i
    → slice_set (front ++ own) j x ≡ front ++ slice_set own i x
set_after [] own i j x e = let same : j ≡ i = omega (arith, e) in ap (λ n. slice_set own n x) same
set_after (y ∷ front) own i zero x e = absurd (omega (arith, e))
set_after (y ∷ front) own i (suc j) x e = ap (λ l. y ∷ l) (set_after front own i j x (omega (arith, e)))

set_mapped : {X Y : Type 0} (f : X → Y) (xs : List X) (i : ℕ) (x : X)
    → slice_set (map f xs) i (f x) ≡ map f (slice_set xs i x)
set_mapped f [] i x = refl
set_mapped f (y ∷ xs) zero x = refl
set_mapped f (y ∷ xs) (suc i) x = ap (λ l. f y ∷ l) (set_mapped f xs i x)

get_mapped : {Y : Type 0} (f : ℕ → Y) (xs : List ℕ) (i : ℕ) → i < length xs
    → slice_get (map f xs) i ≡ Some (f (slice_index xs i))
get_mapped f [] i below = absurd (omega (arith, below))
get_mapped f (x ∷ xs) zero below = refl
get_mapped f (x ∷ xs) (suc i) below = get_mapped f xs i (omega (arith, below))

abbrev counter_value : ℕ → Val
counter_value count = i32_value (count % 2 ^ 32)

abbrev pub counted : List ℕ → (import : ℕ) → List ℕ
counted before import = slice_set before import (slice_index before import + 1)

module _ (m : Module) (store : Store) (sound : IsSound m store) where
  globals_there : length store.globals ≡ length (all_globals m)
  globals_there =
      sym (length-map store.globals (λ (v : Val). v.ty))
      ∙ ap length sound.types ∙ length-map (all_globals m) (λ (g : GlobalType). g.ty)

  -- a counter of the replay module, and the counter after it counts a call
  pub counter_there : (before : List ℕ) (import : ℕ) → import < length before
      → slice_get (store.globals ++ counters before) (length (all_globals m) + import)
      ≡ Some (i32_value (slice_index before import % 2 ^ 32))
  counter_there before import below =
      let e = globals_there in
      get_after_by store.globals (counters before) (length (all_globals m) + import) import (omega (arith, e))
      ∙ get_mapped counter_value before import below

  pub counter_moved : (before : List ℕ) (import held : ℕ) → held ≡ slice_index before import % 2 ^ 32
      → with_global (with_own (counters before) store) (length (all_globals m) + import)
      (i32_value ((held + 1) % 2 ^ 32))
      ≡ with_own (counters (counted before import)) store
  counter_moved before import held is =
      let e = globals_there in
      let c = slice_index before import in
      let next : (held + 1) % 2 ^ 32 ≡ (c + 1) % 2 ^ 32 = omega (arith, is) in
      ap (λ globals. record (with_own (counters before) store) { globals = globals })
      (ap (λ n. slice_set (store.globals ++ counters before) (length (all_globals m) + import) (i32_value n)) next
      ∙ set_after store.globals (counters before) import (length (all_globals m) + import) (counter_value (c + 1))
      (omega (arith, e))
      ∙ ap (λ own. store.globals ++ own) (set_mapped counter_value before import (c + 1)))

-- ---- the code that counts

module _ (w : Watched) (s : Standing) (outside : IsOutside w.layout s.frame.func) (store : Store)
    (counter local held : ℕ) (there : slice_get store.globals counter ≡ Some (i32_value held))
    (own : nat_lt counter w.globals ≡ false) (free : slice_get s.frame.locals local ≡ Some (zero_of I32)) where
  abbrev pub counting : Standing
  counting = record s { frame = with_local s.frame local (i32_value held) }

  abbrev pub moved : Store
  moved = with_global store counter (i32_value ((held + 1) % 2 ^ 32))

  abbrev number : Val
  number = i32_value held

  abbrev sum : Val
  sum = i32_value ((held + 1) % 2 ^ 32)

  pub counts_call : (labels : List Label) (rest : Nest) (at : ℕ) → begins rest ≡ true
      → Leads w (standing s store [] labels (sequence (count_code counter local) rest) at) (replicate 5 (Steps false))
      (standing counting moved [] labels rest (at + 1 + 1 + 1 + 1 + 1))
  counts_call labels rest at goes =
      let fifth = Plain (GlobalSet counter) rest in
      let fourth = Plain (Numeric I32_ADD) fifth in
      let third = Plain (i32_const 1) fourth in
      let second = Plain (LocalTee local) third in
      let first = Plain (GlobalGet counter) second in
      along w _ _ _ (Steps false ∷ []) (replicate 4 (Steps false))
      (did w s outside store store [] (number ∷ []) labels labels first second at (at + 1) s.frame []
      (number ∷ []) None []
      (ap (λ o. on o (λ value. gives store (at_point s.frame (point [] labels first at)) (place second (at + 1)) [] []
      (value ∷ []))) there) refl
      (ap (λ o. changes_of w.globals (on_part o (λ value. ReadsGlobal counter value ∷ []))) there))
      (along w _ _ _ (Steps false ∷ []) (replicate 3 (Steps false))
      (did w s outside store store (number ∷ []) (number ∷ []) labels labels second third (at + 1) (at + 1 + 1)
      counting.frame (number ∷ []) (number ∷ []) None []
      (ap (λ o. on o (λ (old : Val).
      takes (at_point s.frame (point (number ∷ []) labels second (at + 1))) (old.ty ∷ []) (λ operands rest.
      gives store
      (with_local (at_point s.frame (point (number ∷ []) labels second (at + 1))) local
      (slice_index_or operands 0 old)) (place third (at + 1 + 1)) operands rest operands))) free)
      refl refl)
      (along w _ _ _ (Steps false ∷ []) (replicate 2 (Steps false))
      (did w counting outside store store (number ∷ []) (i32_value 1 ∷ number ∷ []) labels labels third fourth
      (at + 1 + 1) (at + 1 + 1 + 1) counting.frame [] (i32_value 1 ∷ []) None [] refl refl refl)
      (along w _ _ _ (Steps false ∷ []) (replicate 1 (Steps false))
      (did w counting outside store store (i32_value 1 ∷ number ∷ []) (sum ∷ []) labels labels fourth fifth
      (at + 1 + 1 + 1) (at + 1 + 1 + 1 + 1) counting.frame (number ∷ i32_value 1 ∷ [])
      (sum ∷ []) None [] refl refl refl)
      (did w counting outside store moved (sum ∷ []) [] labels labels fifth rest (at + 1 + 1 + 1 + 1)
      (at + 1 + 1 + 1 + 1 + 1) counting.frame (sum ∷ []) [] None []
      (ap (λ o. on o (λ (old : Val).
      takes (at_point counting.frame (point (sum ∷ []) labels fifth (at + 1 + 1 + 1 + 1))) (old.ty ∷ [])
      (λ operands rest'.
      gives (with_global store counter (slice_index_or operands 0 old))
      (at_point counting.frame (point (sum ∷ []) labels fifth (at + 1 + 1 + 1 + 1)))
      (place rest (at + 1 + 1 + 1 + 1 + 1))
      operands rest' []))) there)
      goes
      (ap (λ b. cond b (Global counter sum ∷ []) [] ++ []) own)))))
