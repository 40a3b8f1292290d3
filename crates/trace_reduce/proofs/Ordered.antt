-- The effects made of first finds are in the order of a tape, and none has zero bytes.
use Rattle.std.proofs.Common.{◌≡◌, ℕ, suc, ◌+◌, ◌≤◌, List, [], ◌∷◌, ◌++◌, length, map, Option, Some, None, Bool, true, false, cond, nat_eq, nat_lt, refl, ap, ◌∙◌, subst, arith}
use Rattle.std.specs.List.{list_all}
use Rattle.std.proofs.lemmas.Bool.Decides.{nat_tests}
use Rattle.std.proofs.lemmas.List.{length-append}
use Rattle.base.proofs.Booleans.{and_true}
use Rattle.wasm_syntax.specs.declared.values.Val.{Val}
use Rattle.trace_model.specs.declared.tapes.Effect.{Effect}
use Rattle.trace_model.specs.declared.tapes.Effect.TheVariants.{Grow, Table, Bytes, Entry, Global}
use Rattle.trace_model.specs.Effects.{is_before, are_ordered, are_ordered_after}
use Rattle.record_replay_spec.specs.Needed.{has_bytes}
use Rattle.record_replay_spec.proofs.OneList.{ordered_rest}
use Rattle.trace_reduce.specs.Runs.{runs_from, entry_effect, global_effect, size_effects}
use Rattle.trace_reduce.proofs.Bytes.{Ascend}

-- the effect may come before whatever comes after bytes
record IsBeforeRest (effect : Effect) (low : ℕ) : Type 0 where
  entry : (k : ℕ) (func : Option ℕ) → low ≤ k → is_before effect (Entry k func) ≡ true
  global : (k : ℕ) (value : Val) → is_before effect (Global k value) ≡ true

globals_ordered : (effect : Effect) (low : ℕ) (globals : List (ℕ × Val))
    → ((k : ℕ) (value : Val) → low ≤ k → is_before effect (Global k value) ≡ true) → Ascend low globals
    → are_ordered_after effect (map global_effect globals) ≡ true
globals_ordered effect low [] before h = refl
globals_ordered effect low (global ∷ globals) before h =
    and_true (is_before effect (global_effect global))
    (are_ordered_after (global_effect global) (map global_effect globals)) (before global.0 global.1 h.0)
    (globals_ordered (global_effect global) (suc global.0) globals (λ k value from. grind (arith, nat_tests, from)) h.1)

entries_ordered : (effect : Effect) (low : ℕ) (entries : List (ℕ × Option ℕ)) (globals : List (ℕ × Val))
    → IsBeforeRest effect low → Ascend low entries → Ascend 0 globals
    → are_ordered_after effect (map entry_effect entries ++ map global_effect globals) ≡ true
entries_ordered effect low [] globals before h g =
    globals_ordered effect 0 globals (λ k value from. before.global k value) g
entries_ordered effect low (entry ∷ entries) globals before h g =
    and_true (is_before effect (entry_effect entry))
    (are_ordered_after (entry_effect entry) (map entry_effect entries ++ map global_effect globals))
    (before.entry entry.0 entry.1 h.0)
    (entries_ordered (entry_effect entry) (suc entry.0) entries globals
    (record { entry = λ k func from. grind (arith, nat_tests, from); global = λ k value. refl })
    h.1 g)

-- runs of bytes, and after them effects that may come after any bytes
runs_ordered : (effect : Effect) (start first : ℕ) (more : List ℕ) (bytes : List (ℕ × ℕ)) (rest : List Effect)
    → ((run : List ℕ) → is_before effect (Bytes start run) ≡ true)
    → ((at : ℕ) (run : List ℕ) → are_ordered_after (Bytes at run) rest ≡ true)
    → Ascend (start + suc (length more)) bytes
    → are_ordered_after effect (runs_from start (first ∷ more) bytes ++ rest) ≡ true
runs_ordered effect start first more [] rest before after h =
    and_true (is_before effect (Bytes start (first ∷ more))) (are_ordered_after (Bytes start (first ∷ more)) rest)
    (before (first ∷ more)) (after start (first ∷ more))
runs_ordered effect start first more (byte ∷ bytes) rest before after h =
    go (nat_eq (start + suc (length more)) byte.0) refl
    (λ low. runs_ordered effect start first (more ++ byte.1 ∷ []) bytes rest before after low)
    (λ past low. runs_ordered (Bytes start (first ∷ more)) byte.0 byte.1 [] bytes rest (λ run. past) after low)
  where
    go : (b : Bool) → nat_eq (start + suc (length more)) byte.0 ≡ b
        → (Ascend (start + suc (length (more ++ byte.1 ∷ []))) bytes
        → are_ordered_after effect (runs_from start (first ∷ (more ++ byte.1 ∷ [])) bytes ++ rest) ≡ true)
        → (nat_lt (start + suc (length more)) byte.0 ≡ true → Ascend (byte.0 + 1) bytes
        → are_ordered_after (Bytes start (first ∷ more)) (runs_from byte.0 (byte.1 ∷ []) bytes ++ rest) ≡ true)
        → are_ordered_after effect
        (cond b (runs_from start (first ∷ (more ++ byte.1 ∷ [])) bytes)
        (Bytes start (first ∷ more) ∷ runs_from byte.0 (byte.1 ∷ []) bytes) ++ rest)
        ≡ true
    go true same joined apart =
        let e : suc byte.0 ≡ start + suc (length (more ++ byte.1 ∷ [])) =
        grind (arith, nat_tests, same, length-append more (byte.1 ∷ [])) in
        joined (subst (λ low. Ascend low bytes) e h.1)
    go false other joined apart =
        let e : suc byte.0 ≡ byte.0 + 1 = omega arith in
        let from : start + suc (length more) ≤ byte.0 = h.0 in
        let past : nat_lt (start + suc (length more)) byte.0 ≡ true = grind (arith, nat_tests, from, other) in
        and_true (is_before effect (Bytes start (first ∷ more)))
        (are_ordered_after (Bytes start (first ∷ more)) (runs_from byte.0 (byte.1 ∷ []) bytes ++ rest))
        (before (first ∷ more)) (apart past (subst (λ low. Ascend low bytes) e h.1))

-- runs that begin with the first byte
pub runs_begin : (byte : ℕ × ℕ) (bytes : List (ℕ × ℕ))
    → runs_from 0 [] (byte ∷ bytes) ≡ runs_from byte.0 (byte.1 ∷ []) bytes
runs_begin byte bytes = go (nat_eq 0 byte.0) refl
  where
    go : (b : Bool) → nat_eq 0 byte.0 ≡ b
        → cond b (runs_from 0 (byte.1 ∷ []) bytes) (runs_from byte.0 (byte.1 ∷ []) bytes)
        ≡ runs_from byte.0 (byte.1 ∷ []) bytes
    go true same =
        let e : 0 ≡ byte.0 = grind (arith, nat_tests, same) in
        ap (λ start. runs_from start (byte.1 ∷ []) bytes) e
    go false apart = refl

module _ (bytes : List (ℕ × ℕ)) (entries : List (ℕ × Option ℕ)) (globals : List (ℕ × Val)) where
  abbrev behind : List Effect
  behind = map entry_effect entries ++ map global_effect globals

  module _ (b : Ascend 0 bytes) (e : Ascend 0 entries) (g : Ascend 0 globals) where
    any_bytes : (at : ℕ) (run : List ℕ) → are_ordered_after (Bytes at run) behind ≡ true
    any_bytes at run =
        entries_ordered (Bytes at run) 0 entries globals
        (record { entry = λ k func from. refl; global = λ k value. refl }) e g

    -- all effects but the sizes, after an effect that may come before each of them
    all_behind : (effect : Effect) → ((at : ℕ) (run : List ℕ) → is_before effect (Bytes at run) ≡ true)
        → IsBeforeRest effect 0
        → are_ordered_after effect (runs_from 0 [] bytes ++ behind) ≡ true
    all_behind effect before rest = go bytes b
      where
        go : (bytes : List (ℕ × ℕ)) → Ascend 0 bytes
            → are_ordered_after effect (runs_from 0 [] bytes ++ behind) ≡ true
        go [] b = entries_ordered effect 0 entries globals rest e g
        go (byte ∷ bytes) b =
            let e : suc byte.0 ≡ byte.0 + 1 = omega arith in
            ap (λ runs. are_ordered_after effect (runs ++ behind)) (runs_begin byte bytes)
            ∙ runs_ordered effect byte.0 byte.1 [] bytes behind (before byte.0) any_bytes
            (subst (λ low. Ascend low bytes) e b.1)

    behind_growth : (pages : ℕ) → are_ordered_after (Grow pages) (runs_from 0 [] bytes ++ behind) ≡ true
    behind_growth pages =
        all_behind (Grow pages) (λ at run. refl)
        (record { entry = λ k func from. refl; global = λ k value. refl })

    behind_table : (size : ℕ) → are_ordered_after (Table size) (runs_from 0 [] bytes ++ behind) ≡ true
    behind_table size =
        all_behind (Table size) (λ at run. refl)
        (record { entry = λ k func from. refl; global = λ k value. refl })

    pub all_ordered : (pages size : Option ℕ)
        → are_ordered (size_effects Grow pages ++ (size_effects Table size ++ (runs_from 0 [] bytes ++ behind)))
        ≡ true
    all_ordered None None = ordered_rest (Grow 0) (runs_from 0 [] bytes ++ behind) (behind_growth 0)
    all_ordered (Some pages) None = behind_growth pages
    all_ordered None (Some size) = behind_table size
    all_ordered (Some pages) (Some size) = behind_table size

-- ---- no effect has zero bytes

runs_have : (start first : ℕ) (more : List ℕ) (bytes : List (ℕ × ℕ)) (rest : List Effect)
    → list_all has_bytes rest ≡ true → list_all has_bytes (runs_from start (first ∷ more) bytes ++ rest) ≡ true
runs_have start first more [] rest h = h
runs_have start first more (byte ∷ bytes) rest h =
    go (nat_eq (start + suc (length more)) byte.0) (runs_have start first (more ++ byte.1 ∷ []) bytes rest h)
    (runs_have byte.0 byte.1 [] bytes rest h)
  where
    go : (b : Bool) → list_all has_bytes (runs_from start (first ∷ (more ++ byte.1 ∷ [])) bytes ++ rest) ≡ true
        → list_all has_bytes (runs_from byte.0 (byte.1 ∷ []) bytes ++ rest) ≡ true
        → list_all has_bytes
        (cond b (runs_from start (first ∷ (more ++ byte.1 ∷ [])) bytes)
        (Bytes start (first ∷ more) ∷ runs_from byte.0 (byte.1 ∷ []) bytes) ++ rest)
        ≡ true
    go true joined apart = joined
    go false joined apart = apart

entries_have : (entries : List (ℕ × Option ℕ)) (rest : List Effect) → list_all has_bytes rest ≡ true
    → list_all has_bytes (map entry_effect entries ++ rest) ≡ true
entries_have [] rest h = h
entries_have (entry ∷ entries) rest h = entries_have entries rest h

globals_have : (globals : List (ℕ × Val)) → list_all has_bytes (map global_effect globals) ≡ true
globals_have [] = refl
globals_have (global ∷ globals) = globals_have globals

pub all_have : (pages size : Option ℕ) (bytes : List (ℕ × ℕ)) (entries : List (ℕ × Option ℕ))
    (globals : List (ℕ × Val))
    → list_all has_bytes
    (size_effects Grow pages
    ++ (size_effects Table size
    ++ (runs_from 0 [] bytes ++ (map entry_effect entries ++ map global_effect globals))))
    ≡ true
all_have pages size bytes entries globals = sizes pages size
  where
    rest : list_all has_bytes (map entry_effect entries ++ map global_effect globals) ≡ true
    rest = entries_have entries (map global_effect globals) (globals_have globals)

    runs : (bytes : List (ℕ × ℕ))
        → list_all has_bytes (runs_from 0 [] bytes ++ (map entry_effect entries ++ map global_effect globals)) ≡ true
    runs [] = rest
    runs (byte ∷ bytes) =
        ap (λ runs. list_all has_bytes (runs ++ (map entry_effect entries ++ map global_effect globals)))
        (runs_begin byte bytes)
        ∙ runs_have byte.0 byte.1 [] bytes (map entry_effect entries ++ map global_effect globals) rest

    sizes : (pages size : Option ℕ)
        → list_all has_bytes
        (size_effects Grow pages
        ++ (size_effects Table size
        ++ (runs_from 0 [] bytes ++ (map entry_effect entries ++ map global_effect globals))))
        ≡ true
    sizes None None = runs bytes
    sizes (Some pages) None = runs bytes
    sizes None (Some size) = runs bytes
    sizes (Some pages) (Some size) = runs bytes
