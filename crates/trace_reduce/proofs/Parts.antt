-- What the effects made of the first finds give, kind by kind.
use Rattle.std.proofs.Common.{◌≡◌, ℕ, suc, ◌+◌, ◌≤◌, ◌<◌, List, [], ◌∷◌, ◌++◌, length, map, Option, Some, None, Bool, true, false, cond, nat_eq, nat_le, option_map, refl, sym, ap, ◌∙◌, subst, arith}
use Rattle.std.specs.Option.{option_or}
use Rattle.std.proofs.lemmas.Bool.Decides.{nat_tests}
use Rattle.std.proofs.lemmas.List.{length-append}
use Rattle.base.proofs.Options.{or_none, or_assoc}
use Rattle.base.proofs.Booleans.{same_either}
use Rattle.wasm_syntax.specs.declared.values.Val.{Val}
use Rattle.trace_model.specs.declared.tapes.Effect.{Effect}
use Rattle.trace_model.specs.declared.tapes.Effect.TheVariants.{Bytes, Entry, Global}
use Rattle.record_replay_spec.specs.Known.{byte_among, last_some}
use Rattle.record_replay_spec.specs.Needed.{effect_byte}
use Rattle.trace_reduce.specs.Runs.{run_effects, runs_from, entry_effect, global_effect, size_effects}
use Rattle.trace_reduce.proofs.Bytes.{at_key, Ascend, none_below, lone, byte_snoc}
use Rattle.trace_reduce.proofs.Ordered.{runs_begin}
use Rattle.trace_reduce.proofs.Groups.{among_past}

pub last_append : {A X : Type 0} (part : A → Option X) (xs ys : List A)
    → last_some part (xs ++ ys) ≡ option_or (last_some part ys) (last_some part xs)
last_append part [] ys = sym (or_none (last_some part ys))
last_append part (x ∷ xs) ys =
    ap (λ o. option_or o (part x)) (last_append part xs ys)
    ∙ or_assoc (last_some part ys) (last_some part xs) (part x)

-- ---- no result if no effect of a kind gives one

pub entries_none : {X : Type 0} (part : Effect → Option X)
    → ((k : ℕ) (func : Option ℕ) → part (Entry k func) ≡ None) → (entries : List (ℕ × Option ℕ))
    → last_some part (map entry_effect entries) ≡ None
entries_none part none [] = refl
entries_none part none (entry ∷ entries) =
    ap (λ o. option_or o (part (entry_effect entry))) (entries_none part none entries) ∙ none entry.0 entry.1

pub globals_none : {X : Type 0} (part : Effect → Option X)
    → ((k : ℕ) (value : Val) → part (Global k value) ≡ None) → (globals : List (ℕ × Val))
    → last_some part (map global_effect globals) ≡ None
globals_none part none [] = refl
globals_none part none (global ∷ globals) =
    ap (λ o. option_or o (part (global_effect global))) (globals_none part none globals) ∙ none global.0 global.1

pub sizes_none : {X : Type 0} (part : Effect → Option X) (effect : ℕ → Effect)
    → ((size : ℕ) → part (effect size) ≡ None) → (size : Option ℕ)
    → last_some part (size_effects effect size) ≡ None
sizes_none part effect none None = refl
sizes_none part effect none (Some size) = none size

run_none : {X : Type 0} (part : Effect → Option X) → ((at : ℕ) (run : List ℕ) → part (Bytes at run) ≡ None)
    → (start : ℕ) (run : List ℕ) → last_some part (run_effects start run) ≡ None
run_none part none start [] = refl
run_none part none start (first ∷ more) = none start (first ∷ more)

pub runs_none : {X : Type 0} (part : Effect → Option X) → ((at : ℕ) (run : List ℕ) → part (Bytes at run) ≡ None)
    → (start : ℕ) (run : List ℕ) (bytes : List (ℕ × ℕ)) → last_some part (runs_from start run bytes) ≡ None
runs_none part none start run [] = run_none part none start run
runs_none part none start run (byte ∷ bytes) =
    by_test (nat_eq (start + length run) byte.0) (runs_none part none start (run ++ byte.1 ∷ []) bytes)
    (runs_none part none byte.0 (byte.1 ∷ []) bytes)
  where
    by_test : (b : Bool) → last_some part (runs_from start (run ++ byte.1 ∷ []) bytes) ≡ None
        → last_some part (runs_from byte.0 (byte.1 ∷ []) bytes) ≡ None
        → last_some part
        (cond b (runs_from start (run ++ byte.1 ∷ []) bytes)
        (run_effects start run ++ runs_from byte.0 (byte.1 ∷ []) bytes))
        ≡ None
    by_test true joined apart = joined
    by_test false joined apart =
        last_append part (run_effects start run) (runs_from byte.0 (byte.1 ∷ []) bytes)
        ∙ ap (λ o. option_or o (last_some part (run_effects start run))) apart
        ∙ run_none part none start run

-- ---- by keys

-- effects of one kind give what the list has at the key
pub keyed : {X Y : Type 0} (make : ℕ × X → Effect) (part : Effect → Option Y) (wrap : X → Y) (at : ℕ)
    → ((k : ℕ) (value : X) → part (make (k, value)) ≡ cond (nat_eq k at) (Some (wrap value)) None)
    → (low : ℕ) (entries : List (ℕ × X)) → Ascend low entries
    → last_some part (map make entries) ≡ option_map wrap (at_key entries at)
keyed make part wrap at gives low [] h = refl
keyed make part wrap at gives low (entry ∷ entries) h =
    go (nat_eq entry.0 at) refl (keyed make part wrap at gives (suc entry.0) entries h.1)
  where
    go : (b : Bool) → nat_eq entry.0 at ≡ b
        → last_some part (map make entries) ≡ option_map wrap (at_key entries at)
        → option_or (last_some part (map make entries)) (part (make entry))
        ≡ option_map wrap (cond (nat_eq entry.0 at) (Some entry.1) (at_key entries at))
    go true same rest =
        let less : at < suc entry.0 = grind (arith, nat_tests, same) in
        ap (λ o. option_or o (part (make entry)))
        (rest ∙ ap (option_map wrap) (none_below (suc entry.0) entries at h.1 less))
        ∙ gives entry.0 entry.1
        ∙ ap (λ b. cond b (Some (wrap entry.1)) None) same
        ∙ sym (ap (λ b. option_map wrap (cond b (Some entry.1) (at_key entries at))) same)
    go false apart rest =
        ap (option_or (last_some part (map make entries)))
        (gives entry.0 entry.1 ∙ ap (λ b. cond b (Some (wrap entry.1)) None) apart)
        ∙ or_none (last_some part (map make entries))
        ∙ rest
        ∙ sym (ap (λ b. option_map wrap (cond b (Some entry.1) (at_key entries at))) apart)

-- ---- bytes

among_nothing : (place at : ℕ) → byte_among place [] at ≡ None
among_nothing place at = same_either (nat_le place at) None

among_lone : (place byte at : ℕ) → byte_among place (byte ∷ []) at ≡ lone place byte at
among_lone place byte at =
    let e : place + 0 ≡ place = omega arith in
    byte_snoc place [] byte at
    ∙ ap (λ o. option_or o (lone (place + 0) byte at)) (among_nothing place at)
    ∙ ap (λ p. lone p byte at) e

runs_bytes : (at start first : ℕ) (more : List ℕ) (bytes : List (ℕ × ℕ)) → Ascend (start + suc (length more)) bytes
    → last_some (effect_byte at) (runs_from start (first ∷ more) bytes)
    ≡ option_or (at_key bytes at) (byte_among start (first ∷ more) at)
runs_bytes at start first more [] h = refl
runs_bytes at start first more (byte ∷ bytes) h =
    by_test (nat_eq (start + suc (length more)) byte.0) refl (nat_eq byte.0 at) refl
    (λ low. runs_bytes at start first (more ++ byte.1 ∷ []) bytes low)
    (λ low. runs_bytes at byte.0 byte.1 [] bytes low)
  where
    run : List ℕ
    run = first ∷ more

    later : Option ℕ
    later = at_key bytes at

    past : (b : Bool) → nat_eq byte.0 at ≡ b → b ≡ true → later ≡ None
    past b same is =
        let less : at < suc byte.0 = grind (arith, nat_tests, same, is) in
        none_below (suc byte.0) bytes at h.1 less

    joined : byte.0 ≡ start + suc (length more) → (b : Bool) → nat_eq byte.0 at ≡ b
        → option_or later (option_or (byte_among start run at) (lone byte.0 byte.1 at))
        ≡ option_or (cond b (Some byte.1) later) (byte_among start run at)
    joined place true same =
        let end : start + length run ≤ at = grind (arith, nat_tests, same, place) in
        ap (λ o. option_or o (option_or (byte_among start run at) (lone byte.0 byte.1 at))) (past true same refl)
        ∙ ap (λ o. option_or o (lone byte.0 byte.1 at)) (among_past start run at end)
        ∙ ap (λ b. cond b (Some byte.1) None) same
    joined place false other =
        ap (λ b. option_or later (option_or (byte_among start run at) (cond b (Some byte.1) None))) other
        ∙ ap (option_or later) (or_none (byte_among start run at))

    apart : (b : Bool) → nat_eq byte.0 at ≡ b
        → option_or (option_or later (lone byte.0 byte.1 at)) (byte_among start run at)
        ≡ option_or (cond b (Some byte.1) later) (byte_among start run at)
    apart true same =
        ap (λ o. option_or (option_or o (lone byte.0 byte.1 at)) (byte_among start run at)) (past true same refl)
        ∙ ap (λ b. option_or (cond b (Some byte.1) None) (byte_among start run at)) same
    apart false other =
        ap (λ b. option_or (option_or later (cond b (Some byte.1) None)) (byte_among start run at)) other
        ∙ ap (λ o. option_or o (byte_among start run at)) (or_none later)

    by_test : (b : Bool) → nat_eq (start + suc (length more)) byte.0 ≡ b → (c : Bool) → nat_eq byte.0 at ≡ c
        → (Ascend (start + suc (length (more ++ byte.1 ∷ []))) bytes
        → last_some (effect_byte at) (runs_from start (first ∷ (more ++ byte.1 ∷ [])) bytes)
        ≡ option_or later (byte_among start (first ∷ (more ++ byte.1 ∷ [])) at))
        → (Ascend (byte.0 + 1) bytes
        → last_some (effect_byte at) (runs_from byte.0 (byte.1 ∷ []) bytes)
        ≡ option_or later (byte_among byte.0 (byte.1 ∷ []) at))
        → last_some (effect_byte at)
        (cond b (runs_from start (first ∷ (more ++ byte.1 ∷ [])) bytes)
        (Bytes start (first ∷ more) ∷ runs_from byte.0 (byte.1 ∷ []) bytes))
        ≡ option_or (cond (nat_eq byte.0 at) (Some byte.1) later) (byte_among start run at)
    by_test true same c key together alone =
        let e : suc byte.0 ≡ start + suc (length (more ++ byte.1 ∷ [])) =
        grind (arith, nat_tests, same, length-append more (byte.1 ∷ [])) in
        let place : byte.0 ≡ start + suc (length more) = grind (arith, nat_tests, same) in
        together (subst (λ low. Ascend low bytes) e h.1)
        ∙ ap (option_or later) (byte_snoc start run byte.1 at)
        ∙ ap (λ p. option_or later (option_or (byte_among start run at) (lone p byte.1 at))) (sym place)
        ∙ joined place c key
        ∙ ap (λ b. option_or (cond b (Some byte.1) later) (byte_among start run at)) (sym key)
    by_test false other c key together alone =
        let e : suc byte.0 ≡ byte.0 + 1 = omega arith in
        ap (λ o. option_or o (byte_among start run at))
        (alone (subst (λ low. Ascend low bytes) e h.1)
        ∙ ap (option_or later) (among_lone byte.0 byte.1 at))
        ∙ apart c key
        ∙ ap (λ b. option_or (cond b (Some byte.1) later) (byte_among start run at)) (sym key)

-- all runs give what the list has at the address
pub all_runs : (at : ℕ) (bytes : List (ℕ × ℕ)) → Ascend 0 bytes
    → last_some (effect_byte at) (runs_from 0 [] bytes) ≡ at_key bytes at
all_runs at [] h = refl
all_runs at (byte ∷ bytes) h =
    let e : suc byte.0 ≡ byte.0 + 1 = omega arith in
    ap (last_some (effect_byte at)) (runs_begin byte bytes)
    ∙ runs_bytes at byte.0 byte.1 [] bytes (subst (λ low. Ascend low bytes) e h.1)
    ∙ ap (option_or (at_key bytes at)) (among_lone byte.0 byte.1 at)
    ∙ by_key (nat_eq byte.0 at) refl
  where
    by_key : (b : Bool) → nat_eq byte.0 at ≡ b
        → option_or (at_key bytes at) (lone byte.0 byte.1 at) ≡ cond (nat_eq byte.0 at) (Some byte.1) (at_key bytes at)
    by_key true same =
        let less : at < suc byte.0 = grind (arith, nat_tests, same) in
        ap (λ o. option_or o (lone byte.0 byte.1 at)) (none_below (suc byte.0) bytes at h.1 less)
        ∙ ap (λ b. cond b (Some byte.1) None) same
        ∙ sym (ap (λ b. cond b (Some byte.1) (at_key bytes at)) same)
    by_key false other =
        ap (λ b. option_or (at_key bytes at) (cond b (Some byte.1) None)) other
        ∙ or_none (at_key bytes at)
        ∙ sym (ap (λ b. cond b (Some byte.1) (at_key bytes at)) other)
