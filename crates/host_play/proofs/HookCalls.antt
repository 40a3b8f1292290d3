-- The calls of hooks in a run: in steps after steps, and in entries without such calls.
use Rattle.std.proofs.Common.{◌≡◌, ℕ, zero, suc, ◌+◌, List, [], ◌∷◌, ◌++◌, length, Bool, true, false, cond, refl, sym, ap, ◌∙◌, subst, append_assoc, zero-add, suc-add}
use Rattle.std.specs.Prelude.{filter, nat_lt, not, All, slice_get, ◌-◌}
use Rattle.std.proofs.lemmas.List.Elements.{All-head, All-tail, filter-append}
use Rattle.base.proofs.Lists.{nil_parts}
use Rattle.history_spec.specs.declared.entries.Entry.{Entry}
use Rattle.history_spec.specs.declared.entries.Entry.TheVariants.{HostCall, HostReturn, ImportCall, ImportReturn, Enter, Exit, Step, Trap, HostTrap}
use Rattle.history_spec.specs.Store.{Store}
use Rattle.history_spec.specs.Step.{Program, Progress, Running, Finished, Faulted, Stuck, StepResult, step}
use Rattle.history_spec.specs.Run.{Meter, steps}
use Rattle.record_replay_spec.specs.Hooks.{hooks, on}
use Rattle.record_replay_spec.specs.HookedRuns.{calls_among, hook_calls}
use Rattle.wasm_interp.specs.Calls.{IsOwn}
use Rattle.host_play.proofs.Calls.{all_calls, is_call}

-- the call of an import, and of one that is not among the first `n`
abbrev pub is_import_call : Entry → Bool
is_import_call (ImportCall import args) = true
is_import_call entry = false

abbrev pub is_hook_call : (n : ℕ) → Entry → Bool
is_hook_call n (ImportCall import args) = not (nat_lt import n)
is_hook_call n entry = false

-- ---- entries without such calls

-- a test that only calls pass
abbrev pub IsOfCalls : (Entry → Bool) → Type 0
IsOfCalls test = (e : Entry) → is_call e ≡ false → test e ≡ false

pub import_is_call : IsOfCalls is_import_call
import_is_call (ImportCall import args) none = none
import_is_call entry none = refl

pub hook_is_call : (n : ℕ) → IsOfCalls (is_hook_call n)
hook_is_call n (ImportCall import args) none = cc
hook_is_call n entry none = refl

pub none_called : (test : Entry → Bool) → IsOfCalls test → (es : List Entry) → all_calls es ≡ 0 → filter test es ≡ []
none_called test only [] none = refl
none_called test only (e ∷ es) none = go (none_called test only es) (is_call e) refl
  where
    go : (all_calls es ≡ 0 → filter test es ≡ []) → (b : Bool) → is_call e ≡ b → filter test (e ∷ es) ≡ []
    go later true is =
        let some : length (cond true (e ∷ filter is_call es) (filter is_call es)) ≡ 0 =
        subst (λ b. length (cond b (e ∷ filter is_call es) (filter is_call es)) ≡ 0) is none in
        cc
    go later false is =
        ap (λ b. cond b (e ∷ filter test es) (filter test es)) (only e is)
        ∙ later (subst (λ b. length (cond b (e ∷ filter is_call es) (filter is_call es)) ≡ 0) is none)

-- if no entry passes a test, no entry passes a stricter one
pub none_stricter : (test strict : Entry → Bool) → ((e : Entry) → test e ≡ false → strict e ≡ false) → (es : List Entry)
    → filter test es ≡ [] → filter strict es ≡ []
none_stricter test strict only [] none = refl
none_stricter test strict only (e ∷ es) none = go (none_stricter test strict only es) (test e) refl
  where
    go : (filter test es ≡ [] → filter strict es ≡ []) → (b : Bool) → test e ≡ b → filter strict (e ∷ es) ≡ []
    go later true is =
        let some : cond true (e ∷ filter test es) (filter test es) ≡ [] =
        subst (λ b. cond b (e ∷ filter test es) (filter test es) ≡ []) is none in
        cc
    go later false is =
        ap (λ b. cond b (e ∷ filter strict es) (filter strict es)) (only e is)
        ∙ later (subst (λ b. cond b (e ∷ filter test es) (filter test es) ≡ []) is none)

hook_is_import : (n : ℕ) (e : Entry) → is_import_call e ≡ false → is_hook_call n e ≡ false
hook_is_import n (ImportCall import args) none = cc
hook_is_import n entry none = refl

pub no_hooks : (n : ℕ) (es : List Entry) → filter is_import_call es ≡ [] → filter (is_hook_call n) es ≡ []
no_hooks n es none = none_stricter is_import_call (is_hook_call n) (hook_is_import n) es none

own_no_call : (e : Entry) → IsOwn e → is_call e ≡ false
own_no_call (HostCall func args) own = absurd own
own_no_call (HostReturn func results) own = refl
own_no_call (ImportCall other args) own = absurd own
own_no_call (ImportReturn other results) own = absurd own
own_no_call (Enter func) own = refl
own_no_call (Exit func results) own = refl
own_no_call (Step func number operands results found) own = refl
own_no_call (Trap func number kind operands found) own = refl
own_no_call HostTrap own = absurd own

pub none_own : (test : Entry → Bool) → IsOfCalls test → (es : List Entry) → All IsOwn es → filter test es ≡ []
none_own test only [] own = refl
none_own test only (e ∷ es) own =
    ap (λ b. cond b (e ∷ filter test es) (filter test es)) (only e (own_no_call e (All-head IsOwn e es own))) ∙ none_own test only es (All-tail IsOwn e es own)

-- ---- calls among entries

pub calls_none : (n : ℕ) (view : Store) (es : List Entry) → filter (is_hook_call n) es ≡ [] → calls_among n view es ≡ []
calls_none n view [] none = refl
calls_none n view (ImportCall import args ∷ es) none = go (calls_none n view es) (nat_lt import n) refl
  where
    go : (filter (is_hook_call n) es ≡ [] → calls_among n view es ≡ []) → (b : Bool) → nat_lt import n ≡ b
        → calls_among n view (ImportCall import args ∷ es) ≡ []
    go later true is =
        ap (λ b. cond b [] (on (slice_get hooks (import - n)) (λ kind. record { kind = kind; args = args; view = view } ∷ [])) ++ calls_among n view es) is
        ∙ later (subst (λ b. cond (not b) (ImportCall import args ∷ filter (is_hook_call n) es) (filter (is_hook_call n) es) ≡ []) is none)
    go later false is =
        let some : ImportCall import args ∷ filter (is_hook_call n) es ≡ [] = subst (λ b.
        cond (not b) (ImportCall import args ∷ filter (is_hook_call n) es) (filter (is_hook_call n) es) ≡ []) is none in
        cc
calls_none n view (HostCall func args ∷ es) none = calls_none n view es none
calls_none n view (HostReturn func results ∷ es) none = calls_none n view es none
calls_none n view (ImportReturn import results ∷ es) none = calls_none n view es none
calls_none n view (Enter func ∷ es) none = calls_none n view es none
calls_none n view (Exit func results ∷ es) none = calls_none n view es none
calls_none n view (Step func number operands results found ∷ es) none = calls_none n view es none
calls_none n view (Trap func number kind operands found ∷ es) none = calls_none n view es none
calls_none n view (HostTrap ∷ es) none = calls_none n view es none

-- ---- calls in steps

pub none_in_both : (test : Entry → Bool) (xs ys : List Entry) → filter test (xs ++ ys) ≡ [] → (filter test xs ≡ []) × (filter test ys ≡ [])
none_in_both test xs ys none = nil_parts (filter test xs) (filter test ys) (sym (filter-append test xs ys) ∙ none)

-- steps without calls of hooks
pub quiet : (n : ℕ) (program : Program) (meter : Meter) (k : ℕ) (at : Progress)
    → filter (is_hook_call n) (steps program meter k at).history ≡ [] → hook_calls n program k at ≡ []
quiet n program meter zero at none = refl
quiet n program meter (suc k) (Running config) none =
    let s : StepResult = step program config in
    let parts = none_in_both (is_hook_call n) s.entries (steps program meter k s.next).history none in
    ap (λ front. front ++ hook_calls n program k s.next) (calls_none n config.store s.entries parts.0) ∙ quiet n program meter k s.next parts.1
quiet n program meter (suc k) (Finished outcome) none = refl
quiet n program meter (suc k) (Faulted kind) none = refl
quiet n program meter (suc k) Stuck none = refl

-- a number of steps, and then another number of steps
pub calls_joined : (n : ℕ) (program : Program) (meter : Meter) (k j : ℕ) (at : Progress)
    → hook_calls n program (k + j) at ≡ hook_calls n program k at ++ hook_calls n program j (steps program meter k at).at
calls_joined n program meter zero j at = ap (λ i. hook_calls n program i at) (zero-add j)
calls_joined n program meter (suc k) j (Running config) =
    let s : StepResult = step program config in
    ap (λ i. hook_calls n program i (Running config)) (suc-add k j)
    ∙ ap (λ es. calls_among n config.store s.entries ++ es) (calls_joined n program meter k j s.next)
    ∙ sym (append_assoc (calls_among n config.store s.entries) (hook_calls n program k s.next) (hook_calls n program j (steps program meter k s.next).at))
calls_joined n program meter (suc k) j (Finished outcome) = ap (λ i. hook_calls n program i (Finished outcome)) (suc-add k j) ∙ sym (over j)
  where
    over : (j : ℕ) → hook_calls n program j (Finished outcome) ≡ []
    over zero = refl
    over (suc j) = refl
calls_joined n program meter (suc k) j (Faulted kind) = ap (λ i. hook_calls n program i (Faulted kind)) (suc-add k j) ∙ sym (over j)
  where
    over : (j : ℕ) → hook_calls n program j (Faulted kind) ≡ []
    over zero = refl
    over (suc j) = refl
calls_joined n program meter (suc k) j Stuck = ap (λ i. hook_calls n program i Stuck) (suc-add k j) ∙ sym (over j)
  where
    over : (j : ℕ) → hook_calls n program j Stuck ≡ []
    over zero = refl
    over (suc j) = refl
