-- Runs of hooks over calls.
use Rattle.std.proofs.Common.{◌≡◌, ℕ, ◌-◌, ◌≤◌, List, [], ◌∷◌, ◌++◌, Some, refl, sym, ap, ◌∙◌, subst, inl, inr}
use Rattle.std.specs.Prelude.{Result, Ok, Err, ⊤, cond, slice_get}
use Rattle.std.proofs.lemmas.Bool.{le-ltb}
use Rattle.wasm_syntax.specs.declared.values.Val.{Val}
use Rattle.history_spec.specs.Store.{Store}
use Rattle.record_replay_spec.specs.declared.hooks.Hook.{Hook}
use Rattle.record_replay_spec.specs.Hooks.{HookCall, hooks, on}
use Rattle.record_replay_spec.specs.HookedRuns.{call_of_hook}
use Rattle.hook_names.specs.Steps.{IsRun, Steps}
use Rattle.hook_names.specs.declared.hooks.HookFault.{HookFault}

-- more calls after calls that were all taken
pub runs_on : {H : Type 0} (is_step : Steps H) (begun now later : H) (calls more : List HookCall) (answer : Result ⊤ HookFault)
    → IsRun is_step begun calls (Ok tt) now → IsRun is_step now more answer later → IsRun is_step begun (calls ++ more) answer later
runs_on is_step begun now later [] more answer first second = subst (λ h. IsRun is_step h more answer later) (sym first.1) second
runs_on is_step begun now later (call ∷ calls) more answer (inl first) second =
    inl (first.0, first.1, runs_on is_step first.0 now later calls more answer first.2 second)
runs_on is_step begun now later (call ∷ calls) more answer (inr refused) second = let no : Ok tt ≡ Err refused.0 = refused.1 in cc

-- one call
one_run : {H : Type 0} (is_step : Steps H) (before after : H) (call : HookCall) (answer : Result ⊤ HookFault)
    → is_step before call answer after → IsRun is_step before (call ∷ []) answer after
one_run is_step before after call (Ok done) taken = inl (after, taken, (refl, refl))
one_run is_step before after call (Err fault) taken = inr (fault, refl, taken)

-- the call of an import that is a hook
pub hook_run : {H : Type 0} (is_step : Steps H) (before after : H) (imports import : ℕ) (kind : Hook) (args : List Val)
    (view : Store) (answer : Result ⊤ HookFault)
    → imports ≤ import → slice_get hooks (import - imports) ≡ Some kind → is_step before (record { kind = kind; args = args; view = view }) answer after
    → IsRun is_step before (call_of_hook imports import args view) answer after
hook_run is_step before after imports import kind args view answer past is taken =
    let call : HookCall = record { kind = kind; args = args; view = view } in
    let called : call_of_hook imports import args view ≡ call ∷ [] =
    ap (λ b. cond b [] (on (slice_get hooks (import - imports)) (λ kind. record { kind = kind; args = args; view = view } ∷ []))) (le-ltb import imports past)
    ∙ ap (λ found. on found (λ kind. record { kind = kind; args = args; view = view } ∷ [])) is in
    subst (λ calls. IsRun is_step before calls answer after) (sym called) (one_run is_step before after call answer taken)
