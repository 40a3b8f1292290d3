-- The search for a top-level call in hook calls finds what the search in observations finds.
use Rattle.std.proofs.Common.{◌≡◌, ℕ, zero, suc, List, [], ◌∷◌, ◌++◌, map, Option, Some, None, Bool, true, false, cond, nat_lt, refl, sym, ap, ◌∙◌, subst}
use Rattle.std.specs.Prelude.{option_and_then, option_map, unwrap_or}
use Rattle.wasm_syntax.specs.declared.modules.Module.{Module}
use Rattle.wasm_syntax.specs.declared.values.Val.{Val}
use Rattle.wasm_syntax.specs.Index.{imported_funcs}
use Rattle.record_replay_spec.specs.Observations.{Observation}
use Rattle.record_replay_spec.specs.Known.{Known}
use Rattle.record_replay_spec.specs.Hooks.{HookCall}
use Rattle.record_replay_spec.specs.Order.{HookedShape, OrderState, ordered_step}
use Rattle.record_replay_spec.specs.Logs.{LogState, log_after_call}
use Rattle.record_replay_spec.specs.ReportedCalls.{Moment}
use Rattle.rest_spec.specs.Rests.{by_call, calls_in}
use Rattle.rest_spec.specs.AtCalls.{AtCall as FoundCall, at_call}
use Rattle.rest_spec.specs.TopEnters.{enters_at_top, top_enters, by_enter, log_before}
use Rattle.tape_laws.proofs.BalancedCalls.{open_imports}
use Rattle.tape_laws.proofs.CallOrder.{renumbered, renumbered_both, state}
use Rattle.tape_laws.proofs.ObservedFinds.{IsReportedKnown}
use Rattle.tape_laws.proofs.TrailOrder.{calls_at}
use Rattle.tape_laws.proofs.Trails.{Level, AtFunction, AtImport, AtCall, call_level, at_host, IsWithin}
use Rattle.rest_laws.proofs.PassedCalls.{ArePassed}
use Rattle.rest_laws.proofs.Places.{call_from}

-- the log knows what is known at the call, with functions renumbered, if the original imports `n` functions; or neither
-- has the call
abbrev pub IsSameLog : (n : ℕ) → Option FoundCall → Option LogState → Type 0
IsSameLog n None None = Unit {0}
IsSameLog n (Some at) (Some log) = IsReportedKnown n at.known log.known
IsSameLog n at log = ⊥

module _ (m : Module) (shape : HookedShape) where
  abbrev n : ℕ
  n = imported_funcs m

  -- from a state of the order and of the log on, hook calls report this number of top-level calls, and have the state
  -- of the log before each call that this search finds
  pub record Finds (order : OrderState) (st : LogState) (calls : List HookCall) (count : ℕ)
      (search : (number : ℕ) → Option FoundCall) : Type 0 where
    pub counts : top_enters shape order calls ≡ count
    pub logs : (number : ℕ) → IsSameLog (imported_funcs m) (search number) (log_before shape order st number calls)

  -- the same with an equal number, and another search that finds the same
  pub finds_same : (order : OrderState) (st : LogState) (calls : List HookCall) (count other : ℕ)
      (search others : (number : ℕ) → Option FoundCall) → count ≡ other → ((number : ℕ) → others number ≡ search number)
      → Finds order st calls count search → Finds order st calls other others
  finds_same order st calls count other search others e same h =
      record {
        counts = h.counts ∙ e;
        logs = λ number.
            subst (λ at. IsSameLog n at (log_before shape order st number calls)) (sym (same number)) (h.logs number);
      }

  -- no hook call is left, and the search finds nothing
  pub nothing_found : (order : OrderState) (st : LogState) (search : (number : ℕ) → Option FoundCall)
      → ((number : ℕ) → search number ≡ None) → Finds order st [] 0 search
  nothing_found order st search none =
      finds_same order st [] 0 0 (λ number. None) search refl none (record { counts = refl; logs = λ number. tt })

  -- after hook calls that are passed over
  pub finds_after : (order after : OrderState) (st : LogState) (calls rest : List HookCall) (seen : List Observation)
      (count : ℕ) (search : (number : ℕ) → Option FoundCall)
      (passed : ArePassed shape order (renumbered m calls) seen after)
      → Finds after (passed.logs st).log (renumbered m rest) count search
      → Finds order st (renumbered m (calls ++ rest)) count search
  finds_after order after st calls rest seen count search passed h =
      subst (λ l. Finds order st l count search) (sym (renumbered_both m calls rest))
      (record {
        counts = passed.counts (renumbered m rest) ∙ h.counts;
        logs = λ number.
            subst (IsSameLog n (search number)) (sym ((passed.logs st).same number (renumbered m rest)))
            (h.logs number);
      })

  -- the hook call that reports a top-level call
  pub finds_here : (order next : OrderState) (st : LogState) (call : HookCall) (rest : List HookCall) (count : ℕ)
      (at : FoundCall) (search : (number : ℕ) → Option FoundCall) → enters_at_top order call ≡ true
      → ordered_step shape order call ≡ Some next → IsReportedKnown (imported_funcs m) at.known st.known
      → Finds next (log_after_call shape st call) rest count search
      → Finds order st (call ∷ rest) (suc count) (λ number. by_call 0 number (Some at) search)
  finds_here order next st call rest count at search top step known h =
      record {
        counts =
            ap
            (λ b. cond b
            (suc (unwrap_or (option_map (λ o. top_enters shape o rest) (ordered_step shape order call)) 0))
            (unwrap_or (option_map (λ o. top_enters shape o rest) (ordered_step shape order call)) 0)) top
            ∙ ap (λ o. suc (unwrap_or (option_map (λ o. top_enters shape o rest) o) 0)) step
            ∙ ap suc h.counts;
        logs = λ number. subst (Found number) (sym top) (found number);
      }
    where
      after : (number : ℕ) → Option LogState
      after number =
          option_and_then (λ o. log_before shape o (log_after_call shape st call) number rest) (ordered_step shape order call)

      Found : (number : ℕ) → Bool → Type 0
      Found number b = IsSameLog n (by_call 0 number (Some at) search) (by_enter b number (Some st) after)

      found : (number : ℕ) → Found number true
      found zero = known
      found (suc number) =
          subst (IsSameLog n (search number))
          (sym (ap (option_and_then (λ o. log_before shape o (log_after_call shape st call) number rest)) step))
          (h.logs number)

  -- ---- the remaining moments of a run

  -- the hook calls of moments report the top-level calls that their entries have, and have the state of the log before
  -- each call that the observations have
  abbrev pub Reports : List Level → Known → List Observation → LogState → List Moment → Type 0
  Reports levels known left st moments =
      Finds (state levels [] known.entries) st (renumbered m (calls_at m levels moments))
      (calls_in (map (λ (moment : Moment). moment.entry) moments) (open_imports (imported_funcs m) levels))
      (λ number. call_from (at_host (imported_funcs m) levels) number (open_imports (imported_funcs m) levels) known left)

  -- within a function, the search is one from the module on
  pub search_within : (levels : List Level) (number opened : ℕ) (known : Known) (left : List Observation)
      → IsWithin levels
      → call_from (at_host (imported_funcs m) levels) number opened known left ≡ at_call number opened known left
  search_within [] number opened known left w = absurd w
  search_within (AtFunction func ∷ levels) number opened known left w = refl
  search_within (AtImport direct callee args ∷ levels) number opened known left w = absurd w
  search_within (AtCall direct callee entered args ∷ levels) number opened known left w = absurd w

  -- a call that begins, of an import or of a defined function: no import is open for it yet
  pub call_opens : (imported direct : Bool) (callee : ℕ) (args : List Val) (levels : List Level)
      → nat_lt callee (imported_funcs m) ≡ imported
      → open_imports (imported_funcs m) (call_level imported direct callee args ∷ levels)
      ≡ open_imports (imported_funcs m) levels
  call_opens true direct callee args levels e = refl
  call_opens false direct callee args levels e = ap (λ b. cond b (suc (open_imports n levels)) (open_imports n levels)) e

  pub call_within : (imported direct : Bool) (callee : ℕ) (args : List Val) (levels : List Level)
      → nat_lt callee (imported_funcs m) ≡ imported
      → at_host (imported_funcs m) (call_level imported direct callee args ∷ levels) ≡ false
  call_within true direct callee args levels e = refl
  call_within false direct callee args levels e = e

  -- what a call that begins finds is found as of a call of any function
  pub finds_called : (imported direct : Bool) (callee : ℕ) (args : List Val) (levels : List Level) (entries : ℕ)
      (st : LogState) (later : List Moment) (count : ℕ) (search : (number : ℕ) → Option FoundCall)
      → Finds (state (call_level imported direct callee args ∷ levels) [] entries) st
      (renumbered m (calls_at m (call_level imported direct callee args ∷ levels) later)) count search
      → Finds (state (AtCall direct callee false args ∷ levels) [] entries) st
      (renumbered m (calls_at m (AtCall direct callee false args ∷ levels) later)) count search
  finds_called true direct callee args levels entries st later count search h = h
  finds_called false direct callee args levels entries st later count search h = h
