-- The hook calls for functions and calls that begin and end in a trail have balanced events.
use Rattle.std.proofs.Common.{◌≡◌, ℕ, suc, ◌≤◌, List, [], ◌∷◌, ◌++◌, Option, Some, None, Bool, true, false, cond, nat_eq, nat_le, nat_lt, slice_get, refl, sym, ap, ◌∙◌, subst, arith}
use Rattle.std.specs.Prelude.{◌||◌, Ok}
use Rattle.std.proofs.lemmas.Bool.Decides.{nat_tests}
use Rattle.std.proofs.Math.Bool.{or-true}
use Rattle.wasm_syntax.specs.declared.values.Val.{Val}
use Rattle.wasm_syntax.specs.declared.modules.Module.{Module}
use Rattle.wasm_syntax.specs.Index.{imported_funcs, all_globals}
use Rattle.base.specs.declared.outcomes.Outcome.{Outcome}
use Rattle.trace_model.specs.declared.events.Event.{Event}
use Rattle.trace_model.specs.declared.events.Event.TheVariants as events
use Rattle.trace_model.specs.Balance.{enter_frames, calls_import}
use Rattle.history_spec.specs.declared.entries.Entry.{Entry}
use Rattle.history_spec.specs.declared.entries.Entry.TheVariants.{HostCall, HostReturn, ImportCall, ImportReturn, Enter, Exit}
use Rattle.history_spec.specs.Store.{Store}
use Rattle.record_replay_spec.specs.Known.{Known}
use Rattle.record_replay_spec.specs.Observations.{Observation}
use Rattle.record_replay_spec.specs.declared.hooks.Hook.TheVariants.{Leave}
use Rattle.record_replay_spec.specs.Hooks.{HookCall}
use Rattle.record_replay_spec.specs.Logs.{LogState, grown_events, events_from}
use Rattle.record_replay_spec.specs.Order.{HookedShape}
use Rattle.record_replay_spec.specs.ReportedCalls.{Moment, reported_calls, reported_enter, reported_values, reported_over, reported_number}
use Rattle.tape_laws.proofs.CallObservations.{seen_by}
use Rattle.tape_laws.proofs.CallOrder as orders
use Rattle.tape_laws.proofs.ModuleFacts.{func_there}
use Rattle.tape_laws.proofs.TrailOrder.{same_waiting, calls_at}
use Rattle.tape_laws.proofs.Trails.{Level, AtFunction, AtImport, AtCall, call_level, at_host, with_top_entered, IsWithin}
use Rattle.tape_laws.proofs.CallOrder.{IsHooked, renumbered, state, callee_may, never_imported}
use Rattle.tape_laws.proofs.AllowedEvents.{CanSee}
use Rattle.tape_laws.proofs.BalancedEvents.{Frames, AreLevels, host_enters, module_enters, AreBalanced, LeadsTo, both_lead, enter_leads, leave_leads, post_leads, grown_leads}
use Rattle.tape_laws.proofs.CallLogs as logs
use Rattle.tape_laws.proofs.CallLogs.{noticing, Logged}
use Rattle.tape_laws.proofs.HostTraps.{TrapsInside}
use Rattle.tape_laws.proofs.TrailLogs as trail_logs
use Rattle.tape_laws.proofs.EachMoment.{HoldsFirst}

-- ---- open functions and calls

-- the number of open calls of imports, which the host answers
abbrev pub open_imports : (n : ℕ) → List Level → ℕ
open_imports n [] = 0
open_imports n (AtFunction func ∷ levels) = open_imports n levels
open_imports n (AtImport direct callee args ∷ levels) = open_imports n levels
open_imports n (AtCall direct callee entered args ∷ levels) =
    cond (nat_lt callee n) (suc (open_imports n levels)) (open_imports n levels)

-- the host traps only in an open call of an import, in the remaining observations
abbrev pub IsInside : (n : ℕ) → List Level → List Observation → Type 0
IsInside n levels left = TrapsInside (at_host n levels) (open_imports n levels) left

module _ (n : ℕ) where
  not_host : (levels : List Level) → IsWithin levels → at_host n levels ≡ false
  not_host [] w = absurd w
  not_host (AtFunction func ∷ levels) w = refl
  not_host (AtImport direct callee args ∷ levels) w = absurd w
  not_host (AtCall direct callee entered args ∷ levels) w = absurd w

  same_imports : (levels : List Level) → at_host n levels ≡ true
      → open_imports n (with_top_entered levels) ≡ open_imports n levels
  same_imports [] h = refl
  same_imports (AtFunction func ∷ levels) h = cc
  same_imports (AtImport direct callee args ∷ levels) h = cc
  same_imports (AtCall direct callee entered args ∷ levels) h = refl

  -- if control is at the host and an import is open, the frames show an open import
  pub in_import : (levels : List Level) (frames : Frames) → at_host n levels ≡ true
      → nat_eq (open_imports n levels) 0 ≡ false → AreLevels n levels frames → calls_import n frames ≡ true
  in_import [] frames h q are = cc
  in_import (AtFunction func ∷ levels) frames h q are = cc
  in_import (AtImport direct callee args ∷ levels) frames h q are = cc
  in_import (AtCall direct callee entered args ∷ levels) [] h q are = absurd are
  in_import (AtCall direct callee entered args ∷ levels) (frame ∷ below) h q are = are.0.imports below ∙ h

  pub call_inside : (imported direct : Bool) (callee : ℕ) (args : List Val) (levels : List Level)
      (left : List Observation) → nat_lt callee n ≡ imported → TrapsInside false (open_imports n levels) left
      → IsInside n (call_level imported direct callee args ∷ levels) left
  call_inside true direct callee args levels left e h = h
  call_inside false direct callee args levels left e h =
      subst (λ b. TrapsInside b (cond b (suc (open_imports n levels)) (open_imports n levels)) left) (sym e) h

-- ---- a trail

module _ (m : Module) (shape : HookedShape) (outcome : Outcome) where
  -- hook calls have events, and these are balanced
  pub record Balances (levels : List Level) (entries : ℕ) (st : LogState) (calls : List HookCall) : Type 0 where
    pub found : List Event
    pub are : (at : ℕ) → events_from shape (state levels [] entries) st at calls ≡ Ok found
    pub balanced : (grew : Bool) → CanSee grew st → AreBalanced (imported_funcs m) outcome levels grew found

  -- the hook calls of moments are balanced
  abbrev pub Reports : List Level → ℕ → LogState → List Moment → Type 0
  Reports levels entries st moments = Balances levels entries st (renumbered m (calls_at m levels moments))

  -- what is given at a point of a trail, and what then holds of the remaining moments
  abbrev pub IsInsideAt : List Level → Known → Store → List Observation → LogState → Type 0
  IsInsideAt levels known store left st = IsInside (imported_funcs m) levels left

  abbrev pub ReportsAt : List Level → Known → Store → List Observation → LogState → List Moment → Type 0
  ReportsAt levels known store left st moments = Reports levels known.entries st moments

  -- the hook calls of a trail's first moment, by its entry, and those after it are balanced, if those after it are
  abbrev pub FirstBalances : Entry → Type 0
  FirstBalances entry = HoldsFirst m shape (Some outcome) IsInsideAt ReportsAt entry

  -- a call that begins is balanced if it is balanced as a call of any function
  pub as_call : (imported direct : Bool) (callee : ℕ) (args : List Val) (levels : List Level) (entries : ℕ) (st : LogState)
      (later : List Moment) → Reports (call_level imported direct callee args ∷ levels) entries st later
      → Reports (AtCall direct callee false args ∷ levels) entries st later
  as_call true direct callee args levels entries st later h =
      record { found = h.found; are = h.are; balanced = h.balanced }
  as_call false direct callee args levels entries st later h = h

module _ (m : Module) (shape : HookedShape) (hooked : IsHooked m shape) (outcome : Outcome) where
  abbrev n : ℕ
  n = imported_funcs m

  abbrev seen : List HookCall → List Observation
  seen calls = seen_by shape n (all_globals m) calls

  -- hook calls whose events lead to a state from which the following calls are balanced
  pub then_balances : (levels after : List Level) (entries next : ℕ) (st now : LogState) (calls rest : List HookCall)
      (first : List Event) → Logged m shape (state levels [] entries) st calls first (state after [] next) now
      → LeadsTo n outcome levels st first after now
      → Balances m shape outcome after next now (renumbered m rest) → Balances m shape outcome levels entries st (renumbered m (calls ++ rest))
  then_balances levels after entries next st now calls rest first logged leads r =
      record {
        found = first ++ r.found;
        are = trail_logs.logged_then m shape hooked outcome (state levels [] entries) st calls first
            (state after [] next) now rest r.found logged r.are;
        balanced = λ grew sees. leads grew sees r.found r.balanced;
      }

  -- ---- functions begin and end

  -- an Enter event, and a growth that is noticed
  enter_grown : (func : ℕ) (args : List Val) (before below : List Level) (st : LogState) (view : Store) → n ≤ func
      → ((frames : Frames) → AreLevels n before frames
      → (next : Frames) × (enter_frames n func frames ≡ Some next) × AreLevels n (AtFunction func ∷ below) next)
      → LeadsTo n outcome before st (events.Enter func args ∷ grown_events st.noticed view) (AtFunction func ∷ below)
      (noticing view st)
  enter_grown func args before below st view own leads =
      let le : nat_le n func ≡ true = grind (arith, nat_tests, own) in
      both_lead n outcome before (AtFunction func ∷ below) (AtFunction func ∷ below) st st (noticing view st)
      (events.Enter func args ∷ []) (grown_events st.noticed view)
      (enter_leads n outcome func args before (AtFunction func ∷ below) st le leads)
      (grown_leads n outcome (AtFunction func ∷ below) st view tt)

  -- a Post event, and a growth that is noticed
  post_grown : (result : Option Val) (direct : Bool) (callee : ℕ) (entered : Bool) (args : List Val)
      (levels : List Level) (st : LogState) (view : Store) → (nat_lt callee n || entered) ≡ true → IsWithin levels
      → LeadsTo n outcome (AtCall direct callee entered args ∷ levels) st
      (events.Post result ∷ grown_events st.noticed view) levels (noticing view st)
  post_grown result direct callee entered args levels st view e w =
      both_lead n outcome (AtCall direct callee entered args ∷ levels) levels levels st st (noticing view st)
      (events.Post result ∷ []) (grown_events st.noticed view)
      (post_leads n outcome result direct callee entered args levels st e) (grown_leads n outcome levels st view w)

  pub host_call : (func : ℕ) (args : List Val) → FirstBalances m shape outcome (HostCall func args)
  host_call func args later moment levels known store left st h inside rest =
      then_balances levels next known.entries known.entries st (noticing moment.after st)
      (reported_enter func args moment.after) (calls_at m levels later)
      (events.Enter func args ∷ grown_events st.noticed moment.after)
      (logs.enter_logged m shape hooked func args levels known.entries moment.after st h.defined
      (func_there m func h.typed.ty h.typed.has_type) h.typed
      (orders.host_may m shape hooked func levels h.host))
      (enter_grown func args levels (with_top_entered levels) st moment.after h.defined
      (λ frames are. host_enters n func levels frames h.host are))
      (subst
      (λ w. Balances m shape outcome next known.entries (noticing moment.after st) (renumbered m (reported_calls (all_globals m) w later)))
      (same_waiting levels)
      (rest next known moment.after h.later (noticing moment.after st) h.follows
      (subst (λ d. TrapsInside false d h.later) (sym (same_imports n levels h.host)) left_inside)))
    where
      next : List Level
      next = AtFunction func ∷ with_top_entered levels

      left_inside : TrapsInside false (open_imports n levels) h.later
      left_inside =
          subst (λ l. TrapsInside true (open_imports n levels) l) h.observed
          (subst (λ b. TrapsInside b (open_imports n levels) left) h.host inside)

  pub entered : (func : ℕ) → FirstBalances m shape outcome (Enter func)
  entered func later moment levels known store left st h inside rest =
      subst (λ l. Reports m shape outcome l known.entries st (record moment { entry = Enter func } ∷ later)) (sym h.stands)
      (then_balances top inner known.entries known.entries st (noticing moment.after st)
      (reported_enter func h.args moment.after) (calls_at m top later)
      (events.Enter func h.args ∷ grown_events st.noticed moment.after)
      (logs.enter_logged m shape hooked func h.args top known.entries moment.after st h.defined
      (func_there m func h.typed.ty h.typed.has_type) h.typed (callee_may shape.imports func))
      (enter_grown func h.args top (AtCall h.direct func true h.args ∷ h.below) st moment.after h.defined
      (module_enters n func h.direct h.args h.below))
      (rest inner known moment.after left (noticing moment.after st) h.follows
      (subst (λ b. TrapsInside b (open_imports n top) left) (never_imported n func h.defined)
      (subst (λ l. IsInside n l left) h.stands inside))))
    where
      top : List Level
      top = AtCall h.direct func false h.args ∷ h.below

      inner : List Level
      inner = AtFunction func ∷ AtCall h.direct func true h.args ∷ h.below

  pub host_return : (func : ℕ) (results : List Val) → FirstBalances m shape outcome (HostReturn func results)
  host_return func results later moment levels known store left st h inside rest =
      subst (λ l. Reports m shape outcome l known.entries st (record moment { entry = HostReturn func results } ∷ later)) (sym h.stands)
      (then_balances (AtFunction func ∷ h.below) h.below known.entries known.entries st st
      (reported_number Leave func moment.after) (calls_at m h.below later) (events.Leave func ∷ [])
      (logs.leave_logged m shape hooked func h.below known.entries moment.after st)
      (leave_leads n outcome func h.below st)
      (rest h.below known moment.after h.later st h.follows
      (subst (λ b. TrapsInside b (open_imports n h.below) h.later) (sym h.host)
      (subst (λ l. IsInside n (AtFunction func ∷ h.below) l) h.observed
      (subst (λ l. IsInside n l left) h.stands inside)))))

  pub exited : (func : ℕ) (results : List Val) → FirstBalances m shape outcome (Exit func results)
  exited func results later moment levels known store left st h inside rest =
      subst (λ l. Reports m shape outcome l known.entries st (record moment { entry = Exit func results } ∷ later)) (sym h.stands)
      (then_balances (AtFunction func ∷ called) h.below known.entries known.entries st (noticing moment.after st)
      (reported_number Leave func moment.after ++ over) (calls_at m h.below later)
      (events.Leave func ∷ (events.Post (slice_get results 0) ∷ grown_events st.noticed moment.after))
      (logs.both_logged m shape hooked (reported_number Leave func moment.after) over
      (events.Leave func ∷ []) (events.Post (slice_get results 0) ∷ grown_events st.noticed moment.after)
      (state (AtFunction func ∷ called) [] known.entries) (state called [] known.entries)
      (state h.below [] known.entries) st st (noticing moment.after st)
      (logs.leave_logged m shape hooked func called known.entries moment.after st)
      (logs.over_logged m shape hooked h.direct func true h.args results h.below known.entries
      moment.after st (or-true (nat_lt func n)) h.typed))
      (both_lead n outcome (AtFunction func ∷ called) called h.below st st (noticing moment.after st)
      (events.Leave func ∷ []) (events.Post (slice_get results 0) ∷ grown_events st.noticed moment.after)
      (leave_leads n outcome func called st)
      (post_grown (slice_get results 0) h.direct func true h.args h.below st moment.after
      (or-true (nat_lt func n)) h.within))
      (rest h.below known moment.after left (noticing moment.after st) h.follows
      (subst (λ b. TrapsInside b (open_imports n h.below) left) (sym (not_host n h.below h.within)) left_inside)))
    where
      called : List Level
      called = AtCall h.direct func true h.args ∷ h.below

      over : List HookCall
      over = reported_values moment.after results ++ reported_over (cond h.direct (Some func) None) moment.after

      left_inside : TrapsInside false (open_imports n h.below) left
      left_inside =
          subst (λ b. TrapsInside false (cond b (suc (open_imports n h.below)) (open_imports n h.below)) left) (never_imported n func h.defined)
          (subst (λ l. IsInside n l left) h.stands inside)

  -- ---- imports

  pub import_called : (import : ℕ) (args : List Val) → FirstBalances m shape outcome (ImportCall import args)
  import_called import args later moment levels known store left st h inside rest =
      subst (λ l. Reports m shape outcome l known.entries st (record moment { entry = ImportCall import args } ∷ later)) (sym h.stands)
      (record { found = r.found; are = r.are; balanced = r.balanced })
    where
      left_inside : TrapsInside true (suc (open_imports n h.below)) h.later
      left_inside =
          subst (λ l. IsInside n (AtImport h.direct import h.args ∷ h.below) l) h.observed
          (subst (λ l. IsInside n l left) h.stands inside)

      r : Reports m shape outcome (AtCall h.direct import false h.args ∷ h.below) known.entries st later
      r = rest (AtCall h.direct import false h.args ∷ h.below) known moment.after h.later st h.follows
          (subst (λ b. TrapsInside b (cond b (suc (open_imports n h.below)) (open_imports n h.below)) h.later)
          (sym h.imported) left_inside)

  pub import_return : (import : ℕ) (results : List Val) → FirstBalances m shape outcome (ImportReturn import results)
  import_return import results later moment levels known store left st h inside rest =
      subst (λ l. Reports m shape outcome l known.entries st (record moment { entry = ImportReturn import results } ∷ later))
      (sym h.stands)
      (then_balances top h.below known.entries known.entries st (noticing moment.after st)
      (reported_values moment.after results ++ reported_over (cond h.direct (Some import) None) moment.after)
      (calls_at m h.below later) (events.Post (slice_get results 0) ∷ grown_events st.noticed moment.after)
      (logs.over_logged m shape hooked h.direct import h.entered h.args results h.below known.entries
      moment.after st (ap (λ b. b || h.entered) h.imported) h.typed)
      (post_grown (slice_get results 0) h.direct import h.entered h.args h.below st moment.after
      (ap (λ b. b || h.entered) h.imported) h.within)
      (rest h.below known moment.after h.later (noticing moment.after st) h.follows
      (subst (λ b. TrapsInside b (open_imports n h.below) h.later) (sym (not_host n h.below h.within)) left_inside)))
    where
      top : List Level
      top = AtCall h.direct import h.entered h.args ∷ h.below

      left_inside : TrapsInside false (open_imports n h.below) h.later
      left_inside =
          subst (λ l. TrapsInside true (suc (open_imports n h.below)) l) h.observed
          (subst (λ b. TrapsInside b (cond b (suc (open_imports n h.below)) (open_imports n h.below)) left) h.imported
          (subst (λ l. IsInside n l left) h.stands inside))
