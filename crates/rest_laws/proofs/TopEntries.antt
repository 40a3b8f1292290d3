-- The hook calls for functions and calls that begin and end in a trail report the top-level calls of its entries.
use Rattle.std.proofs.Common.{◌≡◌, ℕ, suc, List, [], ◌∷◌, ◌++◌, map, Option, Some, None, Bool, true, false, cond, ◌||◌, nat_lt, slice_get, refl, sym, ap, ◌∙◌, subst}
use Rattle.std.proofs.Math.Bool.{or-true}
use Rattle.std.proofs.lemmas.List.{append_assoc}
use Rattle.wasm_syntax.specs.declared.values.Val.{Val}
use Rattle.wasm_syntax.specs.declared.modules.Module.{Module}
use Rattle.wasm_syntax.specs.Index.{imported_funcs, all_globals}
use Rattle.base.specs.declared.outcomes.Outcome.{Outcome}
use Rattle.trace_model.specs.declared.tapes.Origin.TheVariants.{Import, Back}
use Rattle.trace_model.specs.declared.tapes.Next.TheVariants.{Call}
use Rattle.history_spec.specs.declared.entries.Entry.{Entry}
use Rattle.history_spec.specs.declared.entries.Entry.TheVariants.{HostCall, HostReturn, ImportCall, ImportReturn, Enter, Exit}
use Rattle.history_spec.specs.Code.{i32_value}
use Rattle.history_spec.specs.Store.{Store}
use Rattle.record_replay_spec.specs.Known.{Known}
use Rattle.record_replay_spec.specs.Observations.{Observation, Ends}
use Rattle.record_replay_spec.specs.declared.hooks.Hook.TheVariants.{Enter as ToEnter, Leave}
use Rattle.record_replay_spec.specs.Hooks.{HookCall, renumbered_call}
use Rattle.record_replay_spec.specs.Order.{HookedShape}
use Rattle.record_replay_spec.specs.Logs.{LogState, log_after_call}
use Rattle.record_replay_spec.specs.ReportedCalls.{Moment, reported_enter, reported_values, reported_over, reported_number}
use Rattle.rest_spec.specs.Rests.{calls_in}
use Rattle.rest_spec.specs.AtCalls.{AtCall as FoundCall, at_call}
use Rattle.tape_laws.proofs.BalancedCalls.{open_imports}
use Rattle.tape_laws.proofs.CallOrder as orders
use Rattle.tape_laws.proofs.CallOrder.{IsHooked, renumbered, state, AreOrdered, callee_may, never_imported}
use Rattle.tape_laws.proofs.EachMoment.{HoldsFirst, HoldsFor}
use Rattle.tape_laws.proofs.ModuleFacts.{func_there}
use Rattle.tape_laws.proofs.ObservedFinds.{IsReportedKnown}
use Rattle.tape_laws.proofs.TrailOrder.{calls_at}
use Rattle.tape_laws.proofs.Trails.{Level, AtFunction, AtImport, AtCall, at_host, KeepsImmutables, IsHostCall, IsTrail, KnowsImmutables}
use Rattle.rest_laws.proofs.PassedCalls.{LogAfter, Passes, nothing_passes, both_pass, values_pass, enter_passes, leave_passes, over_passes}
use Rattle.rest_laws.proofs.Places.{call_after, call_from, begun}
use Rattle.rest_laws.proofs.TopSearch.{Finds, finds_same, finds_after, finds_here, Reports, search_within}

module _ (m : Module) (shape : HookedShape) (outcome : Option Outcome) where
  -- what the log knows at a point of a trail
  pub record Knows (known : Known) (store : Store) (st : LogState) : Type 0 where
    pub reported : IsReportedKnown (imported_funcs m) known st.known
    pub immutable : KnowsImmutables (all_globals m) known store

  abbrev pub KnowsAt : List Level → Known → Store → List Observation → LogState → Type 0
  KnowsAt levels known store left st = Knows known store st

  abbrev pub ReportsAt : List Level → Known → Store → List Observation → LogState → List Moment → Type 0
  ReportsAt levels known store left st moments = Reports m shape levels known left st moments

  -- the hook calls of later moments report their top-level calls
  abbrev pub Rest : List Moment → Type 0
  Rest later = HoldsFor m shape outcome KnowsAt ReportsAt later

  -- the hook calls of a trail's first moment, by its entry, and those after it report the top-level calls, if those
  -- after it do
  abbrev pub FirstReports : Entry → Type 0
  FirstReports entry = HoldsFirst m shape outcome KnowsAt ReportsAt entry

module _ (m : Module) (shape : HookedShape) (hooked : IsHooked m shape) (outcome : Option Outcome) where
  abbrev n : ℕ
  n = imported_funcs m

  knows_after : (known : Known) (store after : Store) (st next : LogState) → next.known ≡ st.known
      → KeepsImmutables (all_globals m) store after → Knows m shape outcome known store st
      → Knows m shape outcome known after next
  knows_after known store after st next same keeps h =
      record {
        reported = subst (IsReportedKnown n known) (sym same) h.reported;
        immutable = λ at i. h.immutable at i ∙ sym (keeps at i);
      }

  -- entries of these moments
  abbrev entries_of : List Moment → List Entry
  entries_of moments = map (λ (moment : Moment). moment.entry) moments

  abbrev opened : List Level → ℕ
  opened levels = open_imports n levels

  abbrev search : List Level → Known → List Observation → (number : ℕ) → Option FoundCall
  search levels known left number = call_from (at_host n levels) number (opened levels) known left

  -- an entry that is no top-level call leads to other levels, and its hook calls are passed over
  record PassesOn (levels next : List Level) (known : Known) (left obs : List Observation) (calls : List HookCall)
      (entry : Entry) : Type 0 where
    pub passes : Passes m shape (state levels [] known.entries) calls (state next [] known.entries)
    pub counts : (later : List Entry) → calls_in (entry ∷ later) (opened levels) ≡ calls_in later (opened next)
    pub finds : (number : ℕ) → search levels known left number ≡ search next known obs number

  passed_on : (levels next : List Level) (known : Known) (store after : Store) (left obs : List Observation)
      (st : LogState) (calls : List HookCall) (entry : Entry) (later : List Moment)
      → PassesOn levels next known left obs calls entry → KeepsImmutables (all_globals m) store after
      → Knows m shape outcome known store st → Rest m shape outcome later
      → IsTrail m shape outcome later next known after obs
      → Finds m shape (state levels [] known.entries) st (renumbered m (calls ++ calls_at m next later))
      (calls_in (entry ∷ entries_of later) (opened levels)) (search levels known left)
  passed_on levels next known store after left obs st calls entry later on keeps knows rest follows =
      let now : LogAfter shape (state levels [] known.entries) st (renumbered m calls) [] (state next [] known.entries) =
      on.passes.logs st in
      finds_same m shape (state levels [] known.entries) st (renumbered m (calls ++ calls_at m next later))
      (calls_in (entries_of later) (opened next)) (calls_in (entry ∷ entries_of later) (opened levels))
      (search next known obs) (search levels known left) (sym (on.counts (entries_of later))) on.finds
      (finds_after m shape (state levels [] known.entries) (state next [] known.entries) st calls
      (calls_at m next later) [] (calls_in (entries_of later) (opened next)) (search next known obs) on.passes
      (rest next known after obs now.log follows
      (knows_after known store after st now.log now.knows keeps knows)))

  -- ---- the host calls a function

  -- the host calls a function where nothing is open
  top_call : (func : ℕ) (args : List Val) (later : List Moment) (moment : Moment) (known : Known) (store : Store)
      (left : List Observation) (st : LogState)
      → IsHostCall m shape [] known store left moment func args (IsTrail m shape outcome later)
      → Knows m shape outcome known store st → Rest m shape outcome later
      → Reports m shape [] known left st (record moment { entry = HostCall func args } ∷ later)
  top_call func args later moment known store left st h knows rest =
      subst
      (λ l. Finds m shape (state [] [] known.entries) st (renumbered m l) (suc count) (search [] known left))
      (sym (append_assoc values (reported_number ToEnter func moment.after) (calls_at m [] later)))
      (finds_after m shape (state [] [] known.entries) (state [] args known.entries) st values
      (reported_number ToEnter func moment.after ++ calls_at m [] later) [] (suc count) (search [] known left) passes
      (finds_same m shape (state [] args known.entries) now.log
      (renumbered m (reported_number ToEnter func moment.after ++ calls_at m [] later)) (suc count) (suc count)
      _ (search [] known left) refl
      (λ number. ap (call_after number 0 known) h.observed)
      (finds_here m shape (state [] args known.entries) step.0 now.log call (renumbered m (calls_at m [] later)) count
      (record { known = known; later = Ends (Call func args) ∷ h.later }) (λ number. at_call number 0 known h.later)
      refl step.1 (subst (IsReportedKnown n known) (sym now.knows) knows.reported)
      (subst
      (λ o. Finds m shape o (log_after_call shape now.log call) (renumbered m (calls_at m [] later)) count
      (λ number. at_call number 0 known h.later))
      (sym step.2)
      (rest (AtFunction func ∷ []) known moment.after h.later (log_after_call shape now.log call) h.follows
      (knows_after known store moment.after st (log_after_call shape now.log call) now.knows h.keeps knows))))))
    where
      count : ℕ
      count = calls_in (entries_of later) 0

      values : List HookCall
      values = reported_values moment.after args

      call : HookCall
      call = renumbered_call n (record { kind = ToEnter; args = i32_value func ∷ []; view = moment.after })

      passes : Passes m shape (state [] [] known.entries) (reported_values moment.after args) (state [] args known.entries)
      passes =
          values_pass m shape moment.after args (state [] [] known.entries) (state [] args known.entries)
          (orders.params_ordered m shape hooked func args [] known.entries moment.after h.typed)

      now : LogAfter shape (state [] [] known.entries) st (renumbered m (reported_values moment.after args)) []
          (state [] args known.entries)
      now = passes.logs st

      step : AreOrdered shape (state [] args known.entries) (renumbered m (reported_number ToEnter func moment.after))
          (state (AtFunction func ∷ []) [] known.entries)
      step =
          orders.enter_step m shape hooked func args [] known.entries moment.after h.defined
          (func_there m func h.typed.ty h.typed.has_type) h.typed refl

  -- the host calls a function in the call of an import
  inner_call : (func : ℕ) (args : List Val) (direct : Bool) (callee : ℕ) (entered : Bool) (given : List Val)
      (below : List Level) (later : List Moment) (moment : Moment) (known : Known) (store : Store)
      (left : List Observation) (st : LogState)
      → IsHostCall m shape (AtCall direct callee entered given ∷ below) known store left moment func args
      (IsTrail m shape outcome later)
      → Knows m shape outcome known store st → Rest m shape outcome later
      → Reports m shape (AtCall direct callee entered given ∷ below) known left st
      (record moment { entry = HostCall func args } ∷ later)
  inner_call func args direct callee entered given below later moment known store left st h knows rest =
      passed_on (AtCall direct callee entered given ∷ below) next known store moment.after left h.later st
      (reported_enter func args moment.after) (HostCall func args) later
      (record {
        passes =
            enter_passes m shape hooked func args (AtCall direct callee entered given ∷ below) known.entries
            moment.after h.defined (func_there m func h.typed.ty h.typed.has_type) h.typed
            (orders.host_may m shape hooked func (AtCall direct callee entered given ∷ below) h.host) refl;
        counts = λ entries.
            ap (λ b. calls_in (HostCall func args ∷ entries) (cond b (suc (opened below)) (opened below))) h.host
            ∙ sym (ap (λ b. calls_in entries (cond b (suc (opened below)) (opened below))) h.host);
        finds = λ number.
            ap (λ b. call_from b number (cond b (suc (opened below)) (opened below)) known left) h.host
            ∙ ap (call_after number (suc (opened below)) known) h.observed
            ∙ sym (ap (λ b. at_call number (cond b (suc (opened below)) (opened below)) known h.later) h.host);
      })
      h.keeps knows rest h.follows
    where
      next : List Level
      next = AtFunction func ∷ AtCall direct callee true given ∷ below

  pub host_call : (func : ℕ) (args : List Val) → FirstReports m shape outcome (HostCall func args)
  host_call func args later moment [] known store left st h knows rest =
      top_call func args later moment known store left st h knows rest
  host_call func args later moment (AtFunction inner ∷ below) known store left st h knows rest =
      let e : false ≡ true = h.host in cc
  host_call func args later moment (AtImport direct callee given ∷ below) known store left st h knows rest =
      let e : false ≡ true = h.host in cc
  host_call func args later moment (AtCall direct callee entered given ∷ below) known store left st h knows rest =
      inner_call func args direct callee entered given below later moment known store left st h knows rest

  -- ---- the module enters a function that it called

  pub entered : (func : ℕ) → FirstReports m shape outcome (Enter func)
  entered func later moment levels known store left st h knows rest =
      subst (λ l. Reports m shape l known left st (record moment { entry = Enter func } ∷ later)) (sym h.stands)
      (passed_on top inner known store moment.after left left st (reported_enter func h.args moment.after) (Enter func)
      later
      (record {
        passes =
            enter_passes m shape hooked func h.args top known.entries moment.after h.defined
            (func_there m func h.typed.ty h.typed.has_type) h.typed (callee_may shape.imports func) refl;
        counts = λ entries. refl;
        finds = λ number. ap (λ b. call_from b number (opened top) known left) (never_imported n func h.defined);
      })
      (λ at i. ap (λ (s : Store). slice_get s.globals at) h.same) knows rest h.follows)
    where
      top : List Level
      top = AtCall h.direct func false h.args ∷ h.below

      inner : List Level
      inner = AtFunction func ∷ AtCall h.direct func true h.args ∷ h.below

  -- ---- returns

  pub host_return : (func : ℕ) (results : List Val) → FirstReports m shape outcome (HostReturn func results)
  host_return func results later moment levels known store left st h knows rest =
      subst
      (λ l. Reports m shape l known left st (record moment { entry = HostReturn func results } ∷ later)) (sym h.stands)
      (passed_on (AtFunction func ∷ h.below) h.below known store moment.after left h.later st
      (reported_number Leave func moment.after) (HostReturn func results) later
      (record {
        passes = leave_passes m shape hooked func h.below known.entries moment.after;
        counts = λ entries. refl;
        finds = λ number.
            ap (at_call number (opened h.below) known) h.observed
            ∙ begun number (opened h.below) known Back h.later
            ∙ sym (ap (λ b. call_from b number (opened h.below) known h.later) h.host);
      })
      h.keeps knows rest h.follows)

  pub exited : (func : ℕ) (results : List Val) → FirstReports m shape outcome (Exit func results)
  exited func results later moment levels known store left st h knows rest =
      subst
      (λ l. Reports m shape l known left st (record moment { entry = Exit func results } ∷ later)) (sym h.stands)
      (passed_on (AtFunction func ∷ called) h.below known store moment.after left left st
      (reported_number Leave func moment.after
      ++ (reported_values moment.after results ++ reported_over (cond h.direct (Some func) None) moment.after))
      (Exit func results) later
      (record {
        passes =
            both_pass m shape (reported_number Leave func moment.after)
            (reported_values moment.after results ++ reported_over (cond h.direct (Some func) None) moment.after)
            (state (AtFunction func ∷ called) [] known.entries) (state called [] known.entries)
            (state h.below [] known.entries)
            (leave_passes m shape hooked func called known.entries moment.after)
            (over_passes m shape hooked h.direct func true h.args results h.below known.entries moment.after
            (or-true (nat_lt func n)) h.typed);
        counts = λ entries.
            ap (λ b. calls_in entries (cond b (suc (opened h.below)) (opened h.below))) (never_imported n func h.defined);
        finds = λ number.
            ap (λ b. at_call number (cond b (suc (opened h.below)) (opened h.below)) known left)
            (never_imported n func h.defined)
            ∙ sym (search_within m shape h.below number (opened h.below) known left h.within);
      })
      (λ at i. ap (λ (s : Store). slice_get s.globals at) h.same) knows rest h.follows)
    where
      called : List Level
      called = AtCall h.direct func true h.args ∷ h.below

  -- ---- imports

  pub import_called : (import : ℕ) (args : List Val) → FirstReports m shape outcome (ImportCall import args)
  import_called import args later moment levels known store left st h knows rest =
      subst
      (λ l. Reports m shape l known left st (record moment { entry = ImportCall import args } ∷ later)) (sym h.stands)
      (passed_on (AtImport h.direct import h.args ∷ h.below) next known store moment.after left h.later st []
      (ImportCall import args) later
      (record {
        passes = nothing_passes m shape (state next [] known.entries);
        counts = λ entries.
            sym (ap (λ b. calls_in entries (cond b (suc (opened h.below)) (opened h.below))) h.imported);
        finds = λ number.
            ap (at_call number (opened h.below) known) h.observed
            ∙ begun number (opened h.below) known (Import import) h.later
            ∙ sym
            (ap (λ b. call_from b number (cond b (suc (opened h.below)) (opened h.below)) known h.later) h.imported);
      })
      h.keeps knows rest h.follows)
    where
      next : List Level
      next = AtCall h.direct import false h.args ∷ h.below

  pub import_return : (import : ℕ) (results : List Val) → FirstReports m shape outcome (ImportReturn import results)
  import_return import results later moment levels known store left st h knows rest =
      subst
      (λ l. Reports m shape l known left st (record moment { entry = ImportReturn import results } ∷ later))
      (sym h.stands)
      (passed_on (AtCall h.direct import h.entered h.args ∷ h.below) h.below known store moment.after left h.later st
      (reported_values moment.after results ++ reported_over (cond h.direct (Some import) None) moment.after)
      (ImportReturn import results) later
      (record {
        passes =
            over_passes m shape hooked h.direct import h.entered h.args results h.below known.entries moment.after
            (ap (λ b. b || h.entered) h.imported) h.typed;
        counts = λ entries.
            ap (λ b. calls_in (ImportReturn import results ∷ entries) (cond b (suc (opened h.below)) (opened h.below)))
            h.imported;
        finds = λ number.
            ap (λ b. call_from b number (cond b (suc (opened h.below)) (opened h.below)) known left) h.imported
            ∙ ap (call_after number (suc (opened h.below)) known) h.observed
            ∙ sym (search_within m shape h.below number (opened h.below) known h.later h.within);
      })
      h.keeps knows rest h.follows)
