-- The hook calls of the steps of a trail have events.
use Rattle.std.proofs.Common.{◌≡◌, ℕ, ◌-◌, List, [], ◌∷◌, ◌++◌, length, take, Option, Some, Bool, true, false, cond, nat_lt, refl, sym, ap, ◌∙◌, subst, inl}
use Rattle.std.specs.Prelude.{Ok}
use Rattle.std.specs.List.{AllByRecursion}
use Rattle.std.proofs.lemmas.List.{append_assoc}
use Rattle.wasm_syntax.specs.declared.values.Val.{Val}
use Rattle.wasm_syntax.specs.declared.modules.Module.{Module}
use Rattle.wasm_syntax.specs.Index.{imported_funcs, all_globals}
use Rattle.wasm_syntax.specs.declared.instructions.Instr.{Instr}
use Rattle.base.specs.declared.outcomes.Outcome.{Outcome}
use Rattle.trace_model.specs.declared.events.Event.{Event}
use Rattle.trace_model.specs.declared.events.Event.TheVariants as events
use Rattle.trace_model.specs.declared.tapes.Origin.TheVariants.{Import}
use Rattle.history_spec.specs.declared.entries.Entry.{Entry}
use Rattle.history_spec.specs.declared.entries.Entry.TheVariants.{Step}
use Rattle.history_spec.specs.Instantiation.{table_length}
use Rattle.history_spec.specs.Instruction.{bits_at}
use Rattle.history_spec.specs.Store.{Store}
use Rattle.record_replay_spec.specs.Known.{Known, entries_after, known_after_all}
use Rattle.record_replay_spec.specs.Observations.{Observation, ReachesEntry}
use Rattle.record_replay_spec.specs.Windows.{window}
use Rattle.record_replay_spec.specs.Changes.{with_changes}
use Rattle.tape_laws.proofs.Relation.{AreSeen}
use Rattle.tape_laws.specs.RealReads.{IsKnownOf, IsReadOf}
use Rattle.record_replay_spec.specs.declared.hooks.Hook.TheVariants.{Pre, Ipre}
use Rattle.record_replay_spec.specs.Hooks.{HookCall}
use Rattle.record_replay_spec.specs.Logs.{LogState, log_after_all, all_observed_events, events_from}
use Rattle.record_replay_spec.specs.LogTapes.{Begins as BeginsMark, InCall, mark_if, is_trapped_call, marks_from}
use Rattle.record_replay_spec.specs.Order.{HookedShape}
use Rattle.record_replay_spec.specs.ReportedCalls.{Moment, WaitingCall, reported_calls, reported_number, reported_by_step, waiting_after_step}
use Rattle.tape_laws.proofs.CallObservations.{seen_by, as_reported}
use Rattle.tape_laws.proofs.CallOrder as orders
use Rattle.tape_laws.proofs.Trails.{Level, AtFunction, AtCall, call_level, waiting_calls, IsOfCore, Leads, Stays, Direct, Indirect, IsTrail}
use Rattle.tape_laws.proofs.CallOrder.{IsHooked, renumbered, state}
use Rattle.tape_laws.proofs.CallLogs as logs
use Rattle.tape_laws.proofs.ItemEvents.{Keeps}
use Rattle.tape_laws.proofs.ItemSteps.{keeps_after_all, agrees_all}
use Rattle.tape_laws.proofs.TrailLogs as trail_logs
use Rattle.tape_laws.proofs.LogMarks.{log_frames, CallOnTop, IsSizeReported, ModuleAgrees, AgreesBy, AgreesAt}
use Rattle.tape_laws.proofs.CallLogs.{Logged}
use Rattle.tape_laws.proofs.TrailLogs.{Reports_by, Reports, Rest, FirstReports}
use Rattle.tape_laws.proofs.LogStands.{Stands, stands_there, stands_kept, kept_stands}

module _ (m : Module) (shape : HookedShape) (hooked : IsHooked m shape) (outcome : Outcome) where
  abbrev n : ℕ
  n = imported_funcs m

  abbrev reported : List Observation → List Observation
  reported items = as_reported shape n (all_globals m) items

  -- a call that begins has the events of a call of any function
  as_call : (imported direct : Bool) (callee : ℕ) (args : List Val) (levels : List Level) (entries : ℕ) (st : LogState)
      (later : List Moment) (found : List Event)
      → ((at : ℕ)
      → events_from shape (state (call_level imported direct callee args ∷ levels) [] entries) st at
      (renumbered m (reported_calls (all_globals m) (waiting_calls (call_level imported direct callee args ∷ levels)) later))
      ≡ Ok found)
      → (at : ℕ)
      → events_from shape (state (AtCall direct callee false args ∷ levels) [] entries) st at
      (renumbered m (reported_calls (all_globals m) (waiting_calls (AtCall direct callee false args ∷ levels)) later))
      ≡ Ok found
  as_call true direct callee args levels entries st later found h = h
  as_call false direct callee args levels entries st later found h = h

  call_on_top : (imported direct : Bool) (callee : ℕ) (args : List Val) (levels : List Level)
      → CallOnTop (call_level imported direct callee args ∷ levels)
  call_on_top true direct callee args levels = tt
  call_on_top false direct callee args levels = tt

  -- the marks of a call, and of what follows it
  pre_marks : (callee : ℕ) (levels : List Level) (size : ℕ) (found : List Event) (imported : Bool)
      → nat_lt callee n ≡ imported → is_trapped_call outcome (events.Pre (Some callee)) found ≡ false
      → marks_from n outcome (log_frames levels) size (events.Pre (Some callee) ∷ found)
      ≡ mark_if imported (BeginsMark (Import callee))
      ++ marks_from n outcome (InCall (Some callee) ∷ log_frames levels) size found
  pre_marks callee levels size found imported e not =
      ap
      (λ b. cond b [] (mark_if (nat_lt callee n) (BeginsMark (Import callee)))
      ++ marks_from n outcome (InCall (Some callee) ∷ log_frames levels) size found) not
      ∙ ap
      (λ b. mark_if b (BeginsMark (Import callee))
      ++ marks_from n outcome (InCall (Some callee) ∷ log_frames levels) size found) e

  -- the marks of a call and of what follows it agree with what is observed
  pre_agrees : (imported direct : Bool) (callee : ℕ) (args : List Val) (levels : List Level) (known : Known)
      (store : Store) (left : List Observation) (size : ℕ) (found : List Event) → nat_lt callee n ≡ imported
      → is_trapped_call outcome (events.Pre (Some callee)) found ≡ false
      → AgreesAt n (call_level imported direct callee args ∷ levels) known store left
      (marks_from n outcome (log_frames (call_level imported direct callee args ∷ levels)) size found)
      → ModuleAgrees known store left
      (marks_from n outcome (log_frames levels) size (events.Pre (Some callee) ∷ found))
  pre_agrees true direct callee args levels known store left size found e not h =
      subst (ModuleAgrees known store left) (sym (pre_marks callee levels size found true e not)) h
  pre_agrees false direct callee args levels known store left size found e not h =
      subst (ModuleAgrees known store left) (sym (pre_marks callee levels size found false e not))
      (subst
      (λ b. AgreesBy b known store left
      (marks_from n outcome (InCall (Some callee) ∷ log_frames levels) size found)) e h)

  -- ---- an instruction is executed

  module _ (later : List Moment) (moment : Moment) (func : ℕ) (below after : List Level) (known : Known)
      (st : LogState) (items obs : List Observation) (of : IsKnownOf known moment.before)
      (are : AreSeen known moment.before items) (core : AllByRecursion IsOfCore items)
      (changed : moment.after ≡ with_changes moment.before items)
      (stands : Stands m (AtFunction func ∷ below) known moment.before st) (rest : Rest m shape outcome later)
      (follows : IsTrail m shape (Some outcome) later after (known_after_all known items) moment.after obs) where
    abbrev top : List Level
    top = AtFunction func ∷ below

    abbrev known_next : Known
    known_next = known_after_all known items

    abbrev st_next : LogState
    st_next = log_after_all st (reported items)

    kept_at : (size : ℕ) → IsSizeReported size known st → Keeps n (all_globals m) known moment.before st size
    kept_at size size_reported = stands_kept m func below known moment.before st size size_reported stands

    kept_next : (size : ℕ) → IsSizeReported size known st
        → Keeps n (all_globals m) known_next (with_changes moment.before items) st_next size
    kept_next size size_reported =
        keeps_after_all n (all_globals m) (hooked.indices.of_renumbered n) size known moment.before st items (kept_at size size_reported) are core

    stands_next : Stands m after known_next moment.after st_next
    stands_next =
        kept_stands m after known_next (with_changes moment.before items) moment.after st_next st.noticed changed
        (kept_next st.noticed (inl refl))

    r : Reports m shape outcome after known_next moment.after obs st_next later
    r = rest after known_next moment.after obs st_next follows stands_next

    -- if the marks of what follows agree with its observations, so do all marks
    all_agree : (size : ℕ) (more : List Event) → IsSizeReported size known st
        → ModuleAgrees known_next moment.after obs (marks_from n outcome (log_frames top) size more)
        → ModuleAgrees known moment.before (items ++ obs)
        (marks_from n outcome (log_frames top) size (all_observed_events n st (reported items) ++ more))
    all_agree size more size_reported h =
        let a = agrees_all n (all_globals m) (hooked.indices.of_renumbered n) size outcome (log_frames top) known moment.before st items obs more
        (kept_at size size_reported) of are core (subst (λ s. IsReadOf known_next (window obs) s) changed h.reads) h.agrees
        in
        record { agrees = a.0; reads = a.1 }

    -- an instruction stays in its function
    stayed : (operands results : List Val) (entry : Entry) → after ≡ top
        → ((waiting : List WaitingCall) → waiting_after_step moment.instr operands waiting ≡ waiting)
        → Logged m shape (state top [] known.entries) st (reported_by_step (all_globals m) moment.instr operands results moment)
        (all_observed_events n st (reported items)) (state top [] known.entries) st_next
        → known_next.entries ≡ known.entries
        → (number : ℕ) (found : Option ℕ)
        → Reports m shape outcome top known moment.before (items ++ obs) st
        (record moment { entry = Step func number operands results found } ∷ later)
    stayed operands results entry same waits logged entries number found =
        let t : Reports m shape outcome top known_next moment.after obs st_next later =
        subst (λ l. Reports m shape outcome l known_next moment.after obs st_next later) same r in
        record {
          found = all_observed_events n st (reported items) ++ t.found;
          are =
              trail_logs.logged_then m shape hooked outcome (state top [] known.entries) st
              (reported_by_step (all_globals m) moment.instr operands results moment)
              (all_observed_events n st (reported items)) (state top [] known.entries) st_next
              (reported_calls (all_globals m) (waiting_after_step moment.instr operands (waiting_calls top)) later) t.found
              logged
              (subst
              (λ w. (at : ℕ)
              → events_from shape (state top [] known.entries) st_next at (renumbered m (reported_calls (all_globals m) w later))
              ≡ Ok t.found)
              (sym (waits (waiting_calls top)))
              (subst
              (λ e. (at : ℕ)
              → events_from shape (state top [] e) st_next at
              (renumbered m (reported_calls (all_globals m) (waiting_calls top) later))
              ≡ Ok t.found) entries t.are));
          agrees = λ size size_reported.
              all_agree size t.found size_reported (t.agrees size (kept_next size size_reported).size_reported);
          not_last = λ c callee. absurd c;
        }

    -- an instruction calls a function
    called : (direct : Bool) (callee : ℕ) (args : List Val) (calls : List HookCall) (seen_entries : ℕ)
        → after ≡ call_level (nat_lt callee n) direct callee args ∷ top
        → Logged m shape (state top [] known.entries) st calls
        (all_observed_events n st (reported items) ++ events.Pre (Some callee) ∷ [])
        (state (AtCall direct callee false args ∷ top) [] seen_entries) st_next
        → known_next.entries ≡ seen_entries
        → Reports_by m shape outcome top known moment.before (items ++ obs) st
        (renumbered m (calls ++ reported_calls (all_globals m) (waiting_calls (AtCall direct callee false args ∷ top)) later))
    called direct callee args calls seen_entries same logged entries =
        let t : Reports m shape outcome (call_level (nat_lt callee n) direct callee args ∷ top) known_next moment.after obs st_next later =
        subst (λ l. Reports m shape outcome l known_next moment.after obs st_next later) same r in
        record {
          found = all_observed_events n st (reported items) ++ (events.Pre (Some callee) ∷ t.found);
          are = λ at.
              trail_logs.logged_then m shape hooked outcome (state top [] known.entries) st calls
              (all_observed_events n st (reported items) ++ events.Pre (Some callee) ∷ [])
              (state (AtCall direct callee false args ∷ top) [] seen_entries) st_next
              (reported_calls (all_globals m) (waiting_calls (AtCall direct callee false args ∷ top)) later) t.found logged
              (as_call (nat_lt callee n) direct callee args top seen_entries st_next later t.found
              (subst
              (λ e. (at : ℕ)
              → events_from shape (state (call_level (nat_lt callee n) direct callee args ∷ top) [] e) st_next at
              (renumbered m
              (reported_calls (all_globals m) (waiting_calls (call_level (nat_lt callee n) direct callee args ∷ top)) later))
              ≡ Ok t.found) entries t.are))
              at
              ∙ ap Ok
              (append_assoc (all_observed_events n st (reported items)) (events.Pre (Some callee) ∷ []) t.found);
          agrees = λ size size_reported.
              all_agree size (events.Pre (Some callee) ∷ t.found) size_reported
              (pre_agrees (nat_lt callee n) direct callee args top known_next moment.after obs size t.found refl
              (t.not_last (call_on_top (nat_lt callee n) direct callee args top) (Some callee))
              (t.agrees size (kept_next size size_reported).size_reported));
          not_last = λ c callee. absurd c;
        }

  pub stepped : (func number : ℕ) (operands results : List Val) (found : Option ℕ)
      → FirstReports m shape outcome (Step func number operands results found)
  stepped func number operands results found later moment levels known store left st h stands rest =
      subst (λ s. Reports m shape outcome levels known s left st now) h.begins
      (subst (λ l. Reports m shape outcome levels known moment.before l st now) (sym h.observed)
      (subst (λ l. Reports m shape outcome l known moment.before (h.items ++ h.later) st now) (sym h.stands)
      (go (subst (λ l. Leads m shape l h.after known h.items moment operands results) h.stands h.leads))))
    where
      now : List Moment
      now = record moment { entry = Step func number operands results found } ∷ later

      here : Stands m (AtFunction func ∷ h.below) known moment.before st
      here = stands_there m levels (AtFunction func ∷ h.below) known store moment.before st h.stands h.begins stands

      -- the hook calls of a step with this instruction, and those after it, have events
      StepReports : Option Instr → Type 0
      StepReports instr =
          Reports_by m shape outcome (AtFunction func ∷ h.below) known moment.before (h.items ++ h.later) st
          (renumbered m
          (reported_by_step (all_globals m) instr operands results moment
          ++ reported_calls (all_globals m) (waiting_after_step instr operands (waiting_calls (AtFunction func ∷ h.below)))
          later))

      go : Leads m shape (AtFunction func ∷ h.below) h.after known h.items moment operands results
          → Reports m shape outcome (AtFunction func ∷ h.below) known moment.before (h.items ++ h.later) st
          (record moment { entry = Step func number operands results found } ∷ later)
      go (Stays same waits reportable entries) =
          stayed later moment func h.below h.after known st h.items h.later h.of h.are h.core h.changed here rest h.follows
          operands results (Step func number operands results found) same waits
          (subst
          (λ l. Logged m shape (state (AtFunction func ∷ h.below) [] known.entries) st
          (reported_by_step (all_globals m) moment.instr operands results moment) (all_observed_events n st l)
          (state (AtFunction func ∷ h.below) [] known.entries) (log_after_all st l))
          h.observes
          (logs.reportable_logged m shape hooked
          (reported_by_step (all_globals m) moment.instr operands results moment)
          (state (AtFunction func ∷ h.below) [] known.entries) st refl reportable))
          entries number found
      go (Direct callee calls same there none) =
          subst StepReports (sym calls)
          (called later moment func h.below h.after known st h.items h.later h.of h.are h.core h.changed here rest
          h.follows true callee operands (reported_number Pre callee moment.before ++ []) known.entries same
          (subst
          (λ l. Logged m shape (state (AtFunction func ∷ h.below) [] known.entries) st
          (reported_number Pre callee moment.before ++ [])
          (all_observed_events n st (reported l) ++ events.Pre (Some callee) ∷ [])
          (state (AtCall true callee false operands ∷ AtFunction func ∷ h.below) [] known.entries)
          (log_after_all st (reported l)))
          (sym none)
          (logs.pre_logged m shape hooked callee func operands h.below known.entries moment.before st
          there))
          (ap (λ l. (known_after_all known l).entries) none))
      go (Indirect t callee calls same there entry entries) =
          subst StepReports (sym calls)
          (called later moment func h.below h.after known st h.items h.later h.of h.are h.core h.changed here rest
          h.follows false callee (take (length operands - 1) operands)
          (reported_number Ipre (bits_at operands (length operands - 1)) moment.before)
          (entries_after known.entries
          (ReachesEntry (bits_at operands (length operands - 1)) (table_length moment.before.table)))
          same
          (subst
          (λ l. Logged m shape (state (AtFunction func ∷ h.below) [] known.entries) st
          (reported_number Ipre (bits_at operands (length operands - 1)) moment.before)
          (all_observed_events n st l ++ events.Pre (Some callee) ∷ [])
          (orders.after_index m shape hooked func (bits_at operands (length operands - 1)) h.below
          known.entries moment.before (Some callee))
          (log_after_all st l))
          (subst
          (λ i. seen_by shape n (all_globals m) (reported_by_step (all_globals m) i operands results moment) ≡ reported h.items)
          calls h.observes)
          (logs.ipre_logged m shape hooked func (bits_at operands (length operands - 1)) h.below
          known.entries moment.before (Some callee) st h.of.entries entry there))
          entries)
