-- The hook calls of a whole trail have balanced events.
use Rattle.std.proofs.Common.{◌≡◌, ℕ, ◌-◌, List, [], ◌∷◌, ◌++◌, length, take, Option, Some, None, Bool, true, false, cond, nat_eq, nat_lt, refl, sym, ap, ◌∙◌, subst}
use Rattle.std.specs.Prelude.{◌||◌}
use Rattle.std.proofs.lemmas.List.{append-nil}
use Rattle.std.proofs.lemmas.Option.{same_Some}
use Rattle.wasm_syntax.specs.declared.values.Val.{Val}
use Rattle.wasm_syntax.specs.declared.modules.Module.{Module}
use Rattle.wasm_syntax.specs.Index.{imported_funcs, all_globals}
use Rattle.wasm_syntax.specs.declared.instructions.Instr.{Instr}
use Rattle.base.specs.declared.outcomes.Outcome.{Outcome}
use Rattle.base.specs.declared.outcomes.Outcome.TheVariants.{Ended, Trapped, HostTrapped}
use Rattle.trace_model.specs.declared.events.Event.TheVariants as events
use Rattle.trace_model.specs.Balance.{ends_so}
use Rattle.history_spec.specs.declared.entries.Entry.{Entry}
use Rattle.history_spec.specs.declared.entries.Entry.TheVariants.{HostCall, HostReturn, ImportCall, ImportReturn, Enter, Exit, Step, Trap, HostTrap}
use Rattle.history_spec.specs.declared.entries.TrapKind.{TrapKind}
use Rattle.history_spec.specs.Instantiation.{table_length}
use Rattle.history_spec.specs.Instruction.{bits_at}
use Rattle.record_replay_spec.specs.Known.{Known, entry_of, entries_after, known_after_all}
use Rattle.record_replay_spec.specs.Observations.{Observation, ReachesEntry}
use Rattle.record_replay_spec.specs.declared.hooks.Hook.TheVariants.{Pre, Ipre}
use Rattle.record_replay_spec.specs.Hooks.{HookCall}
use Rattle.record_replay_spec.specs.Logs.{LogState, log_after_all, all_observed_events}
use Rattle.record_replay_spec.specs.Order.{HookedShape}
use Rattle.record_replay_spec.specs.ReportedCalls.{Moment, reported_calls, reported_number, reported_by_step, reported_by_trap, waiting_after_step}
use Rattle.tape_laws.proofs.CallObservations.{seen_by}
use Rattle.tape_laws.proofs.CallOrder as orders
use Rattle.tape_laws.proofs.Trails.{Level, AtFunction, AtCall, call_level, waiting_calls, Leads, Stays, Direct, Indirect, ReportsTrap, Quiet, AtEntry, IsTrailEnd}
use Rattle.tape_laws.proofs.CallOrder.{IsHooked, renumbered, state}
use Rattle.tape_laws.proofs.TrailOrder.{calls_at}
use Rattle.tape_laws.proofs.BalancedEvents.{on_function, AreBalanced, nothing_open, just_called, both_lead, pre_leads, observed_lead}
use Rattle.tape_laws.proofs.CallLogs as logs
use Rattle.tape_laws.proofs.HostTraps.{TrapsInside, inside_after}
use Rattle.tape_laws.proofs.TrailLogs as trail_logs
use Rattle.tape_laws.proofs.BalancedCalls as balanced_calls
use Rattle.tape_laws.proofs.BalancedCalls.{open_imports, IsInside, in_import, call_inside, IsInsideAt, Balances, Reports, ReportsAt, FirstBalances}
use Rattle.tape_laws.proofs.EachMoment.{HoldsFor, holds_for}

module _ (m : Module) (shape : HookedShape) (hooked : IsHooked m shape) (outcome : Outcome) where
  abbrev n : ℕ
  n = imported_funcs m

  abbrev seen : List HookCall → List Observation
  seen calls = seen_by shape n (all_globals m) calls

  -- ---- instructions

  stepped : (func number : ℕ) (operands results : List Val) (found : Option ℕ)
      → FirstBalances m shape outcome (Step func number operands results found)
  stepped func number operands results found later moment levels known store left st h inside rest =
      subst (λ l. Reports m shape outcome l known.entries st now) (sym h.stands)
      (go (subst (λ l. Leads m shape l h.after known h.items moment operands results) h.stands h.leads))
    where
      now : List Moment
      now = record moment { entry = Step func number operands results found } ∷ later

      top : List Level
      top = AtFunction func ∷ h.below

      index : ℕ
      index = bits_at operands (length operands - 1)

      args : List Val
      args = take (length operands - 1) operands

      left_inside : TrapsInside false (open_imports n h.below) h.later
      left_inside =
          inside_after (open_imports n h.below) known moment.before h.items h.later h.are
          (subst (λ l. IsInside n (AtFunction func ∷ h.below) l) h.observed
          (subst (λ l. IsInside n l left) h.stands inside))

      -- what follows is balanced at the levels and with the entries after the step
      follows_at : (st : LogState) (levels : List Level) (entries : ℕ) → h.after ≡ levels
          → (known_after_all known h.items).entries ≡ entries → IsInside n levels h.later
          → Reports m shape outcome levels entries st later
      follows_at st levels entries same e inside =
          subst (λ e. Reports m shape outcome levels e st later) e
          (subst (λ l. Reports m shape outcome l (known_after_all known h.items).entries st later) same
          (rest h.after (known_after_all known h.items) moment.after h.later st h.follows
          (subst (λ l. IsInside n l h.later) (sym same) inside)))

      called : (direct : Bool) (callee : ℕ) (args : List Val) (entries : ℕ) (st : LogState)
          → h.after ≡ call_level (nat_lt callee n) direct callee args ∷ AtFunction func ∷ h.below
          → (known_after_all known h.items).entries ≡ entries
          → Reports m shape outcome (AtCall direct callee false args ∷ AtFunction func ∷ h.below) entries st later
      called direct callee args entries st same e =
          balanced_calls.as_call m shape outcome (nat_lt callee n) direct callee args (AtFunction func ∷ h.below) entries st later
          (follows_at st (call_level (nat_lt callee n) direct callee args ∷ AtFunction func ∷ h.below) entries same e
          (call_inside n (nat_lt callee n) direct callee args (AtFunction func ∷ h.below) h.later refl left_inside))

      -- the hook calls of a step with this instruction, and those after it, are balanced
      StepBalances : Option Instr → Type 0
      StepBalances instr =
          Balances m shape outcome top known.entries st
          (renumbered m
          (reported_by_step (all_globals m) instr operands results moment
          ++ reported_calls (all_globals m) (waiting_after_step instr operands (waiting_calls top)) later))

      go : Leads m shape (AtFunction func ∷ h.below) h.after known h.items moment operands results
          → Reports m shape outcome (AtFunction func ∷ h.below) known.entries st
          (record moment { entry = Step func number operands results found } ∷ later)
      go (Stays same waits reportable entries) =
          let calls = reported_by_step (all_globals m) moment.instr operands results moment in
          balanced_calls.then_balances m shape hooked outcome top top known.entries known.entries st
          (log_after_all st (seen calls)) calls
          (reported_calls (all_globals m) (waiting_after_step moment.instr operands (waiting_calls top)) later)
          (all_observed_events n st (seen calls))
          (logs.reportable_logged m shape hooked calls (state top [] known.entries) st refl reportable)
          (observed_lead n outcome top st (seen calls) tt)
          (subst
          (λ w. Balances m shape outcome top known.entries (log_after_all st (seen calls)) (renumbered m (reported_calls (all_globals m) w later)))
          (sym (waits (waiting_calls top)))
          (follows_at (log_after_all st (seen calls)) top known.entries same entries left_inside))
      go (Direct callee calls same there none) =
          subst StepBalances (sym calls)
          (balanced_calls.then_balances m shape hooked outcome top
          (AtCall true callee false operands ∷ top) known.entries known.entries st st
          (reported_number Pre callee moment.before ++ []) (calls_at m (AtCall true callee false operands ∷ top) later)
          (events.Pre (Some callee) ∷ [])
          (logs.pre_logged m shape hooked callee func operands h.below known.entries moment.before st
          there)
          (pre_leads n outcome true callee operands top st tt)
          (called true callee operands known.entries st same (ap (λ l. (known_after_all known l).entries) none)))
      go (Indirect t callee calls same there entry entries) =
          let reported = reported_number Ipre index moment.before in
          let after = log_after_all st (seen reported) in
          let seen_entries = entries_after known.entries (ReachesEntry index (table_length moment.before.table)) in
          subst StepBalances (sym calls)
          (balanced_calls.then_balances m shape hooked outcome top
          (AtCall false callee false args ∷ top) known.entries seen_entries st after reported
          (calls_at m (AtCall false callee false args ∷ top) later)
          (all_observed_events n st (seen reported) ++ events.Pre (Some callee) ∷ [])
          (logs.ipre_logged m shape hooked func index h.below known.entries moment.before (Some callee)
          st h.of.entries entry there)
          (both_lead n outcome top top (AtCall false callee false args ∷ top) st after after
          (all_observed_events n st (seen reported)) (events.Pre (Some callee) ∷ [])
          (observed_lead n outcome top st (seen reported) tt) (pre_leads n outcome false callee args top after tt))
          (called false callee args seen_entries after same entries))

  -- ---- the run is over

  trapped : (func number : ℕ) (kind : TrapKind) (operands : List Val) (found : Option ℕ)
      → FirstBalances m shape outcome (Trap func number kind operands found)
  trapped func number kind operands found later moment levels known store left st h inside rest =
      subst (λ l. Reports m shape outcome l known.entries st (now later)) (sym h.stands)
      (subst (λ l. Reports m shape outcome top known.entries st (now l)) (sym h.last) (go h.reports))
    where
      top : List Level
      top = AtFunction func ∷ h.below

      now : List Moment → List Moment
      now l = record moment { entry = Trap func number kind operands found } ∷ l

      over : outcome ≡ Trapped
      over = same_Some outcome Trapped h.over

      index : ℕ
      index = bits_at operands (length operands - 1)

      callee : Option ℕ
      callee = entry_of moment.before.table (bits_at operands (length operands - 1))

      -- a function is the topmost level
      in_function : (grew : Bool) → AreBalanced n outcome (AtFunction func ∷ h.below) grew []
      in_function grew frames are at called =
          ap
          (λ o. cond (ends_so n (record { frames = frames; grew = grew; called = called }) o) None (Some at)) over
          ∙ ap (λ b. cond (b || called) None (Some at)) (on_function n top frames tt are)

      go : ReportsTrap m shape moment operands
          → Reports m shape outcome (AtFunction func ∷ h.below) known.entries st
          (record moment { entry = Trap func number kind operands found } ∷ [])
      go (Quiet reportable) =
          let calls = reported_by_trap moment.instr operands moment in
          balanced_calls.then_balances m shape hooked outcome top top known.entries known.entries st
          (log_after_all st (seen calls)) calls []
          (all_observed_events n st (seen calls))
          (logs.reportable_logged m shape hooked calls (state top [] known.entries) st refl reportable)
          (observed_lead n outcome top st (seen calls) tt)
          (record { found = []; are = λ at. refl; balanced = λ grew sees. in_function grew })
      go (AtEntry t calls entry) =
          let reported = reported_number Ipre index moment.before in
          subst
          (λ i. Balances m shape outcome (AtFunction func ∷ h.below) known.entries st (renumbered m (reported_by_trap i operands moment ++ [])))
          (sym calls)
          (record {
            found = (all_observed_events n st (seen reported) ++ events.Pre callee ∷ []) ++ [];
            are =
                trail_logs.logged_then m shape hooked outcome (state top [] known.entries) st reported
                (all_observed_events n st (seen reported) ++ events.Pre callee ∷ [])
                (orders.after_index m shape hooked func index h.below known.entries moment.before
                callee)
                (log_after_all st (seen reported)) [] []
                (logs.ipre_logged m shape hooked func index h.below known.entries moment.before callee
                st h.of.entries refl entry)
                (λ at. refl);
            balanced = λ grew sees.
                subst (AreBalanced n outcome top grew)
                (sym (append-nil (all_observed_events n st (seen reported) ++ events.Pre callee ∷ [])))
                (observed_lead n outcome top st (seen reported) tt grew sees (events.Pre callee ∷ [])
                (λ g s. just_called n outcome callee top g over tt));
          })

  host_trapped : FirstBalances m shape outcome HostTrap
  host_trapped later moment levels known store left st h inside rest =
      record {
        found = [];
        are = trail_logs.nothing_left m shape hooked outcome levels known.entries st later h.last;
        balanced = λ grew sees frames are at called.
            ap (λ o. cond (ends_so n (record { frames = frames; grew = grew; called = called }) o) None (Some at))
            (same_Some outcome HostTrapped h.over)
            ∙ ap (λ b. cond b None (Some at)) (in_import n levels frames h.host opened are);
      }
    where
      opened : nat_eq (open_imports n levels) 0 ≡ false
      opened =
          subst (λ l. TrapsInside true (open_imports n levels) l) h.observed
          (subst (λ b. TrapsInside b (open_imports n levels) left) h.host inside)

  -- ---- a whole trail

  at_entry : (entry : Entry) → FirstBalances m shape outcome entry
  at_entry (HostCall func args) = balanced_calls.host_call m shape hooked outcome func args
  at_entry (Enter func) = balanced_calls.entered m shape hooked outcome func
  at_entry (HostReturn func results) = balanced_calls.host_return m shape hooked outcome func results
  at_entry (Exit func results) = balanced_calls.exited m shape hooked outcome func results
  at_entry (ImportCall import args) = balanced_calls.import_called m shape hooked outcome import args
  at_entry (ImportReturn import results) = balanced_calls.import_return m shape hooked outcome import results
  at_entry (Step func number operands results found) =
      stepped func number operands results found
  at_entry (Trap func number kind operands found) = trapped func number kind operands found
  at_entry HostTrap = host_trapped

  at_end : (o : Outcome) → outcome ≡ o → (levels : List Level) (known : Known) (left : List Observation)
      (st : LogState) → IsTrailEnd m shape levels left (Some o) → Reports m shape outcome levels known.entries st []
  at_end Trapped over levels known left st h = absurd h
  at_end HostTrapped over levels known left st h = absurd h
  at_end Ended over levels known left st h =
      subst (λ l. Reports m shape outcome l known.entries st []) (sym h.0)
      (record { found = []; are = λ at. refl; balanced = λ grew sees. nothing_open n outcome grew over })

  pub reports : (moments : List Moment)
      → HoldsFor m shape (Some outcome) (IsInsideAt m shape outcome) (ReportsAt m shape outcome) moments
  reports =
      holds_for m shape (Some outcome) (IsInsideAt m shape outcome) (ReportsAt m shape outcome) at_entry
      (λ levels known store left st h inside. at_end outcome refl levels known left st h)
