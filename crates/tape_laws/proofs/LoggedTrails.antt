-- The hook calls of a whole trail have events, and the marks of these events agree with the trail's observations.
use Rattle.std.proofs.Common.{◌≡◌, ℕ, ◌-◌, List, [], ◌∷◌, ◌++◌, length, Option, Some, false, refl, sym, ap, subst}
use Rattle.std.proofs.lemmas.List.{append-nil}
use Rattle.std.proofs.lemmas.Option.{same_Some}
use Rattle.wasm_syntax.specs.declared.values.Val.{Val}
use Rattle.wasm_syntax.specs.declared.modules.Module.{Module}
use Rattle.wasm_syntax.specs.Index.{imported_funcs, all_globals}
use Rattle.base.specs.declared.outcomes.Outcome.{Outcome}
use Rattle.base.specs.declared.outcomes.Outcome.TheVariants.{Ended, Trapped, HostTrapped}
use Rattle.trace_model.specs.declared.events.Event.{Event}
use Rattle.trace_model.specs.declared.events.Event.TheVariants as events
use Rattle.trace_model.specs.declared.tapes.Origin.TheVariants.{Import}
use Rattle.trace_model.specs.declared.tapes.Next.TheVariants.{End, Trap as ByTrap}
use Rattle.history_spec.specs.declared.entries.Entry.{Entry}
use Rattle.history_spec.specs.declared.entries.Entry.TheVariants.{HostCall, HostReturn, ImportCall, ImportReturn, Enter, Exit, Step, Trap, HostTrap}
use Rattle.history_spec.specs.declared.entries.TrapKind.{TrapKind}
use Rattle.history_spec.specs.Instruction.{bits_at}
use Rattle.history_spec.specs.Store.{Store}
use Rattle.record_replay_spec.specs.Known.{Known, entry_of, known_after_all}
use Rattle.record_replay_spec.specs.Observations.{Observation, Begins, Ends}
use Rattle.record_replay_spec.specs.Windows.{window}
use Rattle.record_replay_spec.specs.Changes.{with_changes}
use Rattle.tape_laws.proofs.StepItems.{nothing_read}
use Rattle.tape_laws.specs.RealReads.{IsReadOf}
use Rattle.record_replay_spec.specs.declared.hooks.Hook.TheVariants.{Ipre}
use Rattle.record_replay_spec.specs.Logs.{LogState, log_after_all, all_observed_events}
use Rattle.record_replay_spec.specs.LogTapes.{Begins as BeginsMark, InCall, is_trapped_call, outcome_marks, marks_from}
use Rattle.record_replay_spec.specs.Order.{HookedShape}
use Rattle.record_replay_spec.specs.ReportedCalls.{Moment, reported_number, reported_by_trap}
use Rattle.tape_laws.proofs.CallObservations.{seen_by, as_reported}
use Rattle.tape_laws.proofs.CallOrder as orders
use Rattle.tape_laws.proofs.Trails.{Level, AtFunction, AtCall, ReportsTrap, Quiet, AtEntry, IsTrailEnd}
use Rattle.tape_laws.proofs.CallOrder.{IsHooked, renumbered, state}
use Rattle.tape_laws.proofs.Agrees.{Agrees, agrees_activity, agrees_over}
use Rattle.tape_laws.proofs.CallLogs as logs
use Rattle.tape_laws.proofs.ItemSteps.{agrees_all}
use Rattle.tape_laws.proofs.TrailLogs as trail_logs
use Rattle.tape_laws.proofs.LogMarks.{log_frames, IsSizeReported, ModuleAgrees, AgreesBy, agrees_host}
use Rattle.tape_laws.proofs.TrailLogSteps as trail_steps
use Rattle.tape_laws.proofs.CallLogs.{Logged}
use Rattle.tape_laws.proofs.TrailLogs.{Reports_by, Reports, Rest, FirstReports}
use Rattle.tape_laws.proofs.LogStands.{Stands, StandsAt, stands_there, stands_kept, outside_stands}
use Rattle.tape_laws.proofs.EachMoment.{holds_for}

module _ (m : Module) (shape : HookedShape) (hooked : IsHooked m shape) (outcome : Outcome) where
  abbrev n : ℕ
  n = imported_funcs m

  abbrev reported : List Observation → List Observation
  reported items = as_reported shape n (all_globals m) items

  -- ---- an instruction traps

  trapped : (func number : ℕ) (kind : TrapKind) (operands : List Val) (found : Option ℕ)
      → FirstReports m shape outcome (Trap func number kind operands found)
  trapped func number kind operands found later moment levels known store left st h stands rest =
      subst (λ s. Reports m shape outcome levels known s left st (now later)) h.begins
      (subst (λ l. Reports m shape outcome l known moment.before left st (now later)) (sym h.stands)
      (subst (λ l. Reports m shape outcome top known moment.before left st (now l)) (sym h.last) (go h.reports)))
    where
      top : List Level
      top = AtFunction func ∷ h.below

      now : List Moment → List Moment
      now l = record moment { entry = Trap func number kind operands found } ∷ l

      here : Stands m (AtFunction func ∷ h.below) known moment.before st
      here = stands_there m levels (AtFunction func ∷ h.below) known store moment.before st h.stands h.begins stands

      over : outcome ≡ Trapped
      over = same_Some outcome Trapped h.over

      -- all remaining observations were made before the trap
      agree : (size : ℕ) (more : List Event) → IsSizeReported size known st
          → marks_from n outcome (log_frames (AtFunction func ∷ h.below)) size more ≡ []
          → ModuleAgrees known moment.before left
          (marks_from n outcome (log_frames (AtFunction func ∷ h.below)) size
          (all_observed_events n st (reported left) ++ more))
      agree size more size_reported none =
          let a = agrees_all n (all_globals m) (hooked.indices.of_renumbered n) size outcome (log_frames (AtFunction func ∷ h.below)) known
          moment.before st left [] more
          (stands_kept m func h.below known moment.before st size size_reported here)
          h.of h.are h.core (nothing_read (known_after_all known left) (with_changes moment.before left))
          (subst (Agrees (known_after_all known left) []) (sym none) (agrees_over (known_after_all known left))) in
          record {
            agrees = subst
                (λ l. Agrees known l
                (marks_from n outcome (log_frames (AtFunction func ∷ h.below)) size
                (all_observed_events n st (reported left) ++ more)))
                (append-nil left) a.0;
            reads = subst (λ l. IsReadOf known (window l) moment.before) (append-nil left) a.1;
          }

      go : ReportsTrap m shape moment operands
          → Reports m shape outcome (AtFunction func ∷ h.below) known moment.before left st
          (record moment { entry = Trap func number kind operands found } ∷ [])
      go (Quiet reportable) =
          record {
            found = all_observed_events n st (reported left) ++ [];
            are =
                trail_logs.logged_then m shape hooked outcome
                (state (AtFunction func ∷ h.below) [] known.entries) st (reported_by_trap moment.instr operands moment)
                (all_observed_events n st (reported left)) (state (AtFunction func ∷ h.below) [] known.entries)
                (log_after_all st (reported left)) [] []
                (subst
                (λ l. Logged m shape (state (AtFunction func ∷ h.below) [] known.entries) st
                (reported_by_trap moment.instr operands moment) (all_observed_events n st l)
                (state (AtFunction func ∷ h.below) [] known.entries) (log_after_all st l))
                h.observes
                (logs.reportable_logged m shape hooked (reported_by_trap moment.instr operands moment)
                (state (AtFunction func ∷ h.below) [] known.entries) st refl reportable))
                (λ at. refl);
            agrees = λ size size_reported. agree size [] size_reported (ap outcome_marks over);
            not_last = λ c callee. absurd c;
          }
      go (AtEntry t calls entry) =
          subst
          (λ i. Reports_by m shape outcome (AtFunction func ∷ h.below) known moment.before
          left st (renumbered m (reported_by_trap i operands moment ++ [])))
          (sym calls)
          (record {
            found = (all_observed_events n st (reported left) ++ events.Pre callee ∷ []) ++ [];
            are =
                trail_logs.logged_then m shape hooked outcome
                (state (AtFunction func ∷ h.below) [] known.entries) st (reported_number Ipre index moment.before)
                (all_observed_events n st (reported left) ++ events.Pre callee ∷ [])
                (orders.after_index m shape hooked func index h.below known.entries moment.before callee)
                (log_after_all st (reported left)) [] []
                (subst
                (λ l. Logged m shape (state (AtFunction func ∷ h.below) [] known.entries) st
                (reported_number Ipre index moment.before) (all_observed_events n st l ++ events.Pre callee ∷ [])
                (orders.after_index m shape hooked func index h.below known.entries moment.before callee)
                (log_after_all st l))
                (subst
                (λ i. seen_by shape n (all_globals m) (reported_by_trap i operands moment) ≡ reported left) calls h.observes)
                (logs.ipre_logged m shape hooked func index h.below known.entries moment.before callee st
                h.of.entries refl entry))
                (λ at. refl);
            agrees = λ size size_reported.
                subst
                (λ l. ModuleAgrees known moment.before left
                (marks_from n outcome (log_frames (AtFunction func ∷ h.below)) size l))
                (sym (append-nil (all_observed_events n st (reported left) ++ events.Pre callee ∷ [])))
                (agree size (events.Pre callee ∷ []) size_reported
                (ap
                (λ o. marks_from n o (log_frames (AtFunction func ∷ h.below)) size (events.Pre callee ∷ [])) over));
            not_last = λ c callee. absurd c;
          })
        where
          index : ℕ
          index = bits_at operands (length operands - 1)

          callee : Option ℕ
          callee = entry_of moment.before.table (bits_at operands (length operands - 1))

  -- ---- the host

  import_called : (import : ℕ) (args : List Val) → FirstReports m shape outcome (ImportCall import args)
  import_called import args later moment levels known store left st h stands rest =
      subst (λ l. Reports m shape outcome l known store left st (record moment { entry = ImportCall import args } ∷ later)) (sym h.stands)
      (record {
        found = r.found;
        are = r.are;
        agrees = λ size size_reported.
            subst
            (λ l. ModuleAgrees known store l
            (BeginsMark (Import import)
            ∷ marks_from n outcome (InCall (Some import) ∷ log_frames h.below) size r.found))
            (sym h.observed)
            (record {
              agrees =
                  subst
                  (λ b. AgreesBy b known moment.after h.later
                  (marks_from n outcome (InCall (Some import) ∷ log_frames h.below) size r.found))
                  h.imported (r.agrees size size_reported) (Import import);
              reads = nothing_read known store;
            });
        not_last = λ c callee. r.not_last tt callee;
      })
    where
      r : Reports m shape outcome (AtCall h.direct import false h.args ∷ h.below) known moment.after h.later st later
      r = rest (AtCall h.direct import false h.args ∷ h.below) known moment.after h.later st h.follows
          (outside_stands m levels (AtCall h.direct import false h.args ∷ h.below) known store moment.after st h.keeps
          (λ w. w) stands)

  host_trapped : FirstReports m shape outcome HostTrap
  host_trapped later moment levels known store left st h stands rest =
      record {
        found = [];
        are = trail_logs.nothing_left m shape hooked outcome levels known.entries st later h.last;
        agrees = λ size size_reported.
            agrees_host n levels known store left (marks_from n outcome (log_frames levels) size []) h.host
            (λ origin.
            subst
            (λ l. Agrees known (Begins origin ∷ l)
            (BeginsMark origin ∷ marks_from n outcome (log_frames levels) size [])) (sym h.observed)
            (subst (λ marks. Agrees known (Begins origin ∷ Ends ByTrap ∷ []) (BeginsMark origin ∷ marks))
            (sym (ap outcome_marks over)) (agrees_activity known origin ByTrap [] [] (agrees_over known))));
        not_last = λ c callee. ap (λ o. is_trapped_call o (events.Pre callee) []) over;
      }
    where
      over : outcome ≡ HostTrapped
      over = same_Some outcome HostTrapped h.over

  -- ---- a whole trail

  at_entry : (entry : Entry) → FirstReports m shape outcome entry
  at_entry (HostCall func args) = trail_logs.host_call m shape hooked outcome func args
  at_entry (Enter func) = trail_logs.entered m shape hooked outcome func
  at_entry (HostReturn func results) = trail_logs.host_return m shape hooked outcome func results
  at_entry (Exit func results) = trail_logs.exited m shape hooked outcome func results
  at_entry (ImportCall import args) = import_called import args
  at_entry (ImportReturn import results) = trail_logs.import_return m shape hooked outcome import results
  at_entry (Step func number operands results found) =
      trail_steps.stepped m shape hooked outcome func number operands results found
  at_entry (Trap func number kind operands found) = trapped func number kind operands found
  at_entry HostTrap = host_trapped

  at_end : (o : Outcome) → outcome ≡ o → (levels : List Level) (known : Known) (store : Store)
      (left : List Observation) (st : LogState) → IsTrailEnd m shape levels left (Some o)
      → Reports m shape outcome levels known store left st []
  at_end Trapped over levels known store left st h = absurd h
  at_end HostTrapped over levels known store left st h = absurd h
  at_end Ended over levels known store left st h =
      subst (λ l. Reports m shape outcome l known store left st []) (sym h.0)
      (record {
        found = [];
        are = λ at. refl;
        agrees = λ size size_reported origin.
            subst (λ l. Agrees known (Begins origin ∷ l) (BeginsMark origin ∷ outcome_marks outcome)) (sym h.1)
            (subst (λ o. Agrees known (Begins origin ∷ Ends End ∷ []) (BeginsMark origin ∷ outcome_marks o)) (sym over)
            (agrees_activity known origin End [] [] (agrees_over known)));
        not_last = λ c callee. absurd c;
      })

  pub reports : (moments : List Moment) → Rest m shape outcome moments
  reports =
      holds_for m shape (Some outcome) (StandsAt m) (Reports m shape outcome) at_entry
      (λ levels known store left st h stands. at_end outcome refl levels known store left st h)
