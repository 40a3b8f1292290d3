-- The hook calls of a run report its top-level calls, and before each of them the log knows what is known.
use Rattle.std.proofs.Common.{◌≡◌, ℕ, zero, suc, List, [], ◌∷◌, ◌++◌, map, Option, Some, None, Bool, true, false, cond, refl, sym, ap, ◌∙◌, subst, arith}
use Rattle.std.specs.Prelude.{option_and_then, option_map, unwrap_or}
use Rattle.std.proofs.lemmas.List.{map-append}
use Rattle.std.proofs.lemmas.Option.{same_Some}
use Rattle.wasm_syntax.specs.declared.instructions.Instr.{Instr}
use Rattle.wasm_syntax.specs.Index.{imported_funcs}
use Rattle.trace_model.specs.declared.tapes.Origin.TheVariants.{Begin}
use Rattle.history_spec.specs.declared.entries.Entry.{Entry}
use Rattle.history_spec.specs.Run.{all_one, program_of, start_in_store, steps, run_from}
use Rattle.history_spec.specs.Step.{Program, Progress, Running, StepResult, step}
use Rattle.history_spec.specs.Store.{Store}
use Rattle.record_replay_spec.specs.HookLaws.{IndicesAreRenumbered, InstrumentedKeepIndices}
use Rattle.record_replay_spec.specs.Known.{Known, opening_known}
use Rattle.record_replay_spec.specs.Logs.{LogState, log_after_call}
use Rattle.record_replay_spec.specs.Observations.{Begins}
use Rattle.record_replay_spec.specs.Order.{OrderState, order_start, ordered_step}
use Rattle.record_replay_spec.specs.ReportedCalls.{Moment, next_instr, store_after, moments, moments_of_step, run_moments}
use Rattle.rest_spec.specs.Rests.{calls_in}
use Rattle.rest_spec.specs.KnownBefore.{known_before}
use Rattle.rest_spec.specs.AtCalls.{AtCall}
use Rattle.rest_spec.specs.TopEnters.{enters_at_top, top_enters, by_enter, log_before}
use Rattle.tape_laws.specs.Below.{LawsOfSteps, LawsOfRuns}
use Rattle.tape_laws.specs.CallLaws.{OriginalRun, hooked_shape, calls_of_run}
use Rattle.tape_laws.proofs.CallOrder.{same_length, state}
use Rattle.tape_laws.proofs.KnownAfterCalls.{same_known}
use Rattle.tape_laws.proofs.ObservedFinds.{IsReportedKnown}
use Rattle.tape_laws.proofs.Ordered.{hooked_run, observed, moments_of, run_trail}
use Rattle.tape_laws.proofs.WholeLogs.{first_log, opening_stands}
use Rattle.rest_laws.specs.Laws.{IsThereBelow, IsSameKnown, KnownBeforeIsKept}
use Rattle.rest_laws.specs.TopEnters.{LogsAreThere, TopCallsAreReported, renumbered_known, IsKnownToLog, LogsKnowWhatIsKnown, first_order}
use Rattle.rest_laws.proofs.Places.{begun}
use Rattle.rest_laws.proofs.TopSearch.{IsSameLog, Reports}
use Rattle.rest_laws.proofs.TopTrails.{reports}

-- ---- where there is a state of the log

pub logs_are_there : LogsAreThere
logs_are_there shape order log number [] =
    record { there = λ below. absurd (omega (arith, below)); below = λ found h. cc }
logs_are_there shape order log number (call ∷ calls) =
    go (later (λ next number. logs_are_there shape next (log_after_call shape log call) number calls))
    (enters_at_top order call) number
  where
    counted : Option OrderState → ℕ
    counted o = unwrap_or (option_map (λ next. top_enters shape next calls) o) 0

    logged : Option OrderState → ℕ → Option LogState
    logged o number = option_and_then (λ next. log_before shape next (log_after_call shape log call) number calls) o

    -- where there are states of the log after the first call
    Later : Option OrderState → Type 0
    Later o = (number : ℕ) → IsThereBelow (logged o number) number (counted o)

    later : ((next : OrderState) (number : ℕ)
        → IsThereBelow (log_before shape next (log_after_call shape log call) number calls) number
        (top_enters shape next calls))
        → (o : Option OrderState) → Later o
    later rest None number = record { there = λ below. absurd (omega (arith, below)); below = λ found h. cc }
    later rest (Some next) number = rest next number

    go : ((o : Option OrderState) → Later o) → (b : Bool) (number : ℕ)
        → IsThereBelow (by_enter b number (Some log) (logged (ordered_step shape order call))) number
        (cond b (suc (counted (ordered_step shape order call))) (counted (ordered_step shape order call)))
    go rest false number = rest (ordered_step shape order call) number
    go rest true zero = record { there = λ below. (log, refl); below = λ found h. omega arith }
    go rest true (suc number) =
        let r = rest (ordered_step shape order call) number in
        record {
          there = λ below. r.there (omega (arith, below));
          below = λ found h. let b = r.below found h in omega (arith, b);
        }

-- ---- the entries of moments

-- the moments of entries, with the same instruction and stores
moment_entries : (instr : Option Instr) (before after : Store) (entries : List Entry)
    → map (λ (moment : Moment). moment.entry)
    (map (λ entry. record { entry = entry; instr = instr; before = before; after = after }) entries) ≡ entries
moment_entries instr before after [] = refl
moment_entries instr before after (entry ∷ entries) =
    ap (λ l. entry ∷ l) (moment_entries instr before after entries)

steps_entries : (program : Program) (k : ℕ) (at : Progress)
    → map (λ (moment : Moment). moment.entry) (moments program k at) ≡ (steps program all_one k at).history
steps_entries program zero at = refl
steps_entries program (suc k) (Running config) =
    map-append (λ (moment : Moment). moment.entry) (moments_of_step program config)
    (moments program k (step program config).next)
    ∙ ap (λ l. l ++ map (λ (moment : Moment). moment.entry) (moments program k (step program config).next))
    (moment_entries (next_instr config.stack) config.store (store_after program config.store config.stack)
    (step program config).entries)
    ∙ ap (λ l. (step program config).entries ++ l) (steps_entries program k (step program config).next)
steps_entries program (suc k) at = refl

run_entries : (program : Program) (store : Store) (initial : StepResult) (k : ℕ)
    → map (λ (moment : Moment). moment.entry) (run_moments program store initial k)
    ≡ (run_from program all_one initial k).history
run_entries program store initial k =
    map-append (λ (moment : Moment). moment.entry)
    (map (λ entry. record { entry = entry; instr = None; before = store; after = store }) initial.entries)
    (moments program k initial.next)
    ∙ ap (λ l. l ++ map (λ (moment : Moment). moment.entry) (moments program k initial.next))
    (moment_entries None store store initial.entries)
    ∙ ap (λ l. initial.entries ++ l) (steps_entries program k initial.next)

-- ---- runs

renumbered_is : (n : ℕ) (known found : Known) → IsReportedKnown n known found → found ≡ renumbered_known n known
renumbered_is n known found h = same_known found (renumbered_known n known) h.byte h.entry h.global h.pages h.entries

module _ (laws : LawsOfSteps) (runs : LawsOfRuns) (indices : InstrumentedKeepIndices)
    (renumbered : IndicesAreRenumbered) where
  run_reports : (run : OriginalRun) (count : ℕ)
      → Reports run.m (hooked_shape run) [] (opening_known run.store) (observed run count) (first_log run)
      (moments_of run count)
  run_reports run count =
      reports run.m (hooked_shape run) (hooked_run indices renumbered run) _ (moments_of run count) []
      (opening_known run.store) run.store (observed run count) (first_log run) (run_trail laws runs indices run count)
      (record { reported = (opening_stands run).reported; immutable = (opening_stands run).immutable })

  -- the order begins with the size of the original's table
  order_is : (run : OriginalRun) → first_order run ≡ state [] [] (opening_known run.store).entries
  order_is run = ap order_start (same_length (imported_funcs run.m) run.store.table)

  pub top_calls_are_reported : TopCallsAreReported
  top_calls_are_reported run count =
      ap (λ order. top_enters (hooked_shape run) order (calls_of_run run count)) (order_is run)
      ∙ (run_reports run count).counts
      ∙ ap (λ history. calls_in history 0)
      (run_entries (program_of run.m run.script) run.store (start_in_store run.m run.script run.store) count)

  pub logs_know_what_is_known : KnownBeforeIsKept → LogsKnowWhatIsKnown
  logs_know_what_is_known kept run count number known is_known =
      subst
      (λ order. IsKnownToLog n known (log_before (hooked_shape run) order (first_log run) number (calls_of_run run count)))
      (sym (order_is run))
      (go _ _ _ is_known
      (subst
      (λ at. IsSameKnown
      (known_before number 0 (opening_known run.store) [] (Begins Begin ∷ observed run count)) at)
      (begun number 0 (opening_known run.store) Begin (observed run count))
      (kept (opening_known run.store) (Begins Begin ∷ observed run count) number))
      ((run_reports run count).logs number))
    where
      n : ℕ
      n = imported_funcs run.m

      go : (before : Option Known) (at : Option AtCall) (found : Option LogState) → before ≡ Some known
          → IsSameKnown before at → IsSameLog (imported_funcs run.m) at found → IsKnownToLog (imported_funcs run.m) known found
      go None at found e same log = cc
      go (Some before) None found e same log = absurd same
      go (Some before) (Some at) None e same log = absurd log
      go (Some before) (Some at) (Some found) e same log =
          let is : at.known ≡ known = sym same ∙ same_Some before known e in
          record {
            log = found;
            is_log = refl;
            knows = renumbered_is n at.known found.known log ∙ ap (renumbered_known n) is;
          }
