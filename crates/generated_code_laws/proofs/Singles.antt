-- One step leads on, or ends the run.
use Rattle.std.proofs.Common.{◌≡◌, ℕ, ◌+◌, List, [], ◌∷◌, ◌++◌, refl, sym, ap, ◌∙◌, subst}
use Rattle.std.specs.Prelude.{map}
use Rattle.std.proofs.lemmas.List.{append-nil, map-append}
use Rattle.wasm_syntax.specs.declared.values.Val.{Val}
use Rattle.base.specs.declared.outcomes.Outcome.{Outcome}
use Rattle.trace_model.specs.declared.tapes.Effect.{Effect}
use Rattle.history_spec.specs.declared.entries.Entry.{Entry}
use Rattle.history_spec.specs.Configuration.{Frame, Activation}
use Rattle.history_spec.specs.Step.{Progress, Running, Finished, StepResult, step_result, step}
use Rattle.history_spec.specs.Run.{all_one, steps}
use Rattle.history_spec.specs.Projection.{Original, Layout, side, shown_entries, shown_outcome}
use Rattle.record_replay_spec.specs.ObservedStepLaws.{observed}
use Rattle.replay_run_spec.specs.Inside.{inside_after, args_after, inside_after_all, args_after_all}
use Rattle.replay_run_spec.specs.Items.{Item, Makes, Changes, Steps, activation_items, changes_of, entries_in, is_block, outside_items, shown_items, steps_items}
use Rattle.replay_run_spec.specs.Laws.{ItemsHoldHistories, ProjectionsRunAlong}
use Rattle.generated_code_laws.specs.Leads.{Watched, Place, Leads, IsOutside, items_from}
use Rattle.generated_code_laws.specs.Ends.{Shows, Ends}
use Rattle.generated_code_laws.specs.Single.{IsSingle, outside_step}
use Rattle.generated_code_laws.specs.SingleStepLaws.{LeadsEnd, LeadsShow, StepsLead, StepsEnd, StepsShow}
use Rattle.generated_code_laws.proofs.Along.{steps_over, items_over, entries_over, shown_over}
use Rattle.generated_code_laws.proofs.One.{outside_is}
use Rattle.generated_code_laws.proofs.Quiet.{NoTraps, run_quiet, outcome_after}

-- ---- items of changes and entries

pub entries_made : (changes : List Effect) (entries : List Entry)
    → entries_in (map Changes changes ++ map Makes entries) ≡ entries
entries_made [] [] = refl
entries_made [] (entry ∷ entries) = ap (λ later. entry ∷ later) (entries_made [] entries)
entries_made (change ∷ changes) entries = entries_made changes entries

module _ (along : ProjectionsRunAlong) (layout : Layout) where
  made_shown : (inside : List ℕ) (args : List Val) (entries : List Entry)
      → shown_items layout inside args (map Makes entries) ≡ map Makes (shown_entries layout inside args entries)
  made_shown inside args [] = refl
  made_shown inside args (entry ∷ entries) =
      let here = shown_entries layout inside args (entry ∷ []) in
      let later = shown_entries layout (inside_after inside entry) (args_after args entry) entries in
      ap (λ more. map Makes here ++ more) (made_shown (inside_after inside entry) (args_after args entry) entries)
      ∙ sym (map-append Makes here later)
      ∙ ap (map Makes) (sym (along layout inside args (entry ∷ []) entries))

  changes_shown : (inside : List ℕ) (args : List Val) (changes : List Effect) (entries : List Entry)
      → shown_items layout inside args (map Changes changes ++ map Makes entries)
      ≡ map Changes changes ++ map Makes (shown_entries layout inside args entries)
  changes_shown inside args [] entries = made_shown inside args entries
  changes_shown inside args (change ∷ changes) entries =
      ap (λ later. Changes change ∷ later) (changes_shown inside args changes entries)

-- ---- one step

module _ (along : ProjectionsRunAlong) (w : Watched) (start : Place) (frame : Frame) (below : List Activation)
    (entries shown : List Entry) (next : Progress) (inside : List ℕ)
    (single : IsSingle w start frame below entries shown next inside) where
  abbrev changes : List Effect
  changes = changes_of w.globals (observed start.config.store frame)

  items_are : (own : List Item)
      → outside_items (side w.layout frame.func) w.globals start.config.store frame ≡ own
      → items_from w 1 start.config ≡ own ++ map Makes entries
  items_are own e =
      append-nil _
      ∙ ap (λ stack. activation_items w.layout w.globals start.config.store stack
      ++ map Makes (step w.program start.config).entries) single.stands
      ∙ ap (λ items. items ++ map Makes (step w.program start.config).entries) e
      ∙ ap (λ (r : StepResult). own ++ map Makes r.entries) single.makes

  items_outside : IsOutside w.layout frame.func
      → items_from w 1 start.config ≡ Steps (is_block frame.at.rest) ∷ (map Changes changes ++ map Makes entries)
  items_outside outside =
      items_are (Steps (is_block frame.at.rest) ∷ map Changes changes)
      (outside_is w.layout frame.func outside w.globals start.config.store frame)

  items_inside : side w.layout frame.func ≡ Original → items_from w 1 start.config ≡ map Makes entries
  items_inside original =
      items_are [] (ap (λ s. outside_items s w.globals start.config.store frame) original)

  shown_outside : (args : List Val)
      → shown_items w.layout start.inside args
      (Steps (is_block frame.at.rest) ∷ (map Changes changes ++ map Makes entries))
      ≡ outside_step w start frame shown
  shown_outside args =
      ap (λ later. Steps (is_block frame.at.rest) ∷ later)
      (changes_shown along w.layout start.inside args changes entries
      ∙ ap (λ l. map Changes changes ++ map Makes l) (single.shows args))

  shown_inside : (args : List Val) → shown_items w.layout start.inside args (map Makes entries) ≡ map Makes shown
  shown_inside args = made_shown along w.layout start.inside args entries ∙ ap (map Makes) (single.shows args)

  -- the items of the step, by what is shown of them
  record StepItems (seen : List Item) : Type 0 where
    made : List Item
    are : items_from w 1 start.config ≡ made
    shows : (args : List Val) → shown_items w.layout start.inside args made ≡ seen
    has : entries_in made ≡ entries

  step_outside : IsOutside w.layout frame.func → StepItems (outside_step w start frame shown)
  step_outside outside =
      record {
        made = Steps (is_block frame.at.rest) ∷ (map Changes changes ++ map Makes entries);
        are = items_outside outside;
        shows = shown_outside;
        has = entries_made changes entries;
      }

  step_inside : side w.layout frame.func ≡ Original → StepItems (map Makes shown)
  step_inside original =
      record {
        made = map Makes entries;
        are = items_inside original;
        shows = shown_inside;
        has = entries_made [] entries;
      }

  step_shown : (seen : List Item) → StepItems seen → (args : List Val)
      → shown_items w.layout start.inside args (items_from w 1 start.config) ≡ seen
  step_shown seen items args = ap (shown_items w.layout start.inside args) items.are ∙ items.shows args

  step_entries : (seen : List Item) → StepItems seen → entries_in (items_from w 1 start.config) ≡ entries
  step_entries seen items = ap entries_in items.are ∙ items.has

pub steps_lead : ProjectionsRunAlong → StepsLead
steps_lead along w start frame below entries shown end single = (
  λ outside. leads _ (step_outside along w start frame below entries shown (Running end.config) end.inside single outside),
  λ original. leads _ (step_inside along w start frame below entries shown (Running end.config) end.inside single original),
)
  where
    leads : (seen : List Item)
        → StepItems along w start frame below entries shown (Running end.config) end.inside single seen
        → Leads w start seen end
    leads seen items =
        record {
          count = 1;
          comes = λ meter. ap (λ (r : StepResult). r.next) single.makes;
          shown = step_shown along w start frame below entries shown (Running end.config) end.inside single seen items;
          inside =
              ap (inside_after_all start.inside)
              (step_entries along w start frame below entries shown (Running end.config) end.inside single seen items)
              ∙ single.control;
        }

pub steps_end : ProjectionsRunAlong → StepsEnd
steps_end along w start frame below entries shown own outcome inside single is = (
  λ outside. ends _ (step_outside along w start frame below entries shown (Finished own) inside single outside),
  λ original. ends _ (step_inside along w start frame below entries shown (Finished own) inside single original),
)
  where
    ends : (seen : List Item) → StepItems along w start frame below entries shown (Finished own) inside single seen
        → Ends w start seen outcome
    ends seen items =
        record {
          count = 1;
          own = own;
          ends = λ meter. ap (λ (r : StepResult). r.next) single.makes;
          shown = step_shown along w start frame below entries shown (Finished own) inside single seen items;
          outcome_shown =
              ap (λ l. shown_outcome w.layout l own)
              (step_entries along w start frame below entries shown (Finished own) inside single seen items)
              ∙ is;
        }

pub steps_show : ProjectionsRunAlong → StepsShow
steps_show along w start frame below entries shown next inside single = (
  λ outside. shows _ (step_outside along w start frame below entries shown next inside single outside),
  λ original. shows _ (step_inside along w start frame below entries shown next inside single original),
)
  where
    shows : (seen : List Item) → StepItems along w start frame below entries shown next inside single seen
        → Shows w start seen
    shows seen items =
        record { count = 1; shown = step_shown along w start frame below entries shown next inside single seen items }

-- ---- several steps and the end

pub leads_show : LeadsShow
leads_show w a b first second ab bc =
    record {
      count = ab.count + bc.count;
      shown = λ args.
          let own = items_from w ab.count a.config in
          let more = items_from w bc.count b.config in
          let given = args_after_all args (entries_in own) in
          ap (shown_items w.layout a.inside args)
          (items_over w.layout w.globals w.program all_one ab.count bc.count (ab.count + bc.count) refl
          (Running a.config)
          ∙ ap (λ at. own ++ steps_items w.layout w.globals w.program bc.count at) (ab.comes all_one))
          ∙ shown_over w.layout a.inside args own more
          ∙ ap (λ shown. shown ++ shown_items w.layout (inside_after_all a.inside (entries_in own)) given more)
          (ab.shown args)
          ∙ ap (λ inside. first ++ shown_items w.layout inside given more) ab.inside
          ∙ ap (λ shown. first ++ shown) (bc.shown given);
    }

module _ (hold : ItemsHoldHistories) (w : Watched) (a b : Place) (first second : List Item) (outcome : Outcome)
    (ab : Leads w a first b) (bc : Ends w b second outcome) where
  both_items : items_from w (ab.count + bc.count) a.config
      ≡ items_from w ab.count a.config ++ items_from w bc.count b.config
  both_items =
      items_over w.layout w.globals w.program all_one ab.count bc.count (ab.count + bc.count) refl (Running a.config)
      ∙ ap (λ at. items_from w ab.count a.config
      ++ steps_items w.layout w.globals w.program bc.count at) (ab.comes all_one)

  first_quiet : NoTraps (entries_in (items_from w ab.count a.config))
  first_quiet =
      subst NoTraps
      (sym (hold w.layout w.globals w.program all_one (step_result [] (Running a.config)) ab.count))
      (run_quiet w.program all_one ab.count (Running a.config) b.config (ab.comes all_one))

  ends_after : Ends w a (first ++ second) outcome
  ends_after =
      let own = items_from w ab.count a.config in
      let more = items_from w bc.count b.config in
      record {
        count = ab.count + bc.count;
        own = bc.own;
        ends = λ meter.
            steps_over w.program meter ab.count bc.count (ab.count + bc.count) refl (Running a.config)
            ∙ ap (λ at. (steps w.program meter bc.count at).at) (ab.comes meter) ∙ bc.ends meter;
        shown = λ args.
            let given = args_after_all args (entries_in own) in
            ap (shown_items w.layout a.inside args) both_items ∙ shown_over w.layout a.inside args own more
            ∙ ap (λ shown. shown ++ shown_items w.layout (inside_after_all a.inside (entries_in own)) given more)
            (ab.shown args) ∙ ap (λ inside. first ++ shown_items w.layout inside given more) ab.inside
            ∙ ap (λ shown. first ++ shown) (bc.shown given);
        outcome_shown =
            ap (λ l. shown_outcome w.layout (entries_in l) bc.own) both_items
            ∙ ap (λ l. shown_outcome w.layout l bc.own) (entries_over own more)
            ∙ outcome_after w.layout (entries_in own) (entries_in more) bc.own first_quiet ∙ bc.outcome_shown;
      }

pub leads_end : ItemsHoldHistories → LeadsEnd
leads_end hold w a b first second outcome ab bc = ends_after hold w a b first second outcome ab bc
