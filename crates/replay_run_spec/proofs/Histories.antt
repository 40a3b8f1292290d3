-- The entries among the items of a run, and among those that are shown.
use Rattle.std.proofs.Common.{◌≡◌, ℕ, zero, suc, List, [], ◌∷◌, ◌++◌, refl, sym, ap, ◌∙◌}
use Rattle.std.specs.Prelude.{map}
use Rattle.std.proofs.lemmas.List.{append_assoc}
use Rattle.trace_model.specs.declared.tapes.Effect.{Effect}
use Rattle.history_spec.specs.declared.entries.Entry.{Entry}
use Rattle.history_spec.specs.Store.{Store}
use Rattle.history_spec.specs.Configuration.{Frame, Activation, InModule, InMain, InImport}
use Rattle.history_spec.specs.Step.{Program, Progress, Running, Finished, Faulted, Stuck, step}
use Rattle.history_spec.specs.Run.{Meter, steps}
use Rattle.history_spec.specs.Projection.{Layout, Side, Import, Original, Appended, side, shown_entries}
use Rattle.record_replay_spec.specs.ObservedStepLaws.{observed}
use Rattle.replay_run_spec.specs.Inside.{inside_after, inside_after_all, args_after}
use Rattle.replay_run_spec.specs.Items.{Item, Makes, Changes, Steps, entries_in, changes_of, outside_items, activation_items, steps_items, shown_items}
use Rattle.replay_run_spec.specs.Laws.{ItemsHoldHistories, ItemsShowProjections}
use Rattle.replay_run_spec.proofs.Projections.{shown_along}

pub inside_over : (inside : List ℕ) (first second : List Entry)
    → inside_after_all inside (first ++ second) ≡ inside_after_all (inside_after_all inside first) second
inside_over inside [] second = refl
inside_over inside (entry ∷ first) second = inside_over (inside_after inside entry) first second

made : (entries : List Entry) (later : List Item)
    → entries_in (map Makes entries ++ later) ≡ entries ++ entries_in later
made [] later = refl
made (entry ∷ entries) later = ap (λ more. entry ∷ more) (made entries later)

pub changes_silent : (changes : List Effect) (later : List Item)
    → entries_in (map Changes changes ++ later) ≡ entries_in later
changes_silent [] later = refl
changes_silent (change ∷ changes) later = changes_silent changes later

outside : (s : Side) (globals : ℕ) (store : Store) (frame : Frame) (later : List Item)
    → entries_in (outside_items s globals store frame ++ later) ≡ entries_in later
outside Original globals store frame later = refl
outside Import globals store frame later = changes_silent (changes_of globals (observed store frame)) later
outside Appended globals store frame later = changes_silent (changes_of globals (observed store frame)) later

activation : (layout : Layout) (globals : ℕ) (store : Store) (stack : List Activation) (later : List Item)
    → entries_in (activation_items layout globals store stack ++ later) ≡ entries_in later
activation layout globals store [] later = refl
activation layout globals store (InModule frame ∷ below) later =
    outside (side layout frame.func) globals store frame later
activation layout globals store (InMain actions ∷ below) later = refl
activation layout globals store (InImport import args actions end ∷ below) later = refl

held : (layout : Layout) (globals : ℕ) (program : Program) (meter : Meter) (k : ℕ) (at : Progress)
    → entries_in (steps_items layout globals program k at) ≡ (steps program meter k at).history
held layout globals program meter zero at = refl
held layout globals program meter (suc k) (Running config) =
    let entries = (step program config).entries in
    let later = steps_items layout globals program k (step program config).next in
    let own = activation_items layout globals config.store config.stack in
    ap entries_in (append_assoc own (map Makes entries) later)
    ∙ activation layout globals config.store config.stack (map Makes entries ++ later)
    ∙ made entries later
    ∙ ap (λ more. entries ++ more) (held layout globals program meter k (step program config).next)
held layout globals program meter (suc k) (Finished outcome) = refl
held layout globals program meter (suc k) (Faulted kind) = refl
held layout globals program meter (suc k) Stuck = refl

pub items_hold : ItemsHoldHistories
items_hold layout globals program meter initial k =
    made initial.entries (steps_items layout globals program k initial.next)
    ∙ ap (λ later. initial.entries ++ later) (held layout globals program meter k initial.next)

pub items_show : ItemsShowProjections
items_show layout inside args [] = refl
items_show layout inside args (Makes entry ∷ items) =
    made (shown_entries layout inside args (entry ∷ []))
    (shown_items layout (inside_after inside entry) (args_after args entry) items)
    ∙ ap (λ later. shown_entries layout inside args (entry ∷ []) ++ later)
    (items_show layout (inside_after inside entry) (args_after args entry) items)
    ∙ sym (shown_along layout inside args (entry ∷ []) (entries_in items))
items_show layout inside args (Changes change ∷ items) = items_show layout inside args items
items_show layout inside args (Steps block ∷ items) = items_show layout inside args items
