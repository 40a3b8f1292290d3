-- One step of a function outside the original that goes on within its activation.
use Rattle.std.proofs.Common.{◌≡◌, ℕ, List, [], ◌∷◌, ◌++◌, Option, Bool, true, false, refl, ap, ◌∙◌}
use Rattle.std.specs.Prelude.{map}
use Rattle.std.proofs.lemmas.List.{append-nil}
use Rattle.wasm_syntax.specs.declared.values.Val.{Val}
use Rattle.wasm_syntax.specs.Nest.{Nest, Empty, Plain, InBlock, InLoop, InIf, InIfElse}
use Rattle.trace_model.specs.declared.tapes.Effect.{Effect}
use Rattle.history_spec.specs.declared.entries.Entry.{Entry}
use Rattle.history_spec.specs.declared.entries.Entry.TheVariants.{Step}
use Rattle.history_spec.specs.Store.{Store}
use Rattle.history_spec.specs.Configuration.{Label, Frame, Activation, InModule, point, at_point}
use Rattle.history_spec.specs.Instruction.{Did, Goes, execute}
use Rattle.history_spec.specs.Settle.{Continues, settle_result, settle}
use Rattle.history_spec.specs.Step.{Running, StepResult, step_result, after_settling, after_entries, after_instruction, step}
use Rattle.history_spec.specs.Projection.{Layout, side, shown_step}
use Rattle.record_replay_spec.specs.Observations.{nest_observations}
use Rattle.record_replay_spec.specs.ObservedStepLaws.{observed}
use Rattle.replay_run_spec.specs.Inside.{inside_after_all}
use Rattle.replay_run_spec.specs.Items.{Makes, Changes, Steps, is_block, changes_of, outside_items, entries_in, shown_items}
use Rattle.generated_code_laws.specs.Leads.{Watched, Place, Leads, IsOutside, InPlace, Behind, Standing, standing, items_from}

-- ---- settling

-- the sequence is not empty
abbrev pub begins : Nest → Bool
begins Empty = false
begins nest = true

-- an activation does not settle before an instruction
settles : (f : Frame) (below : List Activation) (values : List Val) (labels : List Label) (rest : Nest) (number : ℕ)
    → begins rest ≡ true → settle (InModule (at_point f (point values labels rest number)) ∷ below)
    ≡ settle_result [] (Continues (InModule (at_point f (point values labels rest number)) ∷ below))
settles f below values labels Empty number e = absurd (cc e)
settles f below values [] (Plain i rest) number e = refl
settles f below values (label ∷ labels) (Plain i rest) number e = refl
settles f below values [] (InBlock ty body rest) number e = refl
settles f below values (label ∷ labels) (InBlock ty body rest) number e = refl
settles f below values [] (InLoop ty body rest) number e = refl
settles f below values (label ∷ labels) (InLoop ty body rest) number e = refl
settles f below values [] (InIf ty body rest) number e = refl
settles f below values (label ∷ labels) (InIf ty body rest) number e = refl
settles f below values [] (InIfElse ty body other rest) number e = refl
settles f below values (label ∷ labels) (InIfElse ty body other rest) number e = refl

-- ---- what is shown

module _ (layout : Layout) (func : ℕ) where
  pub outside_is : IsOutside layout func → (globals : ℕ) (store : Store) (frame : Frame)
      → outside_items (side layout func) globals store frame
      ≡ Steps (is_block frame.at.rest) ∷ map Changes (changes_of globals (observed store frame))
  outside_is (InPlace e) globals store frame = ap (λ s. outside_items s globals store frame) e
  outside_is (Behind e) globals store frame = ap (λ s. outside_items s globals store frame) e

  unseen : IsOutside layout func → (entry : Entry) → shown_step (side layout func) entry ≡ []
  unseen (InPlace e) entry = ap (λ s. shown_step s entry) e
  unseen (Behind e) entry = ap (λ s. shown_step s entry) e

  module _ (outside : IsOutside layout func) (number : ℕ) (operands results : List Val) (found : Option ℕ) where
    abbrev made : Entry
    made = Step func number operands results found

    shows : (inside : List ℕ) (args : List Val) (changes : List Effect)
        → shown_items layout inside args (map Changes changes ++ Makes made ∷ []) ≡ map Changes changes
    shows inside args [] = ap (λ shown. map Makes (shown ++ []) ++ []) (unseen outside made)
    shows inside args (change ∷ changes) = ap (λ later. Changes change ∷ later) (shows inside args changes)

    stays : (inside : List ℕ) (changes : List Effect)
        → inside_after_all inside (entries_in (map Changes changes ++ Makes made ∷ [])) ≡ inside
    stays inside [] = refl
    stays inside (change ∷ changes) = stays inside changes

-- ---- the step

module _ (w : Watched) (s : Standing) (outside : IsOutside w.layout s.frame.func) where
  -- an instruction that goes on before another, in the same activation
  pub did : (store after : Store) (values next_values : List Val) (labels next_labels : List Label)
      (rest next_rest : Nest) (number next_number : ℕ) (g : Frame)
      (operands results : List Val) (found : Option ℕ) (changes : List Effect)
      → execute w.program.code store (at_point s.frame (point values labels rest number))
      ≡ Did operands results found (Goes after (at_point g (point next_values next_labels next_rest next_number)))
      → begins next_rest ≡ true
      → changes_of w.globals (nest_observations store values rest) ≡ changes
      → Leads w (standing s store values labels rest number) (Steps (is_block rest) ∷ map Changes changes)
      (standing (record s { frame = g }) after next_values next_labels next_rest next_number)
  did store after values next_values labels next_labels rest next_rest number next_number g
      operands results found changes executed goes_on changed =
      record {
        count = 1;
        comes = λ meter. ap (λ (r : StepResult). r.next) stepped;
        shown = λ args.
            ap (shown_items w.layout s.inside args) items ∙ ap (λ shown. Steps (is_block rest) ∷ shown)
            (shows w.layout s.frame.func outside number operands results found s.inside args changes);
        inside =
            ap (λ all. inside_after_all s.inside (entries_in all)) items
            ∙ stays w.layout s.frame.func outside number operands results found s.inside changes;
      }
    where
      here : Place
      here = standing s store values labels rest number

      there : Frame
      there = at_point g (point next_values next_labels next_rest next_number)

      stepped : step w.program here.config
          ≡ step_result (Step s.frame.func number operands results found ∷ [])
          (Running (standing (record s { frame = g }) after next_values next_labels next_rest next_number).config)
      stepped =
          ap (after_instruction w.program here.config (at_point s.frame (point values labels rest number)) s.below) executed
          ∙ ap (λ settled. after_entries (Step s.frame.func number operands results found ∷ [])
          (after_settling after s.counts settled)) (settles g s.below next_values next_labels next_rest next_number goes_on)

      items : items_from w 1 here.config
          ≡ Steps (is_block rest) ∷ map Changes changes ++ Makes (Step s.frame.func number operands results found) ∷ []
      items =
          let frame = at_point s.frame (point values labels rest number) in
          append-nil _
          ∙ ap (λ own. own ++ map Makes (step w.program here.config).entries)
          (outside_is w.layout s.frame.func outside w.globals store frame
          ∙ ap (λ own. Steps (is_block rest) ∷ map Changes own) changed)
          ∙ ap (λ (r : StepResult). Steps (is_block rest) ∷ map Changes changes ++ map Makes r.entries) stepped
