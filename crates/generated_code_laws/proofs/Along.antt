-- Consecutive parts of a run lead on.
use Rattle.std.proofs.Common.{◌≡◌, ℕ, zero, suc, ◌+◌, List, [], ◌∷◌, ◌++◌, refl, sym, ap, ◌∙◌, arith}
use Rattle.std.specs.Prelude.{map}
use Rattle.std.proofs.lemmas.List.{append_assoc}
use Rattle.wasm_syntax.specs.declared.values.Val.{Val}
use Rattle.history_spec.specs.Step.{Program, Progress, Running, Finished, Faulted, Stuck, step}
use Rattle.history_spec.specs.Run.{Meter, all_one, steps}
use Rattle.history_spec.specs.Projection.{Layout, shown_entries}
use Rattle.replay_run_spec.specs.Inside.{inside_after, args_after, inside_after_all, args_after_all}
use Rattle.replay_run_spec.specs.Items.{Item, Makes, Changes, Steps, entries_in, step_items, steps_items, shown_items}
use Rattle.replay_run_spec.proofs.Histories.{inside_over}
use Rattle.generated_code_laws.specs.Leads.{Watched, Place, Leads, items_from}
use Rattle.generated_code_laws.specs.GeneratedStepLaws.{LeadsRunAlong}

-- ---- runs of a number of steps, and of more

pub steps_over : (program : Program) (meter : Meter) (j k n : ℕ) → n ≡ j + k → (at : Progress)
    → (steps program meter n at).at ≡ (steps program meter k (steps program meter j at).at).at
steps_over program meter zero k n e at =
    let same : n ≡ k = omega (arith, e) in ap (λ m. (steps program meter m at).at) same
steps_over program meter (suc j) k zero e at = absurd (omega (arith, e))
steps_over program meter (suc j) k (suc n) e (Running config) =
    steps_over program meter j k n (omega (arith, e)) (step program config).next
steps_over program meter (suc j) zero (suc n) e (Finished outcome) = refl
steps_over program meter (suc j) zero (suc n) e (Faulted kind) = refl
steps_over program meter (suc j) zero (suc n) e Stuck = refl
steps_over program meter (suc j) (suc k) (suc n) e (Finished outcome) = refl
steps_over program meter (suc j) (suc k) (suc n) e (Faulted kind) = refl
steps_over program meter (suc j) (suc k) (suc n) e Stuck = refl

module _ (layout : Layout) (globals : ℕ) (program : Program) (meter : Meter) where
  pub items_over : (j k n : ℕ) → n ≡ j + k → (at : Progress) → steps_items layout globals program n at
      ≡ steps_items layout globals program j at ++ steps_items layout globals program k (steps program meter j at).at
  items_over zero k n e at =
      let same : n ≡ k = omega (arith, e) in ap (λ m. steps_items layout globals program m at) same
  items_over (suc j) k zero e at = absurd (omega (arith, e))
  items_over (suc j) k (suc n) e (Running config) =
      ap (λ later. step_items layout globals program config ++ later)
      (items_over j k n (omega (arith, e)) (step program config).next)
      ∙ sym (append_assoc (step_items layout globals program config)
      (steps_items layout globals program j (step program config).next)
      (steps_items layout globals program k (steps program meter j (step program config).next).at))
  items_over (suc j) zero (suc n) e (Finished outcome) = refl
  items_over (suc j) zero (suc n) e (Faulted kind) = refl
  items_over (suc j) zero (suc n) e Stuck = refl
  items_over (suc j) (suc k) (suc n) e (Finished outcome) = refl
  items_over (suc j) (suc k) (suc n) e (Faulted kind) = refl
  items_over (suc j) (suc k) (suc n) e Stuck = refl

-- ---- items of two parts

pub entries_over : (first second : List Item) → entries_in (first ++ second) ≡ entries_in first ++ entries_in second
entries_over [] second = refl
entries_over (Makes entry ∷ first) second = ap (λ later. entry ∷ later) (entries_over first second)
entries_over (Changes change ∷ first) second = entries_over first second
entries_over (Steps block ∷ first) second = entries_over first second

pub shown_over : (layout : Layout) (inside : List ℕ) (args : List Val) (first second : List Item)
    → shown_items layout inside args (first ++ second)
    ≡ shown_items layout inside args first
    ++ shown_items layout (inside_after_all inside (entries_in first)) (args_after_all args (entries_in first)) second
shown_over layout inside args [] second = refl
shown_over layout inside args (Makes entry ∷ first) second =
    let here = map Makes (shown_entries layout inside args (entry ∷ [])) in
    ap (λ later. here ++ later) (shown_over layout (inside_after inside entry) (args_after args entry) first second)
    ∙ sym (append_assoc here
    (shown_items layout (inside_after inside entry) (args_after args entry) first)
    (shown_items layout (inside_after_all (inside_after inside entry) (entries_in first))
    (args_after_all (args_after args entry) (entries_in first)) second))
shown_over layout inside args (Changes change ∷ first) second =
    ap (λ later. Changes change ∷ later) (shown_over layout inside args first second)
shown_over layout inside args (Steps block ∷ first) second =
    ap (λ later. Steps block ∷ later) (shown_over layout inside args first second)

-- ---- both

module _ (w : Watched) (a b c : Place) (first second : List Item) (ab : Leads w a first b) (bc : Leads w b second c) where
  items_of_both : items_from w (ab.count + bc.count) a.config
      ≡ items_from w ab.count a.config ++ items_from w bc.count b.config
  items_of_both =
      items_over w.layout w.globals w.program all_one ab.count bc.count (ab.count + bc.count) refl (Running a.config)
      ∙ ap (λ at. items_from w ab.count a.config ++ steps_items w.layout w.globals w.program bc.count at)
      (ab.comes all_one)

  shown_of_both : (args : List Val)
      → shown_items w.layout a.inside args (items_from w (ab.count + bc.count) a.config) ≡ first ++ second
  shown_of_both args =
      let own = items_from w ab.count a.config in
      let more = items_from w bc.count b.config in
      let given = args_after_all args (entries_in own) in
      ap (shown_items w.layout a.inside args) items_of_both
      ∙ shown_over w.layout a.inside args own more
      ∙ ap (λ shown. shown ++ shown_items w.layout (inside_after_all a.inside (entries_in own)) given more)
      (ab.shown args)
      ∙ ap (λ inside. first ++ shown_items w.layout inside given more) ab.inside
      ∙ ap (λ shown. first ++ shown) (bc.shown given)

  inside_of_both : inside_after_all a.inside (entries_in (items_from w (ab.count + bc.count) a.config)) ≡ c.inside
  inside_of_both =
      let own = items_from w ab.count a.config in
      let more = items_from w bc.count b.config in
      ap (λ items. inside_after_all a.inside (entries_in items)) items_of_both
      ∙ ap (inside_after_all a.inside) (entries_over own more)
      ∙ inside_over a.inside (entries_in own) (entries_in more)
      ∙ ap (λ inside. inside_after_all inside (entries_in more)) ab.inside ∙ bc.inside

pub along : LeadsRunAlong
along w a b c first second ab bc =
    record {
      count = ab.count + bc.count;
      comes = λ meter.
          steps_over w.program meter ab.count bc.count (ab.count + bc.count) refl (Running a.config)
          ∙ ap (λ at. (steps w.program meter bc.count at).at) (ab.comes meter) ∙ bc.comes meter;
      shown = shown_of_both w a b c first second ab bc;
      inside = inside_of_both w a b c first second ab bc;
    }
