-- The code of effects performs them, one after the other.
use Rattle.std.proofs.Common.{◌≡◌, List, [], ◌∷◌, ◌++◌, Some, refl, sym, ap, ◌∙◌, subst, arith}
use Rattle.std.proofs.lemmas.List.Sums.{sum_by-cons}
use Rattle.base.proofs.Options.{and_then_some}
use Rattle.wasm_syntax.specs.Nest.{Plain}
use Rattle.trace_model.specs.declared.tapes.Effect.{Effect}
use Rattle.trace_model.specs.Weight.{effect_weight}
use Rattle.history_spec.specs.Store.{Store}
use Rattle.record_replay_spec.specs.TapeRun.{store_after_effect, store_after_effects}
use Rattle.replay_module_spec.specs.Effects.{effect_code}
use Rattle.replay_module_spec.specs.Segments.{effects_code}
use Rattle.replay_run_spec.specs.Items.{Item, entries_in}
use Rattle.replay_run_spec.specs.Stretches.{AreSameChanges}
use Rattle.generated_code_laws.specs.Leads.{Watched, IsOutside, Standing}
use Rattle.generated_code_laws.proofs.Along.{entries_over}
use Rattle.generated_code_laws.specs.Counts.{changes_in}
use Rattle.generated_code_laws.specs.EffectLaws.{AreItemsOf, AreWritable, EffectsAreMade}
use Rattle.generated_code_laws.proofs.Does.{Does, does_nothing, does_both}
use Rattle.generated_code_laws.proofs.Items.{changes_of_both, steps_of_both, blocks_of_both}
use Rattle.generated_code_laws.proofs.Same.{same_both, same_is}
use Rattle.generated_code_laws.proofs.Each.{effect_made}

-- the code of effects performs them, at any place in a body
record AreMade (w : Watched) (s : Standing) (store after : Store) (effects : List Effect) : Type 0 where
  pub items : List Item
  pub does : Does w s store after [] [] (effects_code effects) items
  pub known : AreItemsOf store effects items

module _ (w : Watched) (s : Standing) (outside : IsOutside w.layout s.frame.func) where
  are_made : (store after : Store) (effects : List Effect) → AreWritable w.globals store effects
      → store_after_effects effects store ≡ Some after → AreMade w s store after effects
  are_made store after [] can h =
      let same : store ≡ after = cc in
      subst (λ st. AreMade w s store st []) same
      (record {
        items = [];
        does = does_nothing w s store [];
        known = record { silent = refl; changes = λ any. same_is [] [] refl; steps = omega arith; blocks = refl };
      })
  are_made store after (effect ∷ effects) can h =
      let b = and_then_some (store_after_effect store effect) (store_after_effects effects) after h in
      let next = b.0 in
      let one = effect_made w s outside store next effect can.0 b.1 in
      let more = are_made next after effects (can.1 next b.1) b.2 in
      record {
        items = one.items ++ more.items;
        does =
            does_both w s store next after [] [] [] (effect_code effect) (effects_code effects) one.items more.items
            one.does more.does;
        known = record {
          silent =
              entries_over one.items more.items
              ∙ ap (λ l. l ++ entries_in more.items) one.silent ∙ more.known.silent;
          changes = λ grows.
              subst (λ l. AreSameChanges l (effect ∷ effects)) (sym (changes_of_both one.items more.items))
              (same_both (effect ∷ []) effects (changes_in one.items) (changes_in more.items) (one.changes grows.0)
              (more.known.changes (grows.1 next b.1)));
          steps =
              let sum = steps_of_both one.items more.items in
              let first = one.steps in
              let second = more.known.steps in
              let all = sum_by-cons effect_weight effect effects in
              omega (arith, sum, first, second, all);
          blocks =
              let sum = blocks_of_both one.items more.items in
              let first = one.blocks in
              let second = more.known.blocks in
              omega (arith, sum, first, second);
        };
      }

pub effects_made : EffectsAreMade
effects_made w s store after effects labels i rest number outside can h =
    let all = are_made w s outside store after effects can h in
    let here = all.does labels (Plain i rest) number refl in
    record { items = all.items; at = here.at; leads = here.leads; known = all.known }
