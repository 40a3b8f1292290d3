use Rattle.generated_code_laws.proofs.laws.laws_of_replays.Goals as goal

pub returns : goal.returns
returns c =
    record {
      follow =
          record {
            run =
                record {
                  projections = c.projections_run_along.ensures;
                  along = c.leads_run_along.ensures;
                  end_after = c.leads_go_on.ensures.ends;
                  show_after = c.leads_go_on.ensures.shows;
                  single = c.steps_lead_on.ensures;
                };
            steps =
                record {
                  along = c.leads_run_along.ensures;
                  leads = c.steps_lead_on.ensures.leads;
                  arms = c.dispatches_reach_arms.ensures.arms;
                  selectors = c.dispatches_reach_arms.ensures.selectors;
                };
            instructions = record { answer = c.own_answers.ensures.answers; alike = c.observed_steps.ensures };
            effects = c.effects_are_made.ensures;
          };
      start =
          record {
            typed = c.typed_store.ensures.store;
            code = c.replay_modules_have_code.ensures.code;
            begins = c.replay_modules_have_code.ensures.store;
          };
      held = c.items_show_projections.ensures.held;
      shown = c.items_show_projections.ensures.shown;
    }
