use Rattle.tape_laws.proofs.laws.laws_of_steps.Goals as goal

pub returns : goal.returns
returns c =
    record {
      alike = c.observed_steps.ensures;
      own = c.own_steps.ensures;
      answers = c.own_answers.ensures.answers;
      rules = c.rules_hold.ensures.instructions;
      actions = c.rules_hold.ensures.actions;
      steps = c.safe_steps.ensures.steps;
    }
