use Rattle.tape_laws.proofs.laws.laws_of_runs.Goals as goal

pub returns : goal.returns
returns c =
    record {
      kept = c.needed_segments_are_kept.ensures;
      heights = c.typed_code.ensures.heights;
      code = c.typed_code.ensures.code;
      supplied = c.typed_store.ensures.supplied;
      store = c.typed_store.ensures.store;
      starts = c.safe_steps.ensures.starts;
    }
