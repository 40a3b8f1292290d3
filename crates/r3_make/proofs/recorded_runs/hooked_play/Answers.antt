use Rattle.std.proofs.Common.{◌≡◌, ◌⊎◌, inl, inr, refl}
use Rattle.r3_faults.specs.declared.faults.Fault.TheVariants.{Memory}
use Rattle.r3_inputs.proofs.AnswerLemmas.{passed}
use Rattle.accepted_runs.specs.Unlinked.{IsUnlinkedFor}
use Rattle.r3_make.proofs.Originals.{hooked_fits, hooked_runnable, inputs_short, linked, unlinked}
use Rattle.r3_make.proofs.recorded_runs.hooked_play.Goals as goal

pub supply_and_store-requires-clause-supported : goal.supply_and_store-requires-clause-supported
supply_and_store-requires-clause-supported c =
    (hooked_runnable c.encoded_have_words.ensures c.requires.0 c.requires.1 c.args.inputs.now c.requires.2
    c.instrumented_are_runnable.ensures).supported

pub supply_and_store-requires-clause-fits : goal.supply_and_store-requires-clause-fits
supply_and_store-requires-clause-fits c =
    hooked_fits c.encoded_have_words.ensures c.requires.0 c.requires.1 c.args.inputs.now c.requires.2
    c.instrumented_are_fitted.ensures

pub flatten-requires : goal.flatten-requires
flatten-requires c =
    record {
      short = inputs_short c.encoded_have_words.ensures c.requires.0 c.requires.1 c.args.inputs.now c.requires.2
          c.instrumented_are_short.ensures;
    }

pub returns-in_err-supply-clause-cause : goal.returns-in_err-supply-clause-cause
returns-in_err-supply-clause-cause c = λ m script are.
    passed c.from_residual.result c.in_err-supply.field-0.0 (λ fault. (fault ≡ Memory) ⊎ IsUnlinkedFor m script fault)
    c.from_residual.ensures.1
    (elim c.in_err-supply.ensures.cause [
      | inl memory ↦ inl memory
      | inr found ↦
          inr
          (unlinked c.encoded_have_words.ensures m script c.args.inputs.now are c.instrumented_are_supplied.ensures
          c.instrumented_are_instantiated.ensures c.in_err-supply.field-0.0 found)
    ])

pub returns-clause-opened : goal.returns-clause-opened
returns-clause-opened c = λ m script are.
    let found =
    linked c.encoded_have_words.ensures m script c.args.inputs.now are c.instrumented_are_supplied.ensures
    c.instrumented_are_instantiated.ensures c.in_ok-supply.supply c.in_ok-supply.store c.in_ok-supply.ensures.linked
    in (
      found.0,
      found.1,
      record {
        opens = found.2;
        code = c.module.ensures.same;
        script = refl;
        flat = c.in_ok-flat.ensures.code;
        bound = c.in_ok-flat.ensures.bound;
      },
    )
