use Rattle.std.proofs.Common.{sym, ◌∙◌, ap, subst}
use Rattle.wasm_syntax.specs.Index.{imported_funcs}
use Rattle.instrumented_module_laws.specs.Links.{script_with_hooks}
use Rattle.r3_make.specs.declared.recorded_runs.TheConstants.{NO_DIGEST}
use Rattle.r3_make.specs.Records.{AreHookedInputs}
use Rattle.r3_make.proofs.Originals.{of_words}
use Rattle.r3_make.proofs.recorded_runs.hooked_inputs.Goals as goal

pub instrument-requires-clause-core : goal.instrument-requires-clause-core
instrument-requires-clause-core c =
    (of_words c.args.checked.now c.requires.original c.encoded_have_words.ensures).0

pub instrument-requires-clause-words : goal.instrument-requires-clause-words
instrument-requires-clause-words c =
    (of_words c.args.checked.now c.requires.original c.encoded_have_words.ensures).1

pub returns : goal.returns
returns c =
    subst (AreHookedInputs c.args.checked.now c.args.script) (sym c.with_script.ensures)
    (record {
      original = c.requires.original;
      can_run = c.requires.runnable;
      digest = NO_DIGEST;
      hooked = c.in_ok-hooked.ensures.module;
      meter = c.in_ok-hooked.ensures.meter;
      script_is = c.in_ok-script.ensures ∙ ap (λ m. script_with_hooks m c.args.script) c.module-2.ensures.same;
      imports = c.count_of_imports-imports.ensures ∙ ap imported_funcs c.module.ensures.same;
    })
