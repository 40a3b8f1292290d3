use Rattle.std.proofs.Common.{◌≡◌, ◌⊎◌, inl, inr, None, subst}
use Rattle.wasm_syntax.specs.Validity.{IsValid}
use Rattle.hook_insert.specs.Forms.{form_of}
use Rattle.r3_faults.specs.declared.faults.Fault.TheVariants.{Memory}
use Rattle.r3_record.specs.LogFiles.{HasNoLogFile, OfRun}
use Rattle.r3_record.proofs.Forms.{hooks_after}
use Rattle.r3_inputs.proofs.AnswerLemmas.{passed}
use Rattle.r3_record.proofs.run_logs.log_from.Goals as goal

pub recorded_log-requires-clause-hooked : goal.recorded_log-requires-clause-hooked
recorded_log-requires-clause-hooked c = hooks_after c.args.run.checked.now (form_of c.args.run.form) c.requires.run.has_form

pub returns-in_err-log-clause-cause : goal.returns-in_err-log-clause-cause
returns-in_err-log-clause-cause c =
    passed c.from_residual.result c.in_err-log.field-0.0
    (λ fault. (fault ≡ Memory)
    ⊎ HasNoLogFile c.args.run.checked.now (form_of c.args.run.form) c.args.run.script.now c.args.run.turns fault)
    c.from_residual.ensures.1
    (elim c.in_err-log.ensures.cause
    [ inl memory ↦ inl memory | inr refusal ↦ inr (OfRun c.args.supply.now c.args.store c.requires.linked refusal) ])

pub file_bytes-requires : goal.file_bytes-requires
file_bytes-requires c =
    c.logs_have_spellings.ensures c.args.run.checked.now c.args.run.script.now c.args.store None c.args.run.form.imports c.args.run.turns
    (record {
      runnable = record {
        valid = subst IsValid c.module-valid.ensures.same c.module-valid.ensures.valid;
        supported = c.requires.run.accepted.supported;
        bytes = c.requires.run.accepted.bytes;
      };
      short = c.requires.run.accepted.short;
      hooked = hooks_after c.args.run.checked.now (form_of c.args.run.form) c.requires.run.has_form;
      fits = c.requires.run.fits;
      typed = c.requires.typed;
    }) c.in_ok-log.log.outcome c.in_ok-log.log c.in_ok-log.ensures.logged
