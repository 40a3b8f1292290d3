use Rattle.std.proofs.Common.{◌≡◌, ◌⊎◌, inl, inr}
use Rattle.std.proofs.lemmas.Result.{IfErr-weaker, IfOk-weaker}
use Rattle.hook_insert.specs.Forms.{form_of}
use Rattle.r3_faults.specs.declared.faults.Fault.TheVariants.{Memory}
use Rattle.r3_record.specs.LogFiles.{HasLogFile, HasModuleLog, HasNoLogFile, HasNoModuleLog, OfLog, OfScript}
use Rattle.r3_record.proofs.module_logs.scripted_file.Goals as goal

pub returns-in-Ok : goal.returns-in-Ok
returns-in-Ok c =
    let m = c.args.checked.now in
    let form = form_of c.args.form in
    record {
      cause =
          IfErr-weaker c.run_file.result
          (λ fault. (fault ≡ Memory) ⊎ HasNoLogFile m form c.in-Ok.script c.args.turns fault)
          (λ fault. (fault ≡ Memory) ⊎ HasNoModuleLog m c.args.script.now c.args.turns fault)
          (λ fault either. elim either [
            | inl memory ↦ inl memory
            | inr none ↦ inr (OfLog form c.requires.form c.in-Ok.script c.in-Ok.ensures.taken none)
          ])
          c.run_file.ensures.cause;
      printed =
          IfOk-weaker c.run_file.result (λ bytes. HasLogFile m form c.in-Ok.script c.args.turns bytes.items)
          (λ bytes. HasModuleLog m c.args.script.now c.args.turns bytes.items)
          (λ bytes logged. record {
            form = form;
            has_form = c.requires.form;
            script = c.in-Ok.script;
            is_script = c.in-Ok.ensures.taken;
            logged = logged;
          })
          c.run_file.ensures.printed;
    }

pub returns-in-Err : goal.returns-in-Err
returns-in-Err c =
    record {
      cause =
          elim c.in-Err.ensures.cause
          [ inl memory ↦ inl memory | inr refused ↦ inr (OfScript (form_of c.args.form) c.requires.form refused) ];
      printed = tt;
    }
