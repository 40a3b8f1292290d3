use Rattle.std.proofs.Common.{inl, inr, refl, ap, Ok}
use Rattle.r3_inputs.specs.Inputs.{ByModule, ByScript}
use Rattle.accepted_runs.proofs.InputAnswers.{module-refused, module-accepted, script-not-taken, script-wanted, both-refused, both-same}
use Rattle.accepted_runs.proofs.inputs.inputs_of.Goals as goal

-- ---- both are taken

pub returns-in-Ok-script_of-clause-taken : goal.returns-in-Ok-script_of-clause-taken
returns-in-Ok-script_of-clause-taken c = record {
  inputs = record { is_module = c.in-Ok.ensures.taken; is_script = c.in-Ok-script_of.ensures.taken };
  can_run = record { supported = c.in-Ok.ensures.supported; short = c.in-Ok.ensures.short; fits = c.in-Ok-script_of.ensures.fits };
  bytes = c.in-Ok.ensures.bytes;
  within = c.in-Ok.ensures.within;
}

pub returns-in-Ok-script_of-clause-refused : goal.returns-in-Ok-script_of-clause-refused
returns-in-Ok-script_of-clause-refused c = λ fault refusal.
    absurd (both-refused c.args.module.now c.args.script.now c.module_of.result c.module_of.ensures.refused
    c.module_of.ensures.accepted c.in-Ok.checked c.in-Ok.is
    c.script_of.result c.script_of.ensures.refused c.script_of.ensures.accepted c.in-Ok-script_of.script c.in-Ok-script_of.is fault refusal)

pub returns-in-Ok-script_of-clause-accepted : goal.returns-in-Ok-script_of-clause-accepted
returns-in-Ok-script_of-clause-accepted c = λ m s inputs.
    inl (ap Ok (both-same c.args.module.now c.args.script.now c.module_of.result c.module_of.ensures.refused
    c.module_of.ensures.accepted c.in-Ok.checked c.in-Ok.is
    c.script_of.result c.script_of.ensures.refused c.script_of.ensures.accepted c.in-Ok-script_of.script c.in-Ok-script_of.is m s inputs))

-- ---- the script is not taken

pub returns-in-Err-script_of-clause-cause : goal.returns-in-Err-script_of-clause-cause
returns-in-Err-script_of-clause-cause c =
    elim c.in-Err-script_of.ensures.cause
    [ inl memory ↦ inl memory | inr refused ↦ inr (ByScript c.in-Ok.checked c.in-Ok.ensures.taken refused) ]

pub returns-in-Err-script_of-clause-refused : goal.returns-in-Err-script_of-clause-refused
returns-in-Err-script_of-clause-refused c = λ fault refusal.
    script-not-taken c.args.module.now c.args.script.now c.module_of.result c.module_of.ensures.refused c.module_of.ensures.accepted c.in-Ok.checked c.in-Ok.is
    c.script_of.result c.script_of.ensures.refused c.script_of.ensures.accepted c.in-Err-script_of.fault c.in-Err-script_of.is _ refl fault refusal

pub returns-in-Err-script_of-clause-accepted : goal.returns-in-Err-script_of-clause-accepted
returns-in-Err-script_of-clause-accepted c = λ m s inputs.
    script-wanted c.args.module.now c.args.script.now c.module_of.result c.module_of.ensures.refused c.module_of.ensures.accepted c.in-Ok.checked c.in-Ok.is
    c.script_of.result c.script_of.ensures.refused c.script_of.ensures.accepted c.in-Err-script_of.fault c.in-Err-script_of.is _ (m, s) refl m s inputs

-- ---- the module is not taken

pub returns-in-Err-clause-cause : goal.returns-in-Err-clause-cause
returns-in-Err-clause-cause c = elim c.in-Err.ensures.cause [ inl memory ↦ inl memory | inr refused ↦ inr (ByModule refused) ]

pub returns-in-Err-clause-refused : goal.returns-in-Err-clause-refused
returns-in-Err-clause-refused c = λ fault refusal.
    module-refused c.args.module.now c.args.script.now c.module_of.result c.module_of.ensures.refused
    c.module_of.ensures.accepted c.in-Err.fault c.in-Err.is _ refl fault refusal

pub returns-in-Err-clause-accepted : goal.returns-in-Err-clause-accepted
returns-in-Err-clause-accepted c = λ m s inputs.
    module-accepted c.args.module.now c.args.script.now c.module_of.result c.module_of.ensures.refused
    c.module_of.ensures.accepted c.in-Err.fault c.in-Err.is _ (m, s) refl m inputs.is_module
