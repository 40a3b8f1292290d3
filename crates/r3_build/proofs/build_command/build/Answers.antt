use Rattle.std.proofs.Common.{◌⊎◌, inl, inr, ℕ, List}
use Rattle.sha2.specs.Sha256.{sha256}
use Rattle.wasm_syntax.specs.declared.modules.Module.{Module}
use Rattle.host_script.specs.declared.scripts.Script.{Script}
use Rattle.r3_faults.specs.declared.faults.Fault.{Fault}
use Rattle.r3_inputs.specs.Inputs.{AreRefused}
use Rattle.r3_inputs.proofs.TextStages.{AreTextStages, text_goes_on, text_stopped}
use Rattle.accepted_runs.proofs.InputAnswers.{AreBoth, inputs_exact}
use Rattle.r3_build.specs.BuiltReplays.{IsBuilt, IsPrinted}
use Rattle.r3_build.specs.BuildRefusals.{IsBuildRefusal, IsUnbuilt, OfInputs, OfModule}
use Rattle.r3_build.proofs.build_command.build.Goals as goal

module _ (module_bytes script_bytes tape_bytes : List ℕ) where
  -- the replay module of the tape, or why there is none, for a module and a script
  abbrev IsOf : Module × Script → List ℕ → Type 0
  IsOf read text = IsBuilt read.0 read.1 (sha256 module_bytes) tape_bytes text

  abbrev IsNone : Module × Script → Fault → Type 0
  IsNone read fault = IsUnbuilt read.0 read.1 (sha256 module_bytes) tape_bytes fault

  refusal_parts : (fault : Fault) → IsBuildRefusal module_bytes script_bytes tape_bytes fault
      → AreRefused module_bytes script_bytes fault
      ⊎ ((read : Module × Script) × AreBoth module_bytes script_bytes read × IsNone read fault)
  refusal_parts fault (OfInputs refused) = inl refused
  refusal_parts fault (OfModule m script inputs unbuilt) = inr ((m, script), inputs, unbuilt)

  stages : AreTextStages (AreBoth module_bytes script_bytes) (AreRefused module_bytes script_bytes) IsOf IsNone
      (IsPrinted module_bytes script_bytes tape_bytes) (IsBuildRefusal module_bytes script_bytes tape_bytes)
  stages = record {
    whole = λ read text inputs built. record { m = read.0; script = read.1; inputs = inputs; built = built };
    first_refused = λ fault refused. OfInputs refused;
    next_refused = λ read fault inputs unbuilt. OfModule read.0 read.1 inputs unbuilt;
    refused_parts = refusal_parts;
  }

  parts : (text : List ℕ) → IsPrinted module_bytes script_bytes tape_bytes text
      → (read : Module × Script) × AreBoth module_bytes script_bytes read × IsOf read text
  parts text is = ((is.m, is.script), is.inputs, is.built)

pub returns-in_err-checked : goal.returns-in_err-checked
returns-in_err-checked c =
    let module_bytes = c.args.module.now in
    let script_bytes = c.args.script.now in
    text_stopped (stages module_bytes script_bytes c.args.tape.now) c.inputs_of.result
    (inputs_exact module_bytes script_bytes c.inputs_of.result c.inputs_of.ensures.taken c.inputs_of.ensures.cause
    c.inputs_of.ensures.refused c.inputs_of.ensures.accepted) c.from_residual.result c.in_err-checked.field-0.0
    c.in_err-checked.was c.from_residual.ensures.1 (parts module_bytes script_bytes c.args.tape.now)

pub returns : goal.returns
returns c =
    let module_bytes = c.args.module.now in
    let script_bytes = c.args.script.now in
    text_goes_on (stages module_bytes script_bytes c.args.tape.now) c.inputs_of.result
    (inputs_exact module_bytes script_bytes c.inputs_of.result c.inputs_of.ensures.taken c.inputs_of.ensures.cause
    c.inputs_of.ensures.refused c.inputs_of.ensures.accepted) c.replay_for.result
    (c.in_ok-checked.checked, c.in_ok-checked.script) c.in_ok-checked.was
    (parts module_bytes script_bytes c.args.tape.now) c.replay_for.ensures
