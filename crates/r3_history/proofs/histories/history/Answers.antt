use Rattle.std.proofs.Common.{◌⊎◌, inl, inr, ℕ, List}
use Rattle.wasm_syntax.specs.declared.modules.Module.{Module}
use Rattle.host_script.specs.declared.scripts.Script.{Script}
use Rattle.r3_faults.specs.declared.faults.Fault.{Fault}
use Rattle.r3_inputs.specs.Inputs.{AreRefused}
use Rattle.r3_inputs.proofs.TextStages.{AreTextStages, text_goes_on, text_stopped}
use Rattle.accepted_runs.proofs.InputAnswers.{AreBoth, inputs_exact}
use Rattle.r3_history.specs.Histories.{IsHistory, IsHistoryOf, IsHistoryRefusal, IsUnprinted, OfInputs, OfRun}
use Rattle.r3_history.proofs.histories.history.Goals as goal

module _ (module_bytes script_bytes : List ℕ) (turns : ℕ) where
  refusal_parts : (fault : Fault) → IsHistoryRefusal module_bytes script_bytes turns fault
      → AreRefused module_bytes script_bytes fault
      ⊎ ((read : Module × Script) × AreBoth module_bytes script_bytes read × IsUnprinted read.0 read.1 turns fault)
  refusal_parts fault (OfInputs refused) = inl refused
  refusal_parts fault (OfRun m script inputs unprinted) = inr ((m, script), inputs, unprinted)

  stages : AreTextStages (AreBoth module_bytes script_bytes) (AreRefused module_bytes script_bytes)
      (λ read text. IsHistoryOf read.0 read.1 turns text) (λ read fault. IsUnprinted read.0 read.1 turns fault)
      (IsHistory module_bytes script_bytes turns) (IsHistoryRefusal module_bytes script_bytes turns)
  stages = record {
    whole = λ read text inputs history. record { m = read.0; script = read.1; inputs = inputs; history = history };
    first_refused = λ fault refused. OfInputs refused;
    next_refused = λ read fault inputs unprinted. OfRun read.0 read.1 inputs unprinted;
    refused_parts = refusal_parts;
  }

  parts : (text : List ℕ) → IsHistory module_bytes script_bytes turns text
      → (read : Module × Script) × AreBoth module_bytes script_bytes read × IsHistoryOf read.0 read.1 turns text
  parts text is = ((is.m, is.script), is.inputs, is.history)

pub returns-in_err-checked : goal.returns-in_err-checked
returns-in_err-checked c =
    let module_bytes = c.args.module.now in
    let script_bytes = c.args.script.now in
    text_stopped (stages module_bytes script_bytes c.args.turns) c.inputs_of.result
    (inputs_exact module_bytes script_bytes c.inputs_of.result c.inputs_of.ensures.taken c.inputs_of.ensures.cause
    c.inputs_of.ensures.refused c.inputs_of.ensures.accepted) c.from_residual.result c.in_err-checked.field-0.0
    c.in_err-checked.was c.from_residual.ensures.1 (parts module_bytes script_bytes c.args.turns)

pub returns : goal.returns
returns c =
    let module_bytes = c.args.module.now in
    let script_bytes = c.args.script.now in
    text_goes_on (stages module_bytes script_bytes c.args.turns) c.inputs_of.result
    (inputs_exact module_bytes script_bytes c.inputs_of.result c.inputs_of.ensures.taken c.inputs_of.ensures.cause
    c.inputs_of.ensures.refused c.inputs_of.ensures.accepted) c.history_of.result
    (c.in_ok-checked.checked, c.in_ok-checked.script) c.in_ok-checked.was
    (parts module_bytes script_bytes c.args.turns) c.history_of.ensures
