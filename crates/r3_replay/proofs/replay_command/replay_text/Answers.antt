use Rattle.std.proofs.Common.{◌⊎◌, inl, inr, ℕ, List}
use Rattle.wasm_syntax.specs.declared.modules.Module.{Module}
use Rattle.r3_faults.specs.declared.faults.Fault.{Fault}
use Rattle.r3_inputs.specs.declared.module_files.ModuleFile.TheVariants.{Replay}
use Rattle.r3_inputs.specs.Inputs.{IsModuleIn, IsRefusedIn}
use Rattle.r3_inputs.proofs.TextStages.{AreTextStages, text_goes_on, text_stopped}
use Rattle.r3_replay.specs.ReplayTexts.{HasNoReplayText, HasReplayText, IsReplayRefusal, IsReplayText, OfModule, OfRun}
use Rattle.r3_replay.proofs.replay_command.replay_text.Goals as goal

module _ (binary : List ℕ) (turns : ℕ) where
  refusal_parts : (fault : Fault) → IsReplayRefusal binary turns fault
      → IsRefusedIn Replay binary fault ⊎ ((m : Module) × IsModuleIn Replay binary m × HasNoReplayText m turns fault)
  refusal_parts fault (OfModule refused) = inl refused
  refusal_parts fault (OfRun m is_module none) = inr (m, is_module, none)

  stages : AreTextStages (IsModuleIn Replay binary) (IsRefusedIn Replay binary) (λ m text. HasReplayText m turns text)
      (λ m fault. HasNoReplayText m turns fault) (IsReplayText binary turns) (IsReplayRefusal binary turns)
  stages = record {
    whole = λ m text is_module shown. record { m = m; is_module = is_module; shown = shown };
    first_refused = λ fault refused. OfModule refused;
    next_refused = λ m fault is_module none. OfRun m is_module none;
    refused_parts = refusal_parts;
  }

  parts : (text : List ℕ) → IsReplayText binary turns text
      → (m : Module) × IsModuleIn Replay binary m × HasReplayText m turns text
  parts text is = (is.m, is.is_module, is.shown)

pub returns-in_err-checked : goal.returns-in_err-checked
returns-in_err-checked c =
    text_stopped (stages c.args.binary.now c.args.turns) c.module_in.result
    (record {
      taken = c.module_in.ensures.taken;
      cause = c.module_in.ensures.cause;
      refused = c.module_in.ensures.refused;
      accepted = c.module_in.ensures.accepted;
    }) c.from_residual.result c.in_err-checked.field-0.0 c.in_err-checked.was c.from_residual.ensures.1
    (parts c.args.binary.now c.args.turns)

pub returns : goal.returns
returns c =
    text_goes_on (stages c.args.binary.now c.args.turns) c.module_in.result
    (record {
      taken = c.module_in.ensures.taken;
      cause = c.module_in.ensures.cause;
      refused = c.module_in.ensures.refused;
      accepted = c.module_in.ensures.accepted;
    }) c.text_of.result c.in_ok-checked.checked c.in_ok-checked.was (parts c.args.binary.now c.args.turns)
    c.text_of.ensures
