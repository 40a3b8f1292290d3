use Rattle.std.proofs.Common.{◌⊎◌, inl, inr, ℕ, List, arith}
use Rattle.wasm_syntax.specs.declared.modules.Module.{Module}
use Rattle.r3_faults.specs.declared.faults.Fault.{Fault}
use Rattle.r3_inputs.specs.declared.module_files.ModuleFile.TheVariants.{Instrumented}
use Rattle.r3_inputs.specs.Inputs.{IsModuleIn, IsRefusedIn}
use Rattle.r3_inputs.proofs.TextStages.{AreTextStages, text_goes_on, text_stopped}
use Rattle.r3_record.specs.LogFiles.{HasModuleLog, HasNoModuleLog, IsLogFile, IsLogRefusal, OfModule, OfModuleLog}
use Rattle.r3_record.proofs.log_files.log_run.Goals as goal

module _ (hooked_bytes script_bytes : List ℕ) (turns : ℕ) where
  refusal_parts : (fault : Fault) → IsLogRefusal hooked_bytes script_bytes turns fault
      → IsRefusedIn Instrumented hooked_bytes fault
      ⊎ ((m : Module) × IsModuleIn Instrumented hooked_bytes m × HasNoModuleLog m script_bytes turns fault)
  refusal_parts fault (OfModule refused) = inl refused
  refusal_parts fault (OfModuleLog m is_module none) = inr (m, is_module, none)

  stages : AreTextStages (IsModuleIn Instrumented hooked_bytes) (IsRefusedIn Instrumented hooked_bytes)
      (λ m text. HasModuleLog m script_bytes turns text) (λ m fault. HasNoModuleLog m script_bytes turns fault)
      (IsLogFile hooked_bytes script_bytes turns) (IsLogRefusal hooked_bytes script_bytes turns)
  stages = record {
    whole = λ m text is_module logged. record { m = m; is_module = is_module; logged = logged };
    first_refused = λ fault refused. OfModule refused;
    next_refused = λ m fault is_module none. OfModuleLog m is_module none;
    refused_parts = refusal_parts;
  }

  parts : (text : List ℕ) → IsLogFile hooked_bytes script_bytes turns text
      → (m : Module) × IsModuleIn Instrumented hooked_bytes m × HasModuleLog m script_bytes turns text
  parts text is = (is.m, is.is_module, is.logged)

pub returns-in_err-checked : goal.returns-in_err-checked
returns-in_err-checked c =
    text_stopped (stages c.args.hooked.now c.args.script.now c.args.turns) c.module_in.result
    (record {
      taken = c.module_in.ensures.taken;
      cause = c.module_in.ensures.cause;
      refused = c.module_in.ensures.refused;
      accepted = c.module_in.ensures.accepted;
    }) c.from_residual.result c.in_err-checked.field-0.0 c.in_err-checked.was c.from_residual.ensures.1
    (parts c.args.hooked.now c.args.script.now c.args.turns)

pub log_file-requires : goal.log_file-requires
log_file-requires c =
    let checked = c.in_ok-checked.checked in
    let taken = c.in_ok-checked.ensures.taken in
    record {
      supported = c.in_ok-checked.ensures.supported;
      short = c.in_ok-checked.ensures.short;
      bytes = c.in_ok-checked.ensures.bytes;
      globals =
          let few = c.globals_within_encoding.ensures c.args.hooked.now checked taken.encoded in
          omega (arith, few, c.requires);
    }

pub returns : goal.returns
returns c =
    text_goes_on (stages c.args.hooked.now c.args.script.now c.args.turns) c.module_in.result
    (record {
      taken = c.module_in.ensures.taken;
      cause = c.module_in.ensures.cause;
      refused = c.module_in.ensures.refused;
      accepted = c.module_in.ensures.accepted;
    }) c.log_file.result c.in_ok-checked.checked c.in_ok-checked.was
    (parts c.args.hooked.now c.args.script.now c.args.turns) c.log_file.ensures
