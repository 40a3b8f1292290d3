use Rattle.std.proofs.Common.{◌≡◌, ◌⊎◌, inl, inr, ℕ, List, Err, refl}
use Rattle.wasm_syntax.specs.declared.modules.Module.{Module}
use Rattle.r3_faults.specs.declared.faults.Fault.{Fault}
use Rattle.r3_inputs.specs.Inputs.{IsModuleOf, IsRefusedModule}
use Rattle.r3_inputs.proofs.TextStages.{AreTextStages, text_goes_on, text_stopped}
use Rattle.r3_instrument.specs.InstrumentedBytes.{IsHooked, IsHookedOf, IsHookedRefusal, IsTooLong, OfLength, OfModule}
use Rattle.r3_instrument.proofs.OneHooked.{exact}
use Rattle.r3_instrument.proofs.instrumentation.instrument_bytes.Goals as goal

module _ (bytes : List ℕ) where
  refusal_parts : (fault : Fault) → IsHookedRefusal bytes fault
      → IsRefusedModule bytes fault ⊎ ((m : Module) × IsModuleOf bytes m × IsTooLong bytes m fault)
  refusal_parts fault (OfModule refused) = inl refused
  refusal_parts fault (OfLength m is_module long) = inr (m, is_module, long)

  stages : AreTextStages (IsModuleOf bytes) (IsRefusedModule bytes) (IsHooked bytes) (IsTooLong bytes)
      (IsHookedOf bytes) (IsHookedRefusal bytes)
  stages = record {
    whole = λ m text is_module hooked. record { m = m; is_module = is_module; hooked = hooked };
    first_refused = λ fault refused. OfModule refused;
    next_refused = λ m fault is_module long. OfLength m is_module long;
    refused_parts = refusal_parts;
  }

  parts : (text : List ℕ) → IsHookedOf bytes text → (m : Module) × IsModuleOf bytes m × IsHooked bytes m text
  parts text is = (is.m, is.is_module, is.hooked)

pub returns-in-Ok : goal.returns-in-Ok
returns-in-Ok c =
    let bytes = c.args.«module».now in
    text_goes_on (stages bytes) c.module_of.result
    (record {
      taken = c.module_of.ensures.taken;
      cause = c.module_of.ensures.cause;
      refused = c.module_of.ensures.refused;
      accepted = c.module_of.ensures.accepted;
    }) c.hooked_of.result c.in-Ok.checked c.in-Ok.is (parts bytes)
    (exact bytes c.in-Ok.checked c.hooked_of.result c.hooked_of.ensures)

pub returns-in-Err : goal.returns-in-Err
returns-in-Err c =
    let bytes = c.args.«module».now in
    text_stopped (stages bytes) c.module_of.result
    (record {
      taken = c.module_of.ensures.taken;
      cause = c.module_of.ensures.cause;
      refused = c.module_of.ensures.refused;
      accepted = c.module_of.ensures.accepted;
    }) (Err c.in-Err.fault) c.in-Err.fault c.in-Err.is refl (parts bytes)
