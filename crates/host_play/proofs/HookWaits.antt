-- If the machine has come to a call of an import: its arguments, and how much is left to do.
use Rattle.std.proofs.Common.{◌≡◌, ℕ, suc, ◌+◌, ◌<◌, ◌≤◌, [], ◌∷◌, length, Some, refl, sym, ap, ◌∙◌, subst, arith, ◌⊎◌, inl, inr, slice_get}
use Rattle.std.proofs.Math.Nat.{eq-or-lt_of_le}
use Rattle.wasm_syntax.specs.declared.signatures.FuncType.{FuncType}
use Rattle.wasm_syntax.specs.declared.modules.Module.{Module}
use Rattle.wasm_syntax.specs.Index.{imported_funcs}
use Rattle.host_script.specs.declared.scripts.Script.{Script}
use Rattle.host_script.specs.declared.scripts.ResponseEnd.TheVariants.{Trap}
use Rattle.history_spec.specs.Code.{code_of, signature}
use Rattle.history_spec.specs.Configuration.{InImport, InModule}
use Rattle.history_spec.specs.Settle.{settle}
use Rattle.history_spec.specs.Run.{program_of}
use Rattle.history_spec.specs.Step.{StepResult, after_settling}
use Rattle.type_safety.specs.Stores.{func_count}
use Rattle.type_safety.specs.Values.{IsValue}
use Rattle.wasm_flat.specs.Meters.{Weighing, meter_of}
use Rattle.flat_steps.specs.Follows.{outside_of}
use Rattle.record_replay_spec.specs.declared.hooks.Hook.{Hook}
use Rattle.record_replay_spec.specs.Hooks.{hooks, hook_count, hook_params, hook_type}
use Rattle.wasm_interp.specs.declared.machine.Pause.{Pause}
use Rattle.wasm_interp.specs.declared.machine.Pause.TheVariants as pause
use Rattle.wasm_interp.specs.Advance.{Advances}
use Rattle.wasm_interp.specs.Ahead.{ahead}
use Rattle.wasm_interp.specs.Calls.{AdvancesRun, ComesToImport, RunPart}
use Rattle.wasm_interp.specs.Laws.{AdvancesLessen, ArgumentsAreThere, ImportsWait}
use Rattle.wasm_interp.specs.State.{IsInModule, State, StandsFor}
use Rattle.wasm_interp.specs.Walks.{FitsWeights}
use Rattle.host_play.specs.declared.hooked_plays.RunSettings.{RunSettings}
use Rattle.host_play.specs.declared.play_state.Host.{Host}
use Rattle.host_play.specs.declared.play_state.Host.TheVariants as host
use Rattle.host_play.specs.declared.play_state.PlayState.{PlayState}
use Rattle.host_play.specs.declared.play_state.Stand.TheVariants as at
use Rattle.host_play.specs.HooksSoFar.{AwaitsCall, CanPlay, IsLess}
use Rattle.host_play.specs.Stands.{StandsAt}
use Rattle.host_play.proofs.HookShapes.{zip_length}
use Rattle.host_play.proofs.ModuleParts.{comes, no_more_left}

module _ (m : Module) (script : Script) (settings : RunSettings) (can_play : CanPlay m script settings) (s : StepResult)
    (playing : PlayState) (standing : StandsAt m script at.Module playing s)
    (given : ℕ) (end : Pause) (new : State) (left : ℕ)
    (run : AdvancesRun playing.machine settings.meter.now given end left new) (index : ℕ)
    (is : end ≡ pause.Import index) where
  abbrev part : RunPart m standing.heights (program_of m script) (meter_of m settings.meter.now)
      (outside_of standing.goes_on.below) standing.counts (after_settling playing.machine.store standing.counts
      (settle (InModule standing.goes_on.frame ∷ standing.goes_on.below))) given end left new
  part =
      run m standing.heights (program_of m script) standing.counts standing.goes_on.frame standing.goes_on.below
      standing.is_run standing.goes_on.stack.machine

  abbrev pub to : ComesToImport m standing.heights (program_of m script) (outside_of standing.goes_on.below) standing.counts index part.entries new part.last
  to = comes m script settings.meter.now s playing standing given end new left run index is

  stands : StandsFor m standing.heights (InImport index to.args [] Trap ∷ InModule to.frame ∷ to.below) new
  stands = to.stands [] Trap (λ k d below. absurd (omega arith)) tt

  pub there : index < imported_funcs m
  there = stands.holds.laid.2

  counted : (place : ℕ) (kind : Hook) → slice_get hooks place ≡ Some kind → index ≡ settings.imports + place → length to.args ≡ length (hook_params kind)
  counted place kind found at =
      let types : Some to.ty ≡ Some (hook_type kind) = sym to.has_type ∙ ap (signature (code_of m)) at ∙ can_play.hooks.has_type place kind found in
      let same : to.ty ≡ hook_type kind = cc in
      sym (zip_length (IsValue (func_count m)) to.ty.params to.args to.values) ∙ ap (λ (ty : FuncType). length ty.params) same

  pub awaits_call : ImportsWait → ArgumentsAreThere → AwaitsCall new settings.imports index to.args
  awaits_call waits arguments = (
    record {
      waits = waits m standing.heights index to.args [] Trap (InModule to.frame ∷ to.below) new stands;
      each = λ number. arguments m standing.heights index to.args [] Trap (InModule to.frame ∷ to.below) new number stands;
    },
    record {
      there = λ past. let imported : imported_funcs m ≡ settings.imports + hook_count = can_play.hooks.imported in omega (arith, there, imported);
      count = counted;
    },
  )

-- ---- how much is left to do

same_flat : (old new : State) (weighing : Weighing) (given left : ℕ) (end : Pause)
    → Advances old.flat old.store old.frames old.slots weighing given end left new → new.flat ≡ old.flat
same_flat old new weighing given left end advances = ap (λ (s : State). s.flat) advances.machine

-- up to the call of an import
pub import_lessens : AdvancesLessen → (playing : PlayState) (weighing : Weighing) (given index left : ℕ) (new : State) (new_playing : PlayState) (answer : Host)
    → IsInModule playing.machine.flat playing.machine.frames → FitsWeights playing.machine.flat weighing
    → Advances playing.machine.flat playing.machine.store playing.machine.frames playing.machine.slots weighing given (pause.Import index) left new
    → new_playing.machine ≡ new → new_playing.hosts ≡ answer ∷ playing.hosts → IsLess given at.Module playing left at.Host new_playing
import_lessens law playing weighing given index left new new_playing answer inside fits advances same_machine
    same_hosts = go (eq-or-lt_of_le (no_more_left advances))
  where
    less : left ≡ given → ahead new_playing.machine.flat new_playing.machine.frames < ahead playing.machine.flat playing.machine.frames
    less same =
        let lessened : ahead playing.machine.flat new.frames < ahead playing.machine.flat playing.machine.frames =
        law playing.machine weighing given (pause.Import index) new inside fits
        (subst (λ l. Advances playing.machine.flat playing.machine.store playing.machine.frames playing.machine.slots
        weighing given (pause.Import index) l new) same advances) in
        subst (λ n. n < ahead playing.machine.flat playing.machine.frames)
        (ap (λ flat. ahead flat new.frames)
        (sym (same_flat playing.machine new weighing given left (pause.Import index) advances))
        ∙ ap (λ (s : State). ahead s.flat s.frames) (sym same_machine)) lessened

    go : (left ≡ given) ⊎ (left < given) → IsLess given at.Module playing left at.Host new_playing
    go (inr fewer) = inl fewer
    go (inl same) =
        let one : length new_playing.hosts ≡ suc (length playing.hosts) = ap length same_hosts in
        let falls : ahead new_playing.machine.flat new_playing.machine.frames < ahead playing.machine.flat playing.machine.frames = less same in
        inr (same, omega (arith, one, falls))

-- up to the call of a hook, which is answered at once
pub hook_lessens : AdvancesLessen → (playing : PlayState) (weighing : Weighing) (given index left : ℕ) (new : State)
    (after : PlayState) → IsInModule playing.machine.flat playing.machine.frames
    → FitsWeights playing.machine.flat weighing
    → Advances playing.machine.flat playing.machine.store playing.machine.frames playing.machine.slots weighing given
    (pause.Import index) left new
    → after.hosts ≡ playing.hosts → ahead after.machine.flat after.machine.frames ≤ ahead new.flat new.frames
    → IsLess given at.Module playing left at.Module after
hook_lessens law playing weighing given index left new after inside fits advances same_hosts smaller =
    let answer : Host = host.Answer index 0 0 in
    elim (import_lessens law playing weighing given index left new
    (record after { machine = new; hosts = answer ∷ playing.hosts }) answer inside fits advances refl refl) [
      | inl fewer ↦ inl fewer
      | inr more ↦
          (let same : length after.hosts ≡ length playing.hosts = ap length same_hosts in
          let falls = more.1 in
          inr (more.0, omega (arith, same, falls, smaller)))
    ]
