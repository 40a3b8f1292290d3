-- A run with hooks after the call of a hook, which the host answers at once by doing nothing.
use Rattle.std.proofs.Common.{◌≡◌, ℕ, ◌≤◌, [], ◌∷◌, None, Some, Ok, refl, ap, inl}
use Rattle.std.specs.Prelude.{slice_get, slice_index}
use Rattle.wasm_syntax.specs.declared.modules.Module.{Module}
use Rattle.host_script.specs.declared.scripts.Script.{Script}
use Rattle.history_spec.specs.declared.entries.Entry.TheVariants.{ImportReturn}
use Rattle.history_spec.specs.Step.{StepResult, response_to}
use Rattle.record_replay_spec.specs.HookedRuns.{call_of_hook}
use Rattle.hook_names.specs.Steps.{IsRun, Steps}
use Rattle.wasm_interp.specs.declared.machine.Pause.{Pause}
use Rattle.wasm_interp.specs.declared.machine.Pause.TheVariants as pause
use Rattle.wasm_interp.specs.Calls.{AdvancesRun, ResumesRun}
use Rattle.wasm_interp.specs.Laws.{ResultsAreValues}
use Rattle.wasm_interp.specs.State.{State}
use Rattle.host_play.specs.declared.hooked_plays.RunSettings.{RunSettings}
use Rattle.host_play.specs.declared.host_steps.HostStep.TheVariants as host_step
use Rattle.host_play.specs.declared.play_state.Host.{Host}
use Rattle.host_play.specs.declared.play_state.Host.TheVariants as host
use Rattle.host_play.specs.declared.play_state.PlayState.{PlayState}
use Rattle.host_play.specs.declared.play_state.Stand.TheVariants as at
use Rattle.host_play.specs.HooksSoFar.{HooksSoFar}
use Rattle.host_play.specs.Hosts.{BeginsAnswer, action_at, actions_in, counts_after_call}
use Rattle.host_play.specs.Replies.{nothing_done}
use Rattle.host_play.specs.Stands.{Leads, StandsAt}
use Rattle.host_play.proofs.Ends.{Answered, answered, return_leads}
use Rattle.host_play.proofs.HookWaits as waits
use Rattle.host_play.proofs.HooksOn.{host_did, part_to_import}

module _ {H : Type 0} (is_step : Steps H) (m : Module) (script : Script) (settings : RunSettings)
    (initial : StepResult) (begun now : H) (playing : PlayState) (given : ℕ)
    (t : HooksSoFar is_step m script settings initial begun now at.Module playing given)
    (end : Pause) (new : State) (left : ℕ) (run : AdvancesRun playing.machine settings.meter.now given end left new)
    (index : ℕ) (is : end ≡ pause.Import index) (past : settings.imports ≤ index) where
  abbrev stands : StandsAt m script at.Module playing t.reached.pending
  stands = t.reached.standing

  replies : (count : ℕ) → response_to script.imports index count ≡ Some nothing_done
  replies count =
      t.can_play.hooks.answered index count past
      (waits.there m script settings t.can_play t.reached.pending playing stands given end new left run index is)

  -- the answer to the call, before its end
  abbrev answer : Host
  answer = host.Answer index (slice_index playing.counts.items index) 0

  no_action : action_at script answer ≡ None
  no_action = ap (λ response. slice_get (actions_in response) 0) (replies (slice_index playing.counts.items index))

  begins : (after : PlayState)
      → after.counts.items ≡ counts_after_call playing.counts.items index
      → BeginsAnswer script playing.hosts playing.counts.items index (answer ∷ playing.hosts) after.counts.items
  begins after counted =
      record { response = nothing_done; chosen = λ count same. replies count; pushed = refl; counted = counted }

  pub hook_answered : ResultsAreValues → (later : H)
      → IsRun is_step now (call_of_hook settings.imports index
      (waits.to m script settings t.can_play t.reached.pending playing stands given end new left run index is).args
      new.store) (Ok tt) later
      → (after : PlayState) → ResumesRun new None after.machine → after.functions ≡ playing.functions
      → after.hosts ≡ playing.hosts
      → after.counts.items ≡ counts_after_call playing.counts.items index
      → HooksSoFar is_step m script settings initial begun later at.Module after left
  hook_answered results later taken after resumes functions hosts counted =
      let before : PlayState = record after { machine = new; hosts = answer ∷ playing.hosts } in
      let at_host : HooksSoFar is_step m script settings initial begun later at.Host before left =
      part_to_import is_step m script settings initial begun now playing given t end new left run index is
      later taken (answer ∷ playing.hosts) before refl functions refl (begins after counted) in
      let s : StepResult = at_host.reached.pending in
      let a : Answered m script s before index answer nothing_done.«end» at_host.reached.standing =
      answered m script s before answer index (slice_index playing.counts.items index) 0 nothing_done
      at_host.reached.standing refl refl no_action (replies (slice_index playing.counts.items index)) in
      let leads : Leads m script s (ImportReturn index [] ∷ []) at.Module after =
      return_leads m script s before answer at_host.reached.standing a.done index None after a.same_import results
      a.same_end resumes refl refl hosts in
      host_did is_step m script settings initial begun later before left at_host (host_step.Returns index None)
      after left (inl (refl, leads))
