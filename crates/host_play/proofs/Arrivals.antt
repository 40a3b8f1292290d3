-- The run goes on from the place to which the machine comes, after the machine's entries.
use Rattle.std.proofs.Common.{◌≡◌, ℕ, List, [], ◌∷◌, ◌++◌, map, refl, sym, ap, ◌∙◌, subst}
use Rattle.std.proofs.lemmas.List.{append-nil}
use Rattle.std.proofs.Common.{append_assoc}
use Rattle.wasm_syntax.specs.declared.modules.Module.{Module}
use Rattle.host_script.specs.declared.scripts.Script.{Script}
use Rattle.base.specs.declared.outcomes.Outcome.TheVariants.{Trapped as ByTrap}
use Rattle.history_spec.specs.declared.entries.Entry.{Entry}
use Rattle.history_spec.specs.Configuration.{Activation, InModule}
use Rattle.history_spec.specs.Code.{code_of}
use Rattle.history_spec.specs.Settle.{settle}
use Rattle.history_spec.specs.Step.{Running, Finished, Progress, StepResult, step_result, after_entries, after_settling}
use Rattle.history_spec.specs.Run.{program_of}
use Rattle.type_safety.specs.Heights.{Heights}
use Rattle.flat_steps.specs.Follows.{outside_of}
use Rattle.host_actions.specs.Ready.{AreOf}
use Rattle.wasm_interp.specs.Calls.{IsRun, config_of, ComesToInstruction, ComesToHost}
use Rattle.host_play.specs.declared.play_state.Stand.{Stand}
use Rattle.host_play.specs.declared.play_state.Stand.TheVariants as at
use Rattle.host_play.specs.declared.play_state.PlayState.{PlayState}
use Rattle.host_play.specs.Hosts.{Plays, kept}
use Rattle.host_play.specs.Stands.{GoesOn, Leads, StandsAt}
use Rattle.host_play.proofs.Outside.{plays_same, plays_outside, awaits_outside}

-- a step with entries, before whose entries there are no others
pub with_none : (entries : List Entry) (next : Progress) → step_result entries next ≡ after_entries entries (step_result [] next)
with_none entries next = ap (λ es. step_result es next) (sym (append-nil entries))

pub after_both : (first second : List Entry) (s : StepResult) → after_entries (first ++ second) s ≡ after_entries first (after_entries second s)
after_both first second s = ap (λ es. step_result es s.next) (append_assoc first second s.entries)

-- a run that is at one place comes to another place, with the same functions and counts
pub stands_then : (m : Module) (script : Script) (stand : Stand) (playing : PlayState) (s : StepResult) (standing : StandsAt m script stand playing s)
    (next_stand : Stand) (new_playing : PlayState) (next : StepResult) → new_playing.functions ≡ playing.functions
    → new_playing.counts.items ≡ playing.counts.items
    → GoesOn m standing.heights script standing.counts next_stand new_playing next → StandsAt m script next_stand new_playing next
stands_then m script stand playing s standing next_stand new_playing next same_functions same_counts goes_on = record {
  heights = standing.heights;
  counts = standing.counts;
  is_run = standing.is_run;
  functions = subst (AreOf (code_of m)) (sym same_functions) standing.functions;
  counted = same_counts ∙ standing.counted;
  goes_on = goes_on;
}

module _ (m : Module) (heights : Heights) (script : Script) (counts : List ℕ)
    (is_run : IsRun m heights (program_of m script) counts) (below : List Activation) (playing : PlayState)
    (functions : AreOf (code_of m) playing.functions) (counted : playing.counts.items ≡ map kept counts)
    (entries : List Entry) (s : StepResult) where
  standing_at : (stand : Stand) (next : StepResult) → GoesOn m heights script counts stand playing next → StandsAt m script stand playing next
  standing_at stand next goes_on = record { heights = heights; counts = counts; is_run = is_run; functions = functions; counted = counted; goes_on = goes_on }

  pub at_instruction : Plays script below playing.hosts
      → ComesToInstruction m heights (outside_of below) counts entries playing.machine s
      → Leads m script s entries at.Instruction playing
  at_instruction hosts c =
      let next : StepResult = step_result [] (Running (config_of playing.machine (InModule c.frame ∷ c.below) counts)) in
      record {
        next = next;
        same = c.same ∙ with_none entries (Running (config_of playing.machine (InModule c.frame ∷ c.below) counts));
        standing = standing_at at.Instruction next (record {
          frame = c.frame;
          below = c.below;
          stack = record { machine = c.stands; hosts = plays_same script below c.below playing.hosts c.same_outside hosts };
          going = c.going;
          same = refl;
        });
      }

  pub at_host : Plays script below playing.hosts
      → ComesToHost m heights (outside_of below) counts entries playing.machine s
      → Leads m script s entries at.Host playing
  at_host hosts c =
      let next : StepResult = after_settling playing.machine.store counts (settle (outside_of below)) in
      record {
        next = next;
        same = c.same;
        standing = standing_at at.Host next (record {
          activations = outside_of below;
          stack = record { machine = c.stands; hosts = plays_outside script below playing.hosts hosts };
          awaits = awaits_outside script below playing.hosts hosts;
          same = refl;
        });
      }

  pub at_trap : s ≡ step_result entries (Finished ByTrap) → Leads m script s entries (at.Over ByTrap) playing
  at_trap same =
      record {
        next = step_result [] (Finished ByTrap);
        same = same ∙ with_none entries (Finished ByTrap);
        standing = standing_at (at.Over ByTrap) (step_result [] (Finished ByTrap)) refl;
      }
