-- The returns that are due lead to an instruction or to the host.
use Rattle.std.proofs.Common.{◌≡◌, ℕ, List, [], ◌∷◌, Option, Some, None, Bool, true, false, refl, sym, ap, ◌∙◌, subst, ◌⊎◌, inl, inr}
use Rattle.wasm_syntax.specs.declared.values.Val.{Val}
use Rattle.wasm_syntax.specs.declared.modules.Module.{Module}
use Rattle.host_script.specs.declared.scripts.Script.{Script}
use Rattle.history_spec.specs.Store.{Store}
use Rattle.history_spec.specs.Configuration.{InModule}
use Rattle.history_spec.specs.Settle.{settle}
use Rattle.history_spec.specs.Step.{StepResult, after_settling}
use Rattle.history_spec.specs.Run.{program_of}
use Rattle.wasm_flat.specs.declared.code.Flat.{Flat}
use Rattle.flat_steps.specs.declared.frames.FlatFrame.{FlatFrame}
use Rattle.flat_steps.specs.FlatStep as flat
use Rattle.flat_steps.specs.Follows.{outside_of}
use Rattle.wasm_interp.specs.declared.machine.Pause.{Pause}
use Rattle.wasm_interp.specs.declared.machine.Pause.TheVariants as pause
use Rattle.wasm_interp.specs.declared.machine.Turn.{Turn}
use Rattle.wasm_interp.specs.State.{State}
use Rattle.wasm_interp.specs.Turns.{Makes, pause_of}
use Rattle.wasm_interp.specs.Calls.{SettlesRun, Comes}
use Rattle.host_play.specs.declared.play_state.Stand.TheVariants as at
use Rattle.host_play.specs.declared.play_state.PlayState.{PlayState}
use Rattle.host_play.specs.Stands.{Leads, StandsAt}
use Rattle.host_play.proofs.Arrivals.{at_instruction, at_host}

-- a part ends at an instruction or at the host
abbrev IsSettled : flat.Part → Type 0
IsSettled p = (p.pause ≡ flat.Stands) ⊎ (p.pause ≡ flat.Returned)

returned_pause : (results : Option (List Val)) (to_host : Bool) (store : Store) (frame : FlatFrame)
    (below : List FlatFrame) (slots : List ℕ) (go : List ℕ → flat.Part)
    → ((more : List ℕ) → IsSettled (go more)) → IsSettled (flat.after_return results to_host store frame below slots go)
returned_pause None to_host store frame below slots go each = inl refl
returned_pause (Some results) true store frame below slots go each = inr refl
returned_pause (Some results) false store frame below slots go each = each (flat.with_values slots frame.base results)

settle_pause : (f : Flat) (store : Store) (frames : List FlatFrame) (slots : List ℕ) → IsSettled (flat.settle f store frames slots)
settle_pause f store [] slots = inr refl
settle_pause f store (frame ∷ below) slots =
    returned_pause (flat.results_of f slots frame) (flat.host_awaits f below) store frame below slots (flat.settle f store below) (settle_pause f store below)

module _ (m : Module) (script : Script) (s : StepResult) (playing : PlayState) (machine : State) (turn : Turn)
    (standing : StandsAt m script at.Module playing s) (run : SettlesRun playing.machine turn machine) where
  comes : Comes m standing.heights (program_of m script) (outside_of standing.goes_on.below) standing.counts turn.pause
      turn.entries machine (after_settling playing.machine.store standing.counts
      (settle (InModule standing.goes_on.frame ∷ standing.goes_on.below)))
  comes =
      run m standing.heights (program_of m script) standing.counts standing.goes_on.frame standing.goes_on.below
      standing.is_run standing.goes_on.stack.machine

  comes_as : (p : Option Pause) → turn.pause ≡ p → Comes m standing.heights (program_of m script)
      (outside_of standing.goes_on.below) standing.counts p turn.entries machine s
  comes_as p is =
      subst (λ s'. Comes m standing.heights (program_of m script)
      (outside_of standing.goes_on.below) standing.counts p turn.entries machine s') (sym standing.goes_on.same)
      (subst (λ p'. Comes m standing.heights (program_of m script) (outside_of standing.goes_on.below) standing.counts
      p' turn.entries machine (after_settling playing.machine.store standing.counts
      (settle (InModule standing.goes_on.frame ∷ standing.goes_on.below)))) is comes)

  pub settled_at_instruction : turn.pause ≡ None → Leads m script s turn.entries at.Instruction (record playing { machine = machine })
  settled_at_instruction is =
      at_instruction m standing.heights script standing.counts standing.is_run standing.goes_on.below
      (record playing { machine = machine }) standing.functions standing.counted turn.entries s
      standing.goes_on.stack.hosts (comes_as None is)

  pub settled_at_host : (p : Pause) → turn.pause ≡ Some p → Makes playing.machine
      (flat.settle playing.machine.flat playing.machine.store playing.machine.frames playing.machine.slots) turn machine
      → Leads m script s turn.entries at.Host (record playing { machine = machine })
  settled_at_host p is makes =
      at_host m standing.heights script standing.counts standing.is_run standing.goes_on.below
      (record playing { machine = machine }) standing.functions standing.counted turn.entries s
      standing.goes_on.stack.hosts
      (comes_as (Some pause.Returned) (elim (settle_pause playing.machine.flat playing.machine.store playing.machine.frames playing.machine.slots) [
        | inl stands ↦ (let none : turn.pause ≡ None = makes.pause ∙ ap pause_of stands in cc)
        | inr returned ↦ makes.pause ∙ ap pause_of returned
      ]))
