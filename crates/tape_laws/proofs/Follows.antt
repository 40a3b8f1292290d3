-- The remaining part of a scripted run, beside a tape's run.
use Rattle.std.specs.Prelude.{◌≡◌, ℕ, List, [], ◌∷◌, ◌++◌, map}
use Rattle.wasm_syntax.specs.declared.values.Val.{Val}
use Rattle.host_script.specs.declared.scripts.Action.{Action}
use Rattle.host_script.specs.declared.scripts.ResponseEnd.{ResponseEnd}
use Rattle.host_script.specs.declared.scripts.ResponseEnd.TheVariants.{Trap as EndsInTrap}
use Rattle.base.specs.declared.outcomes.Outcome.{Outcome}
use Rattle.trace_model.specs.declared.tapes.Origin.{Origin}
use Rattle.trace_model.specs.declared.tapes.Segment.{Segment}
use Rattle.history_spec.specs.Store.{Store}
use Rattle.history_spec.specs.Configuration.{Frame, Activation, InModule, InMain, InImport}
use Rattle.history_spec.specs.Step.{Program, Finished, StepResult}
use Rattle.history_spec.specs.Run.{all_one, steps}
use Rattle.record_replay_spec.specs.Observations.{Observation, Begins}
use Rattle.record_replay_spec.specs.Known.{Known}
use Rattle.record_replay_spec.specs.Windows.{window}
use Rattle.record_replay_spec.specs.TapeRun.{pause, TapeResult}
pub use Rattle.tape_laws.specs.RealReads.{observed_from, IsModule, AreNested}
use Rattle.tape_laws.proofs.Stores.{maxima}
use Rattle.tape_laws.proofs.Relation.{IsReadOf}
use Rattle.tape_laws.proofs.Claims.{Claim}

-- the activation of the tape's run beside one of the scripted run
abbrev pub paused : Activation → Activation
paused (InModule frame) = InModule frame
paused (InMain actions) = InMain (pause ∷ [])
paused (InImport import args actions end) = InImport import args (pause ∷ []) EndsInTrap

abbrev pub all_paused : List Activation → List Activation
all_paused stack = map paused stack

-- a claim on the stacks from which a step is made: that of the module, or of an action of the host
pub record AtEachStep (claim : List Activation → Type 0) : Type 0 where
  pub runs : (frame : Frame) (below : List Activation) → claim (InModule frame ∷ below)
  pub main : (action : Action) (actions : List Action) (below : List Activation)
      → claim (InMain (action ∷ actions) ∷ below)
  pub import : (number : ℕ) (args : List Val) (action : Action) (actions : List Action) (end : ResponseEnd)
      (below : List Activation) → claim (InImport number args (action ∷ actions) end ∷ below)

-- the remaining observations, with the beginning of the host's activity if control is with the host
abbrev pub pending : List Activation → Origin → List Observation → List Observation
pending (InModule frame ∷ below) came seen = seen
pending stack came seen = Begins came ∷ seen

-- From a step's result on, a window reads first what the store holds; and if the run has an outcome within `k` steps,
-- the tape's run comes to what is claimed, from each store and segments with which it may go on.
pub record Follows (claim : Claim) (program : Program) (k : ℕ) (known : Known) (store : Store)
    (left : List Observation) (s : StepResult) (tape : Store → List Segment → TapeResult) : Type 0 where
  pub reads : IsReadOf known (window left) store
  pub shows : (other : Store) (segments : List Segment) (outcome : Outcome)
      → maxima other ≡ maxima store → claim.ready known left other segments
      → (steps program all_one k s.next).at ≡ Finished outcome
      → claim.comes program.code (tape other segments) (s.entries ++ (steps program all_one k s.next).history) outcome
