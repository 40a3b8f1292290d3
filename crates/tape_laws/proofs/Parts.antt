-- Parts of the proof that a tape's run follows a scripted run.
use Rattle.std.proofs.Common.{◌≡◌, ℕ, zero, suc, List, [], ◌∷◌, ◌++◌, Option, true, nat_lt, refl, sym, ap, ◌∙◌, subst, arith}
use Rattle.std.proofs.lemmas.Bool.Decides.{nat_tests}
use Rattle.wasm_syntax.specs.declared.modules.Module.{Module}
use Rattle.host_script.specs.declared.scripts.Answer.{Answer}
use Rattle.base.specs.declared.outcomes.Outcome.{Outcome}
use Rattle.trace_model.specs.declared.tapes.Origin.{Origin}
use Rattle.trace_model.specs.declared.tapes.Origin.TheVariants.{Begin, Import, Back}
use Rattle.trace_model.specs.declared.tapes.Next.{Next}
use Rattle.trace_model.specs.declared.tapes.Segment.{Segment}
use Rattle.history_spec.specs.declared.entries.Entry.{Entry}
use Rattle.history_spec.specs.declared.entries.FaultKind.{FaultKind}
use Rattle.history_spec.specs.Store.{Store}
use Rattle.history_spec.specs.Code.{Code, code_of}
use Rattle.history_spec.specs.Configuration.{Frame, Activation, InModule, Config}
use Rattle.history_spec.specs.Instruction.{Control, Goes, Calls, Returns}
use Rattle.history_spec.specs.Settle.{return_entry, deliver}
use Rattle.history_spec.specs.Step.{Program, Running, Finished, Faulted, StepResult, step_result, after_entries, after_settling, call_function, after_control}
use Rattle.history_spec.specs.Run.{all_one, steps}
use Rattle.record_replay_spec.specs.Observations.{Observation, Begins, Ends, observations, end_observations}
use Rattle.record_replay_spec.specs.Known.{Known, known_after, known_after_all}
use Rattle.record_replay_spec.specs.Windows.{window}
use Rattle.record_replay_spec.specs.Alike.{same_origin}
use Rattle.record_replay_spec.specs.Kept.{AreKeptSegments}
use Rattle.record_replay_spec.specs.TapeRun.{program_awaiting, TapeConfig, Over, TapeResult, tape_result, tape_after, after_next, after_segment, tape_step_of}
use Rattle.record_replay_spec.specs.Changes.{with_change}
use Rattle.record_replay_spec.specs.Executions.{left_store, in_store}
use Rattle.type_safety.specs.Heights.{Heights}
use Rattle.type_safety.specs.Stores.{IsStore}
use Rattle.tape_laws.proofs.Stores.{IsHere, maxima}
use Rattle.tape_laws.proofs.Relation.{IsKnownOf, AreSeen}
use Rattle.tape_laws.proofs.Claims.{Claim}
use Rattle.tape_laws.proofs.Closed.{IsMore, tape_at, IsClosed}
use Rattle.tape_laws.proofs.Follows.{Follows}
use Rattle.tape_laws.proofs.StepItems.{nothing_read}

-- ---- observations of a step

pub window_after : (known : Known) (store : Store) (seen later : List Observation) → AreSeen known store seen
    → window (seen ++ later) ≡ seen ++ window later
window_after known store [] later are = refl
window_after known store (o ∷ seen) later are =
    one o are.0.here ∙ ap (λ l. o ∷ l) (window_after (known_after known o) (with_change store o) seen later are.1)
  where
    one : (o : Observation) → IsHere store o → window (o ∷ seen ++ later) ≡ o ∷ window (seen ++ later)
    one (Begins origin) here = absurd here
    one o here = refl

pub needed_after : (known : Known) (store : Store) (seen later : List Observation) (segments : List Segment)
    → AreSeen known store seen → AreKeptSegments known (seen ++ later) segments
    → AreKeptSegments (known_after_all known seen) later segments
needed_after known store [] later segments are needed = needed
needed_after known store (o ∷ seen) later segments are needed =
    needed_after (known_after known o) (with_change store o) seen later segments are.1 (one o are.0.here needed)
  where
    one : (o : Observation) → IsHere store o → AreKeptSegments known (o ∷ seen ++ later) segments
        → AreKeptSegments (known_after known o) (seen ++ later) segments
    one (Begins origin) here needed = absurd here
    one o here needed = needed

-- ---- the parts

pub own_origin : (origin : Origin) → same_origin origin origin ≡ true
own_origin Begin = refl
own_origin (Import n) = grind (arith, nat_tests)
own_origin Back = refl

module _ (program : Program) where
  -- no observation remains after the run is over but the end of the host's own work
  pub finished_observations : (k : ℕ) (outcome : Outcome)
      → observations program k (Finished outcome) ≡ end_observations (Finished outcome)
  finished_observations zero outcome = refl
  finished_observations (suc k) outcome = refl

  pub finished_history : (k : ℕ) (outcome : Outcome) → (steps program all_one k (Finished outcome)).history ≡ []
  finished_history zero outcome = refl
  finished_history (suc k) outcome = refl

  pub finished_outcome : (k : ℕ) (outcome found : Outcome)
      → (steps program all_one k (Finished outcome)).at ≡ Finished found → outcome ≡ found
  finished_outcome zero outcome found h = cc
  finished_outcome (suc k) outcome found h = cc

  module _ (claim : Claim) where
    -- a run with a fault has no outcome
    pub follows_fault : (k : ℕ) (known : Known) (store : Store) (kind : FaultKind)
        (tape : Store → List Segment → TapeResult)
        → Follows claim program k known store (observations program k (Faulted kind))
        (step_result [] (Faulted kind)) tape
    follows_fault zero known store kind tape =
        record { reads = nothing_read known store; shows = λ other segments outcome same ready h. cc }
    follows_fault (suc k) known store kind tape =
        record { reads = nothing_read known store; shows = λ other segments outcome same ready h. cc }

    -- no step remains
    pub follows_none : (known : Known) (store : Store) (config : Config) (tape : Store → List Segment → TapeResult)
        → Follows claim program zero known store [] (step_result [] (Running config)) tape
    follows_none known store config tape =
        record { reads = nothing_read known store; shows = λ other segments outcome same ready h. cc }

    -- the host's activation is the topmost: its activity begins, which reads nothing
    pub host_reads : (k : ℕ) (known : Known) (store : Store) (came : Origin) (left : List Observation) (s : StepResult)
        (tape : Store → List Segment → TapeResult)
        → ((other : Store) (segments : List Segment) (outcome : Outcome) → maxima other ≡ maxima store
        → claim.ready known (Begins came ∷ left) other segments
        → (steps program all_one k s.next).at ≡ Finished outcome
        → claim.comes program.code (tape other segments) (s.entries ++ (steps program all_one k s.next).history)
        outcome)
        → Follows claim program k known store (Begins came ∷ left) s tape
    host_reads k known store came left s tape shows = record { reads = nothing_read known store; shows = shows }

-- an instruction leads to the same control in the store that it leaves
pub same_control : (code : Code) (other after : Store) (counts : List ℕ) (frame : Frame) (below : List Activation)
    (control : Control)
    → left_store other (in_store after control) ≡ after
    → after_control (program_awaiting code)
    (record { store = other; stack = InModule frame ∷ below; counts = counts }) frame below (in_store after control)
    ≡ after_control (program_awaiting code)
    (record { store = after; stack = InModule frame ∷ below; counts = counts }) frame below (in_store after control)
same_control code other after counts frame below (Goes store next) left = refl
same_control code other after counts frame below (Calls waiting func args) left =
    ap
    (λ s. call_function (program_awaiting code) (nat_lt func code.imported) s counts func args
    (InModule waiting ∷ below)) left
same_control code other after counts frame below (Returns results) left =
    ap
    (λ s. after_entries (return_entry frame.func results below ∷ [])
    (after_settling s counts (deliver below results))) left

-- ---- parts of a claim

module _ (m : Module) (heights : Heights) (answers : List (Option Answer)) (claim : Claim)
    (closed : IsClosed claim m heights) where
  abbrev program : Program
  program = record { code = code_of m; answers = answers }

  -- an entry that begins and ends no activity, or an entry after which the observation of its activity remains
  pub follows_entry : (k : ℕ) (known : Known) (store : Store) (left : List Observation) (s : StepResult)
      (tape tape' : Store → List Segment → TapeResult) (entry : Entry)
      → ((other : Store) (segments : List Segment)
      → tape' other segments ≡ tape_after (entry ∷ []) (tape other segments))
      → Follows claim program k known store left s tape
      → Follows claim program k known store left (after_entries (entry ∷ []) s) tape'
  follows_entry k known store left s tape tape' entry same f =
      record {
        reads = f.reads;
        shows = λ other segments outcome kept ready h.
            let history = s.entries ++ (steps program all_one k s.next).history in
            subst (λ t. claim.comes program.code t (entry ∷ history) outcome) (sym (same other segments))
            (closed.entry (tape other segments) history outcome entry (f.shows other segments outcome kept ready h));
      }

  -- the run is over
  pub follows_over : (k : ℕ) (known : Known) (store : Store) (entries : List Entry) (outcome : Outcome)
      (tape : Store → List Segment → TapeResult)
      → ((other : Store) (segments : List Segment) → tape other segments ≡ tape_result entries (Over outcome))
      → Follows claim program k known store [] (step_result entries (Finished outcome)) tape
  follows_over k known store entries outcome tape is =
      record {
        reads = nothing_read known store;
        shows = λ other segments found same ready h.
            subst (λ o. claim.comes program.code (tape other segments) left o)
            (finished_outcome program k outcome found h)
            (subst (λ l. claim.comes program.code (tape other segments) (entries ++ l) outcome)
            (sym (finished_history program k outcome))
            (subst (λ t. claim.comes program.code t (entries ++ []) outcome) (sym (is other segments))
            (closed.over known other segments entries outcome ready)));
      }
    where
      left : List Entry
      left = entries ++ (steps program all_one k (Finished outcome)).history

  -- the tape's run takes the segment of the host's activity, and goes on as that segment ends
  pub follows_segment : (k : ℕ) (known : Known) (store : Store) (came : Origin) (next : Next)
      (left : List Observation) (s : StepResult) (stack : List Activation) (counts : List ℕ)
      → ((t : TapeConfig) → tape_step_of program.code stack t ≡ after_segment program.code t.config t.left t.came)
      → IsStore m store → IsKnownOf known store
      → IsMore left (s.entries ++ (steps program all_one k s.next).history)
      → Follows claim program k known store left s
      (λ other segments. after_next program.code other counts stack segments came next)
      → Follows claim program k known store (Begins came ∷ Ends next ∷ left) s (tape_at stack counts came)
  follows_segment k known store came next left s stack counts takes is of more f =
      host_reads program claim k known store came (Ends next ∷ left) s (tape_at stack counts came)
      (λ other segments outcome same ready h.
      closed.segment known store came next left (s.entries ++ (steps program all_one k s.next).history) outcome stack
      counts takes is of f.reads more (λ other segments same ready. f.shows other segments outcome same ready h) other
      segments same ready)
