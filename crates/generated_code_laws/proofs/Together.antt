-- The place of a replay module's run beside that of its tape's run, and what follows a step of the tape's run.
use Rattle.std.specs.Prelude.{◌≡◌, ℕ, ◌<◌, List, [], ◌∷◌, ◌++◌, length, Some, None, All}
use Rattle.std.proofs.Common.{refl}
use Rattle.wasm_syntax.specs.declared.values.Val.{Val}
use Rattle.wasm_syntax.specs.declared.signatures.FuncType.{FuncType}
use Rattle.wasm_syntax.specs.declared.modules.Module.{Module}
use Rattle.wasm_syntax.specs.Index.{imported_funcs}
use Rattle.host_script.specs.declared.scripts.Action.TheVariants.{Call}
use Rattle.host_script.specs.declared.scripts.ResponseEnd.TheVariants.{Trap as EndsInTrap}
use Rattle.base.specs.declared.outcomes.Outcome.{Outcome}
use Rattle.trace_model.specs.declared.tapes.Origin.{Origin}
use Rattle.trace_model.specs.declared.tapes.Origin.TheVariants.{Begin, Back, Import}
use Rattle.trace_model.specs.declared.tapes.Segment.{Segment}
use Rattle.trace_model.specs.Fitting.{unfit_from}
use Rattle.history_spec.specs.declared.entries.Entry.{Entry}
use Rattle.history_spec.specs.Code.{Code, code_of, signature, types_of}
use Rattle.history_spec.specs.Store.{Store}
use Rattle.history_spec.specs.Configuration.{Frame, Activation, InModule, InMain, InImport}
use Rattle.history_spec.specs.Step.{frame_of}
use Rattle.replay_module_spec.specs.declared.plans.Plan.{Plan}
use Rattle.replay_module_spec.specs.Plans.{innermost, left_of}
use Rattle.replay_module_spec.specs.Fragments.{start_index}
use Rattle.record_replay_spec.specs.TapeRun.{pause, TapeConfig, TapeProgress, Plays, Over, Disagrees, NoRule, TapeResult}
use Rattle.replay_run_spec.specs.Items.{Item, entries_in}
use Rattle.replay_run_spec.specs.Stretches.{Stretches, stretches_from}
use Rattle.replay_run_spec.specs.Steps.{steps_left}
use Rattle.generated_code_laws.specs.Leads.{Place, Leads}
use Rattle.generated_code_laws.specs.Ends.{Ends, Shows}
use Rattle.generated_code_laws.specs.Playable.{AllWriteBytes}
use Rattle.generated_code_laws.specs.Laws.{AreEffectsOfFirst}
use Rattle.replay_module_laws.specs.Codes.{import_definition}
use Rattle.generated_code_laws.proofs.Relation.{AreBeside, AreLeft, imports_in, own_place, watched}
use Rattle.generated_code_laws.proofs.Sound.{IsSound}
use Rattle.generated_code_laws.proofs.Settled.{AreReturned, HasOneResult}
use Rattle.generated_code_laws.proofs.Bounded.{IsBounded, arrival, segment_steps, with_next}
use Rattle.generated_code_laws.proofs.Counted.{counted}

-- a configuration of the tape's run
abbrev pub tape_config : Store → List Activation → (counts : List ℕ) → List Segment → Origin → TapeConfig
tape_config store stack counts segments came =
    record { config = record { store = store; stack = stack; counts = counts }; left = segments; came = came }

-- the rest of a tape that fits, with the calls of these imports open
pub record AreFit (m : Module) (opened : List ℕ) (segments : List Segment) : Type 0 where
  pub count : ℕ
  pub at : ℕ
  pub fits : unfit_from m count at opened segments ≡ None
  pub bytes : All AllWriteBytes segments

-- properties of the tape's run at each configuration, and of the numbers of calls
pub record IsPlayed (m : Module) (plan : Plan) (store : Store) (counts : List ℕ) (opened : List ℕ)
    (segments : List Segment) : Type 0 where
  pub one : HasOneResult m
  pub sound : IsSound m store
  pub many : length counts ≡ imported_funcs m
  pub fits : AreFit m opened segments
  pub calls : AreLeft plan.imports counts (left_of (imported_funcs m) segments).calls

-- the host is topmost
abbrev pub IsHostOn : List Activation → Type 0
IsHostOn [] = ⊥
IsHostOn (InModule frame ∷ below) = ⊥
IsHostOn (activation ∷ below) = Unit {0}

-- the place of the replay module's run at the beginning of the function in an import's place
abbrev pub at_call : Module → Plan → Store → (before : List ℕ) → (import : ℕ) → FuncType → (args : List Val)
    → List Activation → (inside : List ℕ) → Place
at_call m plan store before import ty args own inside =
    own_place store before (InModule (frame_of import ty (import_definition m plan import ty) args) ∷ own)
    (import ∷ inside)

-- Control is with the module; or the host begins its work; or a function of the original has returned to the host; or
-- the host begins to answer a call, which the tape's run has counted, and the function in the import's place has not.
pub data AreTogether (m : Module) (plan : Plan) (code : Code) : TapeConfig → Place → Type 0 where
  InOriginal : (store : Store) (frame : Frame) (stack : List Activation) (counts : List ℕ) (segments : List Segment)
      (came : Origin) (own : List Activation) (inside : List ℕ)
      → IsPlayed m plan store counts (imports_in stack) segments
      → AreBeside m [] (InModule frame ∷ stack) (left_of (imported_funcs m) segments).begun own inside
      → AreTogether m plan code (tape_config store (InModule frame ∷ stack) counts segments came)
      (own_place store counts own inside)
  AtBegin : (store : Store) (counts : List ℕ) (segments : List Segment)
      → IsPlayed m plan store counts [] segments
      → innermost (left_of (imported_funcs m) segments).begun ≡ plan.begin
      → AreTogether m plan code (tape_config store (InMain (pause ∷ []) ∷ []) counts segments Begin)
      (own_place store counts (InMain (Call (start_index m) [] ∷ []) ∷ []) [])
  AtReturn : (store : Store) (stack : List Activation) (counts : List ℕ) (segments : List Segment)
      (own : List Activation) (inside : List ℕ)
      → IsPlayed m plan store counts (imports_in stack) segments
      → IsHostOn stack
      → AreReturned m (left_of (imported_funcs m) segments).begun stack own inside
      → AreTogether m plan code (tape_config store stack counts segments Back) (own_place store counts own inside)
  AtCall : (store : Store) (import : ℕ) (args : List Val) (ty : FuncType) (caller : Frame) (stack : List Activation)
      (before : List ℕ) (segments : List Segment) (own : List Activation) (inside : List ℕ)
      → IsPlayed m plan store before (imports_in stack) segments
      → signature (code_of m) import ≡ Some ty → import < imported_funcs m → types_of args ≡ ty.params
      → AreBeside m ty.results (InModule caller ∷ stack) (left_of (imported_funcs m) segments).begun own inside
      → AreTogether m plan code
      (tape_config store (InImport import args (pause ∷ []) EndsInTrap ∷ InModule caller ∷ stack)
      (counted before import) segments (Import import))
      (at_call m plan store before import ty args own inside)

-- ---- claims

-- with control in the module, or after the effects of a segment: the present stretch has no more changes, and the
-- others make the effects of the next segments
abbrev pub AreWithin : List Segment → Stretches → Type 0
AreWithin segments s = (s.here ≡ []) × AreEffectsOfFirst segments s.later

-- a claim on the items from a place on: on the changes, and on the steps
pub record Claim : Type 1 where
  pub effects : List Item → Type 0
  pub bound : List Item → Type 0

-- the bound on the remaining steps, of activations that have these segments left, and of the remaining calls of a tape
abbrev pub AreBounded : Module → Plan → (extra : ℕ) → (begun : List (List Segment)) → List Segment → List Item → Type 0
AreBounded m plan extra begun segments items =
    IsBounded plan extra begun (left_of (imported_funcs m) segments).calls (steps_left (imported_funcs m) items)

-- the claim after the effects of a segment, if the innermost activation makes some more steps
abbrev pub WithinBy : Module → Plan → (extra : ℕ) → (begun : List (List Segment)) → List Segment → Claim
WithinBy m plan extra begun segments =
    record {
      effects = λ items. AreWithin segments (stretches_from items);
      bound = AreBounded m plan extra begun segments;
    }

-- the claim with control in the module
abbrev pub Within : Module → Plan → List Segment → Claim
Within m plan segments = WithinBy m plan 0 (left_of (imported_funcs m) segments).begun segments

-- the claim after the effects of a segment, if the innermost activation ends after some more steps
abbrev pub Ending : Module → Plan → (extra : ℕ) → List Segment → Claim
Ending m plan extra segments =
    WithinBy m plan extra ([] ∷ (left_of (imported_funcs m) segments).begun) segments

-- with control in the host, the present stretch makes the effects of the first segment
abbrev pub MakesFirst : List Segment → List Item → Type 0
MakesFirst segments items = AreEffectsOfFirst segments ((stretches_from items).here ∷ (stretches_from items).later)

-- the claim at the code of a segment
abbrev pub Playing : Module → Plan → Segment → (later : List Segment) → Claim
Playing m plan segment later =
    record {
      effects = MakesFirst (segment ∷ later);
      bound =
          AreBounded m plan (segment_steps segment)
          (with_next segment.next (left_of (imported_funcs m) later).begun) later;
    }

-- the claim if control has come to the host from an origin
abbrev pub AtHost : Module → Plan → Origin → List Segment → Claim
AtHost m plan came segments =
    record {
      effects = MakesFirst segments;
      bound = λ items.
          AreBounded m plan 0 (left_of (imported_funcs m) segments).begun segments (arrival came ++ items);
    }

-- the claim at a configuration of the tape's run
abbrev pub claim_at : Module → Plan → List Activation → List Segment → (came : Origin) → Claim
claim_at m plan (InModule frame ∷ below) segments came = Within m plan segments
claim_at m plan stack segments came = AtHost m plan came segments

-- no stretches make the effects of no segments
pub none_first : (segments : List Segment) → AreEffectsOfFirst segments []
none_first segments = record { taken = []; left = segments; parts = refl; effects = tt }

-- ---- what follows

-- the run reaches a place beside one of the tape's run, and shows exactly these entries; and a claim that holds from
-- that place on holds from here on, under a premise
pub record IsMoved (m : Module) (plan : Plan) (code : Code) (premise : Type 0) (claim : Claim) (p : Place)
    (entries : List Entry) (t : TapeConfig) : Type 0 where
  pub next : Place
  pub items : List Item
  pub leads : Leads (watched m code) p items next
  pub shown : entries_in items ≡ entries
  pub together : AreTogether m plan code t next
  pub claimed : premise → (rest : List Item) → (claim_at m plan t.config.stack t.left t.came).effects rest
      → claim.effects (items ++ rest)
  pub bounded : (rest : List Item) → (claim_at m plan t.config.stack t.left t.came).bound rest
      → claim.bound (items ++ rest)

-- the run is over, with this outcome
pub record IsEnded (m : Module) (code : Code) (premise : Type 0) (claim : Claim) (p : Place)
    (entries : List Entry) (outcome : Outcome) : Type 0 where
  pub items : List Item
  pub ends : Ends (watched m code) p items outcome
  pub shown : entries_in items ≡ entries
  pub claimed : premise → claim.effects items
  pub bounded : claim.bound items

-- the run has shown these entries
pub record HasShown (m : Module) (code : Code) (p : Place) (entries : List Entry) : Type 0 where
  pub items : List Item
  pub shows : Shows (watched m code) p items
  pub shown : entries_in items ≡ entries

-- what the replay module's run does after a step of the tape's run, by the result of that step
abbrev pub FollowsTo : (m : Module) (plan : Plan) (code : Code) (premise : Type 0) (claim : Claim) → Place
    → List Entry → TapeProgress → Type 0
FollowsTo m plan code premise claim p entries (Plays t) = IsMoved m plan code premise claim p entries t
FollowsTo m plan code premise claim p entries (Over outcome) = IsEnded m code premise claim p entries outcome
FollowsTo m plan code premise claim p entries Disagrees = HasShown m code p entries
FollowsTo m plan code premise claim p entries NoRule = HasShown m code p entries

abbrev pub Follows : (m : Module) (plan : Plan) (code : Code) (premise : Type 0) (claim : Claim) → Place
    → TapeResult → Type 0
Follows m plan code premise claim p t = FollowsTo m plan code premise claim p t.entries t.next
