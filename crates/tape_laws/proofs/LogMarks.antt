-- The open levels of a log, by those of the run; the marks of entries, and when marks agree with observations.
use Rattle.std.proofs.Common.{◌≡◌, ℕ, List, [], ◌∷◌, ◌++◌, map, Option, Some, Bool, true, false, cond, nat_eq, refl, sym, ap, ◌∙◌, subst, arith, inl}
use Rattle.std.specs.Prelude.{◌⊎◌}
use Rattle.std.proofs.lemmas.Bool.Decides.{nat_tests}
use Rattle.wasm_syntax.specs.declared.values.Val.{Val}
use Rattle.base.specs.declared.outcomes.Outcome.{Outcome}
use Rattle.base.specs.declared.outcomes.Outcome.TheVariants.{Ended, Trapped, HostTrapped}
use Rattle.trace_model.specs.declared.events.Event.{Event}
use Rattle.trace_model.specs.declared.events.Event.TheVariants as events
use Rattle.trace_model.specs.declared.tapes.Origin.{Origin}
use Rattle.trace_model.specs.declared.tapes.Origin.TheVariants.{Import}
use Rattle.history_spec.specs.Store.{Store}
use Rattle.record_replay_spec.specs.Known.{Known, pages_of}
use Rattle.record_replay_spec.specs.Observations.{Observation, Begins}
use Rattle.record_replay_spec.specs.Windows.{window}
use Rattle.tape_laws.specs.RealReads.{IsReadOf}
use Rattle.record_replay_spec.specs.Logs.{LogState, unless, grown_events}
use Rattle.record_replay_spec.specs.LogTapes.{Mark, Begins as BeginsMark, LogFrame, InFunction, InCall, is_at_host, is_trapped_call, marks_from}
use Rattle.tape_laws.proofs.Trails.{Level, AtFunction, AtImport, AtCall, at_host, with_top_entered, IsWithin}
use Rattle.tape_laws.proofs.Agrees.{Agrees}
use Rattle.tape_laws.proofs.CallLogs.{noticing}

-- ---- open levels in the log

abbrev pub log_frame : Level → LogFrame
log_frame (AtFunction func) = InFunction
log_frame (AtImport direct callee args) = InCall (Some callee)
log_frame (AtCall direct callee entered args) = InCall (Some callee)

abbrev pub log_frames : List Level → List LogFrame
log_frames levels = map log_frame levels

pub same_frames : (levels : List Level) → log_frames (with_top_entered levels) ≡ log_frames levels
same_frames [] = refl
same_frames (AtFunction func ∷ levels) = refl
same_frames (AtImport direct callee args ∷ levels) = refl
same_frames (AtCall direct callee entered args ∷ levels) = refl

pub frames_at_host : (n : ℕ) (levels : List Level) → at_host n levels ≡ true → is_at_host n (log_frames levels) ≡ true
frames_at_host n [] host = refl
frames_at_host n (AtFunction func ∷ levels) host = cc
frames_at_host n (AtImport direct callee args ∷ levels) host = cc
frames_at_host n (AtCall direct callee entered args ∷ levels) host = host

-- the topmost level is a call
abbrev pub CallOnTop : List Level → Type 0
CallOnTop [] = ⊥
CallOnTop (AtFunction func ∷ levels) = ⊥
CallOnTop levels = Unit {0}

-- ---- marks

pub not_pre : (outcome : Outcome) (callee : Option ℕ) (event : Event) (later : List Event)
    → is_trapped_call outcome (events.Pre callee) (event ∷ later) ≡ false
not_pre Ended callee event later = refl
not_pre Trapped callee event later = refl
not_pre HostTrapped callee event later = refl

pub not_trapped_enter : (outcome : Outcome) (func : ℕ) (args : List Val) (later : List Event)
    → is_trapped_call outcome (events.Enter func args) later ≡ false
not_trapped_enter Ended func args later = refl
not_trapped_enter Trapped func args later = refl
not_trapped_enter HostTrapped func args later = refl

pub not_trapped_leave : (outcome : Outcome) (func : ℕ) (later : List Event)
    → is_trapped_call outcome (events.Leave func) later ≡ false
not_trapped_leave Ended func later = refl
not_trapped_leave Trapped func later = refl
not_trapped_leave HostTrapped func later = refl

pub not_trapped_post : (outcome : Outcome) (result : Option Val) (later : List Event)
    → is_trapped_call outcome (events.Post result) later ≡ false
not_trapped_post Ended result later = refl
not_trapped_post Trapped result later = refl
not_trapped_post HostTrapped result later = refl

pub not_trapped_grow : (outcome : Outcome) (pages : ℕ) (later : List Event)
    → is_trapped_call outcome (events.Grow pages) later ≡ false
not_trapped_grow Ended pages later = refl
not_trapped_grow Trapped pages later = refl
not_trapped_grow HostTrapped pages later = refl

-- the size is reported or known
abbrev pub IsSizeReported : ℕ → Known → LogState → Type 0
IsSizeReported size known st = (size ≡ st.noticed) ⊎ (known.pages ≡ st.noticed)

-- after a growth that is noticed, the size is reported or known
pub record IsNoticedAfter (n : ℕ) (outcome : Outcome) (frames : List LogFrame) (size : ℕ) (known : Known) (st : LogState)
    (view : Store) (later : List Event) : Type 0 where
  pub now : ℕ
  pub marks : marks_from n outcome frames size (grown_events st.noticed view ++ later)
      ≡ marks_from n outcome frames now later
  pub size_reported : IsSizeReported now known (noticing view st)

pub noticed_after : (n : ℕ) (outcome : Outcome) (frames : List LogFrame) (size : ℕ) (known : Known) (st : LogState)
    (view : Store) (later : List Event) → IsSizeReported size known st
    → IsNoticedAfter n outcome frames size known st view later
noticed_after n outcome frames size known st view later reported = go (nat_eq (pages_of view.memory) st.noticed) refl
  where
    go : (b : Bool) → nat_eq (pages_of view.memory) st.noticed ≡ b
        → IsNoticedAfter n outcome frames size known st view later
    go true e =
        let same : pages_of view.memory ≡ st.noticed = grind (arith, nat_tests, e) in
        record {
          now = size;
          marks = ap (λ b. marks_from n outcome frames size (unless b (events.Grow (pages_of view.memory)) ++ later)) e;
          size_reported = subst (λ p. (size ≡ p) ⊎ (known.pages ≡ p)) (sym same) reported;
        }
    go false e =
        record {
          now = pages_of view.memory;
          marks =
              ap (λ b. marks_from n outcome frames size (unless b (events.Grow (pages_of view.memory)) ++ later)) e
              ∙ ap (λ b. cond b [] [] ++ marks_from n outcome frames (pages_of view.memory) later)
              (not_trapped_grow outcome (pages_of view.memory) later);
          size_reported = inl refl;
        }

-- ---- what marks agree with

abbrev pub HostAgrees : Known → List Observation → List Mark → Type 0
HostAgrees known left marks = (origin : Origin) → Agrees known (Begins origin ∷ left) (BeginsMark origin ∷ marks)

pub record ModuleAgrees (known : Known) (store : Store) (left : List Observation) (marks : List Mark) : Type 0 where
  pub agrees : Agrees known left marks
  pub reads : IsReadOf known (window left) store

abbrev pub AgreesBy : Bool → Known → Store → List Observation → List Mark → Type 0
AgreesBy true known store left marks = HostAgrees known left marks
AgreesBy false known store left marks = ModuleAgrees known store left marks

abbrev pub AgreesAt : (n : ℕ) → List Level → Known → Store → List Observation → List Mark → Type 0
AgreesAt n (AtImport direct callee args ∷ levels) known store left marks =
    ModuleAgrees known store left (BeginsMark (Import callee) ∷ marks)
AgreesAt n levels known store left marks = AgreesBy (at_host n levels) known store left marks

pub host_agrees : (n : ℕ) (levels : List Level) (known : Known) (store : Store) (left : List Observation)
    (marks : List Mark) → at_host n levels ≡ true → AgreesAt n levels known store left marks
    → HostAgrees known left marks
host_agrees n [] known store left marks host h = h
host_agrees n (AtFunction func ∷ levels) known store left marks host h = cc
host_agrees n (AtImport direct callee args ∷ levels) known store left marks host h = cc
host_agrees n (AtCall direct callee entered args ∷ levels) known store left marks host h =
    subst (λ b. AgreesBy b known store left marks) host h

pub agrees_host : (n : ℕ) (levels : List Level) (known : Known) (store : Store) (left : List Observation)
    (marks : List Mark) → at_host n levels ≡ true → HostAgrees known left marks
    → AgreesAt n levels known store left marks
agrees_host n [] known store left marks host h = h
agrees_host n (AtFunction func ∷ levels) known store left marks host h = cc
agrees_host n (AtImport direct callee args ∷ levels) known store left marks host h = cc
agrees_host n (AtCall direct callee entered args ∷ levels) known store left marks host h =
    subst (λ b. AgreesBy b known store left marks) (sym host) h

pub within_agrees : (n : ℕ) (levels : List Level) (known : Known) (store : Store) (left : List Observation)
    (marks : List Mark) → IsWithin levels → AgreesAt n levels known store left marks
    → ModuleAgrees known store left marks
within_agrees n [] known store left marks within h = absurd within
within_agrees n (AtFunction func ∷ levels) known store left marks within h = h
within_agrees n (AtImport direct callee args ∷ levels) known store left marks within h = absurd within
within_agrees n (AtCall direct callee entered args ∷ levels) known store left marks within h = absurd within
