-- What a step of the module observes is seen in its store, and the step keeps what each step keeps.
use Rattle.std.proofs.Common.{◌≡◌, ℕ, ◌+◌, List, [], ◌∷◌, Option, Some, None, slice_get, sym, subst}
use Rattle.std.specs.List.{slice_index_or}
use Rattle.wasm_syntax.specs.declared.values.Val.{Val}
use Rattle.wasm_syntax.specs.declared.instructions.Instr.TheVariants.{GlobalSet}
use Rattle.wasm_syntax.specs.declared.modules.Module.{Module}
use Rattle.wasm_syntax.specs.Nest.{Nest, Plain}
use Rattle.history_spec.specs.declared.entries.TrapKind.{TrapKind}
use Rattle.history_spec.specs.Store.{Store, with_global}
use Rattle.history_spec.specs.Code.{Code}
use Rattle.history_spec.specs.Configuration.{Place, place, Frame}
use Rattle.history_spec.specs.Instruction.{Control, Goes, Calls, Returns, Did, Traps, Operands, on, pop, gives, execute, execute_at}
use Rattle.record_replay_spec.specs.Observations.{nest_observations, plain_observations}
use Rattle.record_replay_spec.specs.Known.{Known, known_after_all}
use Rattle.record_replay_spec.specs.Changes.{CanChangeAll, with_changes}
use Rattle.record_replay_spec.specs.Executions.{left_store, IsDoneAlike, IsExecutedAlike}
use Rattle.record_replay_spec.specs.ObservedStepLaws.{StoresAnswerThemselves, StepsChangeAsObserved, observed}
use Rattle.record_replay_spec.specs.StoreAnswers.{HasWholePages}
use Rattle.type_safety.specs.Frames.{Scope}
use Rattle.type_safety.specs.Results.{IsControl}
use Rattle.type_safety.specs.Stores.{IsStore}
use Rattle.tape_laws.specs.RealReads.{IsKnownOf}
use Rattle.tape_laws.proofs.Relation.{AreSeen}
use Rattle.tape_laws.proofs.StepItems.{same_maxima_all, known_of_all}
use Rattle.tape_laws.proofs.Seen.{step_seen}
use Rattle.tape_laws.proofs.HostStores.{sizes_of, whole_pages_of}
use Rattle.tape_laws.proofs.KeptStores.{AreDeclared, immutable_after, IsKept}

-- the store that control leaves is well typed
pub left_is_store : (s : Scope) (store : Store) (control : Control) → IsStore s.m store → IsControl s control
    → IsStore s.m (left_store store control)
left_is_store s store (Goes after next) is fine = fine.0
left_is_store s store (Calls waiting func args) is fine = is
left_is_store s store (Returns results) is fine = is

-- setting a global never traps
pub global_never_traps : (code : Code) (store : Store) (frame : Frame) (x : ℕ) (rest : Nest) (kind : TrapKind)
    (operands : List Val) (found : Option ℕ) → frame.at.rest ≡ Plain (GlobalSet x) rest
    → execute code store frame ≡ Traps kind operands found → ⊥
global_never_traps code store frame x rest kind operands found is h =
    go (slice_get store.globals x)
    (subst (λ nest. execute_at code store frame nest frame.at.number ≡ Traps kind operands found) is h)
  where
    next : Place
    next = place rest (frame.at.number + 1)

    taken : (old : Val) (o : Option Operands)
        → on o (λ p. gives
        (with_global store x (slice_index_or p.operands 0 old)) frame next p.operands p.rest [])
        ≡ Traps kind operands found → ⊥
    taken old None h = cc
    taken old (Some p) h = cc

    go : (o : Option Val)
        → on o (λ old. on (pop (old.ty ∷ []) frame.values) (λ p. gives
        (with_global store x (slice_index_or p.operands 0 old)) frame next p.operands p.rest []))
        ≡ Traps kind operands found → ⊥
    go None h = cc
    go (Some old) h = taken old (pop (old.ty ∷ []) frame.values) h

module _ (own : StepsChangeAsObserved) (answers : StoresAnswerThemselves) (m : Module) (code : Code) (store : Store)
    (is : IsStore m store) (frame : Frame) (known : Known) where
  whole : HasWholePages store
  whole = whole_pages_of store (sizes_of m store is)

  seen : ((x : ℕ) (rest : Nest) → frame.at.rest ≡ Plain (GlobalSet x) rest
      → CanChangeAll store (plain_observations store frame.values (GlobalSet x)))
      → AreSeen known store (observed store frame)
  seen sets =
      step_seen known store whole frame.values frame.at.rest sets
      (answers store frame.values frame.at.rest whole)

  -- the observations of an instruction that traps
  pub trap_seen : (kind : TrapKind) (operands : List Val) (found : Option ℕ)
      → execute code store frame ≡ Traps kind operands found → AreSeen known store (observed store frame)
  trap_seen kind operands found e =
      seen (λ x rest is. absurd (global_never_traps code store frame x rest kind operands found is e))

  module _ (operands results : List Val) (found : Option ℕ) (control : Control)
      (e : execute code store frame ≡ Did operands results found control) where
    done : IsDoneAlike code store store (observed store frame) frame operands results found control
        (execute code store frame)
    done =
        subst (λ first. IsExecutedAlike code store store (observed store frame) frame first (execute code store frame))
        e (own code store frame whole)

    -- the observations of an instruction that completes
    pub done_seen : AreSeen known store (observed store frame)
    done_seen =
        seen (λ x rest is.
        subst (λ nest. CanChangeAll store (nest_observations store frame.values nest)) is done.first_store.possible)

    pub left_is : left_store store control ≡ with_changes store (observed store frame)
    left_is = done.first_store.changed

    -- what is known after an instruction fits the store that the instruction leaves
    pub done_known : IsKnownOf known store
        → IsKnownOf (known_after_all known (observed store frame)) (left_store store control)
    done_known of =
        subst (IsKnownOf (known_after_all known (observed store frame))) (sym left_is)
        (known_of_all known store (observed store frame) done_seen of)

    -- an instruction keeps what each step keeps
    pub done_keeps : IsKept m known store → IsStore m (left_store store control)
        → IsKept m (known_after_all known (observed store frame)) (left_store store control)
    done_keeps kept next =
        subst (IsKept m (known_after_all known (observed store frame))) (sym left_is)
        (record {
          is = subst (IsStore m) left_is next;
          of = known_of_all known store (observed store frame) done_seen kept.of;
          declared =
              subst (AreDeclared m) (sym (same_maxima_all store (observed store frame))) kept.declared;
          immutable = immutable_after m known store (observed store frame) done_seen kept.immutable;
        })
