-- Instructions that read or write a global.
use Rattle.std.proofs.Common.{◌≡◌, ℕ, List, [], ◌∷◌, Option, Some, None, slice_get, refl, sym, ap, ◌∙◌, subst}
use Rattle.std.specs.Prelude.{slice_index_or, option_map}
use Rattle.std.proofs.lemmas.Option.{same_Some}
use Rattle.base.proofs.Options.{map_some}
use Rattle.wasm_syntax.specs.declared.values.Val.{Val}
use Rattle.wasm_syntax.specs.declared.instructions.Instr.TheVariants.{GlobalGet, GlobalSet}
use Rattle.history_spec.specs.Store.{Store, with_global}
use Rattle.history_spec.specs.Code.{Code}
use Rattle.history_spec.specs.Configuration.{Place, Frame}
use Rattle.history_spec.specs.Instruction.{Execution, on, takes, gives, execute_plain}
use Rattle.record_replay_spec.specs.Observations.{Observation, ReadsGlobal, WritesGlobal, on as observed_on, plain_observations}
use Rattle.record_replay_spec.specs.StoreAnswers.{SameKind, AnswersAll}
use Rattle.record_replay_spec.specs.Changes.{global_type}
use Rattle.record_replay_spec.proofs.Operands.{one_typed}
use Rattle.record_replay_spec.proofs.AlikeStores.{Alike, takes_alike, goes_alike, same_activation}

module _ (code other_code : Code) (store other : Store) (frame : Frame) (next : Place) (x : ℕ) where
  abbrev Same : List Observation → Execution → Execution → Type 0
  Same seen first second = Alike code store other frame seen first second

  -- ---- reads

  -- the execution that pushes the value
  abbrev pushed : Store → Val → Execution
  pushed s value = gives s frame next [] frame.values (value ∷ [])

  pub get_alike : AnswersAll other (plain_observations store frame.values (GlobalGet x))
      → Same (plain_observations store frame.values (GlobalGet x)) (execute_plain code store frame next (GlobalGet x))
      (execute_plain other_code other frame next (GlobalGet x))
  get_alike answers = go (slice_get store.globals x) answers
    where
      seen : Option Val → List Observation
      seen o = observed_on o (λ value. ReadsGlobal x value ∷ [])

      go : (o : Option Val) → AnswersAll other (seen o)
          → Same (seen o) (on o (pushed store)) (on (slice_get other.globals x) (pushed other))
      go None answers = tt
      go (Some value) answers =
          rw answers.0
          (goes_alike code store other frame (seen (Some value)) [] _ None _ store other
          (record { possible = (tt, tt); changed = refl }) (record { possible = (tt, tt); changed = refl })
          (same_activation frame next _))

  -- ---- writes

  abbrev written : List Observation
  written = plain_observations store frame.values (GlobalSet x)

  -- the execution that sets the global, which held a value of the operand's type
  abbrev set : Store → Val → List Val → List Val → Execution
  set s old operands rest = gives (with_global s x (slice_index_or operands 0 old)) frame next operands rest []

  has_type : (s : Store) (old : Val) → slice_get s.globals x ≡ Some old → global_type s x ≡ Some old.ty
  has_type s old e = ap (λ o. option_map (λ (value : Val). value.ty) o) e

  -- the two globals hold values of one type
  both : (old old' : Val) → slice_get store.globals x ≡ Some old → slice_get other.globals x ≡ Some old'
      → old'.ty ≡ old.ty
      → Same written (takes frame (old.ty ∷ []) (set store old)) (takes frame (old'.ty ∷ []) (set other old'))
  both old old' e e' same =
      subst (λ ty. Same written (takes frame (old.ty ∷ []) (set store old)) (takes frame (ty ∷ []) (set other old')))
      (sym same)
      (takes_alike code store other frame written (old.ty ∷ []) _ _ (λ operands rest are.
      let value = are.at 0 0 old refl in
      let one : slice_index_or operands 0 old' ≡ slice_index_or operands 0 old =
      same_Some _ _ (sym (are.at 0 0 old' refl) ∙ value) in
      let ty : old.ty ≡ (slice_index_or operands 0 old).ty = sym (one_typed operands old.ty old are.typed) in
      rw (one, value)
      (goes_alike code store other frame (WritesGlobal x (slice_index_or operands 0 old) ∷ []) operands [] None _ _ _
      (record { possible = (has_type store old e ∙ ap Some ty, tt); changed = refl })
      (record { possible = (has_type other old' e' ∙ ap Some (same ∙ ty), tt); changed = refl })
      (same_activation frame next _))))

  pub set_global_alike : SameKind store other
      → Same written (execute_plain code store frame next (GlobalSet x))
      (execute_plain other_code other frame next (GlobalSet x))
  set_global_alike kind = go (slice_get store.globals x) refl
    where
      sets : Store → Val → Execution
      sets s old = takes frame (old.ty ∷ []) (set s old)

      go : (o : Option Val) → slice_get store.globals x ≡ o
          → Same written (on o (sets store)) (on (slice_get other.globals x) (sets other))
      go None e = tt
      go (Some old) e =
          let there =
          map_some (λ (value : Val). value.ty) (slice_get other.globals x) old.ty
          (kind.globals x old.ty (has_type store old e)) in
          rw there.1 (both old there.0 e there.1 there.2)
