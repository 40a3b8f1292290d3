-- Stores of one kind, and changes that leave a store of its kind.
use Rattle.std.proofs.Common.{◌≡◌, ℕ, zero, suc, List, [], ◌∷◌, Option, Some, None, slice_get, slice_set, refl, sym, ◌∙◌}
use Rattle.std.specs.Prelude.{option_map}
use Rattle.wasm_syntax.specs.declared.values.Val.{Val}
use Rattle.wasm_syntax.specs.declared.values.ValType.{ValType}
use Rattle.history_spec.specs.Store.{Store}
use Rattle.record_replay_spec.specs.Observations.{Observation, Writes, Resizes, WritesEntry, ResizesTable, WritesGlobal}
use Rattle.record_replay_spec.specs.StoreAnswers.{BothOrNeither, AllowSamePages, AllowSameEntries, SameKind}
use Rattle.record_replay_spec.specs.Changes.{global_type, CanChange, with_change, with_changes}
use Rattle.record_replay_spec.specs.ObservedStepLaws.{ChangesKeepKinds, KindsCompose}

-- ---- memories and tables

both_composed : {X : Type 0} (R : X → X → Type 0) → ((a b c : X) → R a b → R b c → R a c) → (o p q : Option X)
    → BothOrNeither R o p → BothOrNeither R p q → BothOrNeither R o q
both_composed R compose None None None first second = tt
both_composed R compose None None (Some c) first second = absurd second
both_composed R compose None (Some b) q first second = absurd first
both_composed R compose (Some a) None q first second = absurd first
both_composed R compose (Some a) (Some b) None first second = absurd second
both_composed R compose (Some a) (Some b) (Some c) first second = compose a b c first second

-- each option is related to the other
abbrev Both : {X : Type 0} → (X → X → Type 0) → Option X → Option X → Type 0
Both R o p = BothOrNeither R o p × BothOrNeither R p o

unchanged : {X : Type 0} (R : X → X → Type 0) → ((a : X) → R a a) → (o : Option X) → Both R o o
unchanged R own None = (tt, tt)
unchanged R own (Some a) = (own a, own a)

changed : {X : Type 0} (R : X → X → Type 0) (f : X → X) → ((a : X) → R a (f a)) → ((a : X) → R (f a) a)
    → (o : Option X) → Both R o (option_map f o)
changed R f there back None = (tt, tt)
changed R f there back (Some a) = (there a, back a)

same_memory : (store : Store) → Both AllowSamePages store.memory store.memory
same_memory store = unchanged AllowSamePages (λ a size. refl) store.memory

same_table : (store : Store) → Both AllowSameEntries store.table store.table
same_table store = unchanged AllowSameEntries (λ a size. refl) store.table

pub kinds_compose : KindsCompose
kinds_compose first second third a b =
    record {
      memory = both_composed AllowSamePages (λ m n o p q size. q size ∙ p size) first.memory second.memory third.memory
          a.memory b.memory;
      table = both_composed AllowSameEntries (λ m n o p q size. q size ∙ p size) first.table second.table third.table
          a.table b.table;
      globals = λ x ty h. b.globals x ty (a.globals x ty h);
    }

-- ---- globals

abbrev type_at : List Val → ℕ → Option ValType
type_at globals x = option_map (λ value. value.ty) (slice_get globals x)

set_type : (globals : List Val) (global : ℕ) (value : Val) → type_at globals global ≡ Some value.ty → (x : ℕ)
    → type_at (slice_set globals global value) x ≡ type_at globals x
set_type [] global value there x = refl
set_type (old ∷ globals) zero value there zero = sym there
set_type (old ∷ globals) zero value there (suc x) = refl
set_type (old ∷ globals) (suc global) value there zero = refl
set_type (old ∷ globals) (suc global) value there (suc x) = set_type globals global value there x

-- ---- changes

-- each store is of the other's kind
abbrev OfOneKind : Store → Store → Type 0
OfOneKind store other = SameKind store other × SameKind other store

of_one_kind : (store other : Store) → Both AllowSamePages store.memory other.memory
    → Both AllowSameEntries store.table other.table → ((x : ℕ) → global_type other x ≡ global_type store x)
    → OfOneKind store other
of_one_kind store other memory table globals = (
  record { memory = memory.0; table = table.0; globals = λ x ty h. globals x ∙ h },
  record { memory = memory.1; table = table.1; globals = λ x ty h. sym (globals x) ∙ h },
)

own_kind : (store : Store) → OfOneKind store store
own_kind store = of_one_kind store store (same_memory store) (same_table store) (λ x. refl)

one_change : (store : Store) (o : Observation) → CanChange store o → OfOneKind store (with_change store o)
one_change store (Writes address bytes) possible =
    of_one_kind store _ (changed AllowSamePages _ (λ m size. refl) (λ m size. refl) store.memory) (same_table store)
    (λ x. refl)
one_change store (Resizes found left) possible =
    of_one_kind store _ (changed AllowSamePages _ (λ m size. refl) (λ m size. refl) store.memory) (same_table store)
    (λ x. refl)
one_change store (WritesEntry index func) possible =
    of_one_kind store _ (same_memory store) (changed AllowSameEntries _ (λ t size. refl) (λ t size. refl) store.table)
    (λ x. refl)
one_change store (ResizesTable found left func) possible =
    of_one_kind store _ (same_memory store) (changed AllowSameEntries _ (λ t size. refl) (λ t size. refl) store.table)
    (λ x. refl)
one_change store (WritesGlobal global value) possible =
    of_one_kind store _ (same_memory store) (same_table store) (set_type store.globals global value possible)
one_change store o possible = own_kind store

pub changes_keep_kinds : ChangesKeepKinds
changes_keep_kinds store [] possible = own_kind store
changes_keep_kinds store (o ∷ seen) possible =
    let next = with_change store o in
    let here = one_change store o possible.0 in
    let rest = changes_keep_kinds next seen possible.1 in (
      kinds_compose store next (with_changes next seen) here.0 rest.0,
      kinds_compose (with_changes next seen) next store rest.1 here.1,
    )
