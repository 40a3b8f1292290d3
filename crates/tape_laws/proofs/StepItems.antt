-- The observations of a step, one after another, beside what the store of the tape's run holds.
use Rattle.std.proofs.Common.{◌≡◌, ℕ, List, [], ◌∷◌, ◌++◌, Option, Some, None, ◌&&◌, nat_le, slice_get, refl, sym, ap, ◌∙◌, subst}
use Rattle.std.specs.Prelude.{option_map, unwrap_or}
use Rattle.std.proofs.lemmas.Option.{none-some, same_Some}
use Rattle.wasm_syntax.specs.declared.limits.TheConstants.{MAX_ENTRIES, MAX_PAGES}
use Rattle.wasm_syntax.specs.declared.values.Val.{Val}
use Rattle.host_script.specs.Supply.{is_within}
use Rattle.history_spec.specs.Store.{Store, Memory, Table}
use Rattle.record_replay_spec.specs.Observations.{Observation, Begins, Ends, Reads, Copies, Writes, Reaches, Resizes, ReadsEntry, WritesEntry, ReachesEntry, ResizesTable, WritesGlobal}
use Rattle.record_replay_spec.specs.Known.{Known, known_after, known_after_all}
use Rattle.record_replay_spec.specs.Windows.{first_global}
use Rattle.record_replay_spec.specs.StoreAnswers.{BothOrNeither, AllowSamePages, AllowSameEntries, SameKind, AnswersAll}
use Rattle.record_replay_spec.specs.Changes.{global_type, CanChange, CanChangeAll, with_change, with_changes, with_bytes, with_pages, with_table_entry, with_entries}
use Rattle.tape_laws.proofs.Stores.{IsThere, IsHere, Maxima, maxima}
use Rattle.tape_laws.proofs.Relation.{IsKnownOf, Unseen, IsReadOf, Holds, AreSeen}
use Rattle.tape_laws.proofs.Items.{known_of_after, read_of_before}
use Rattle.tape_laws.proofs.Held.{held_answers, holds_after}

-- ---- what changes keep

kept_max : {X Y : Type 0} (part : X → Y) (f : X → X) → ((x : X) → part (f x) ≡ part x) → (o : Option X)
    → option_map part (option_map f o) ≡ option_map part o
kept_max part f same None = refl
kept_max part f same (Some x) = ap Some (same x)

pub same_maxima : (store : Store) (o : Observation) → maxima (with_change store o) ≡ maxima store
same_maxima store (Writes address bytes) =
    ap (λ p. record { pages = p; entries = option_map (λ table. table.max) store.table })
    (kept_max (λ m. m.max) (with_bytes address bytes) (λ m. refl) store.memory)
same_maxima store (Resizes found left) =
    ap (λ p. record { pages = p; entries = option_map (λ table. table.max) store.table })
    (kept_max (λ m. m.max) (with_pages _) (λ m. refl) store.memory)
same_maxima store (WritesEntry index func) =
    ap (λ p. record { pages = option_map (λ memory. memory.max) store.memory; entries = p })
    (kept_max (λ t. t.max) (with_table_entry index func) (λ t. refl) store.table)
same_maxima store (ResizesTable found left func) =
    ap (λ p. record { pages = option_map (λ memory. memory.max) store.memory; entries = p })
    (kept_max (λ t. t.max) (with_entries _ func) (λ t. refl) store.table)
same_maxima store o = refl

pub same_maxima_all : (store : Store) (seen : List Observation) → maxima (with_changes store seen) ≡ maxima store
same_maxima_all store [] = refl
same_maxima_all store (o ∷ seen) = same_maxima_all (with_change store o) seen ∙ same_maxima store o

pub there_too : {X Y : Type 0} (part : X → Y) (o p : Option X) → option_map part p ≡ option_map part o → IsThere o
    → IsThere p
there_too part o (Some x) e there = (x, refl)
there_too part (Some y) None e there = cc
there_too part None None e there = there

-- two optional values with equal maxima exist both or neither
both_alike : {X : Type 0} (max : X → Option ℕ) (R : X → X → Type 0) → ((a b : X) → max b ≡ max a → R a b)
    → (o p : Option X) → option_map max p ≡ option_map max o → BothOrNeither R o p
both_alike max R alike None None e = tt
both_alike max R alike None (Some b) e = cc
both_alike max R alike (Some a) None e = cc
both_alike max R alike (Some a) (Some b) e = alike a b (same_Some (max b) (max a) e)

module _ (store other : Store) (same : maxima other ≡ maxima store) where
  memory_there : IsThere store.memory → IsThere other.memory
  memory_there = there_too (λ m. m.max) store.memory other.memory (ap (λ (m : Maxima). m.pages) same)

  table_there : IsThere store.table → IsThere other.table
  table_there = there_too (λ t. t.max) store.table other.table (ap (λ (m : Maxima). m.entries) same)

  pub here_too : (o : Observation) → IsHere store o → IsHere other o
  here_too (Begins origin) here = absurd here
  here_too (Ends next) here = absurd here
  here_too (Reads address bytes) here = memory_there here
  here_too (Copies address bytes) here = memory_there here
  here_too (Writes address bytes) here = memory_there here
  here_too (Reaches end found) here = memory_there here
  here_too (Resizes found left) here = memory_there here
  here_too (ReadsEntry index func) here = table_there here
  here_too (WritesEntry index func) here = table_there here
  here_too (ReachesEntry index found) here = table_there here
  here_too (ResizesTable found left func) here = table_there here
  here_too o here = tt

  pub same_pages : (o p : Option Memory) → option_map (λ m. m.max) p ≡ option_map (λ m. m.max) o
      → BothOrNeither AllowSamePages o p
  same_pages =
      both_alike (λ m. m.max) AllowSamePages
      (λ m n e size. ap (λ max. is_within size max && nat_le size MAX_PAGES) e)

  pub same_entries : (o p : Option Table) → option_map (λ t. t.max) p ≡ option_map (λ t. t.max) o
      → BothOrNeither AllowSameEntries o p
  same_entries =
      both_alike (λ t. t.max) AllowSameEntries
      (λ t u e size. ap (λ max. is_within size max && nat_le size MAX_ENTRIES) e)

  -- the stores are of one kind
  pub of_same_kind : (known : Known) (later : List Observation) → IsKnownOf known store → IsReadOf known later store
      → Holds known later other → SameKind store other
  of_same_kind known later k real holds =
      record {
        memory = same_pages store.memory other.memory (ap (λ (m : Maxima). m.pages) same);
        table = same_entries store.table other.table (ap (λ (m : Maxima). m.entries) same);
        globals = λ x ty h.
            ap (option_map (λ value. value.ty)) (holds.global x)
            ∙ go x (first_global later x) (real.global x) ∙ h;
      }
    where
      go : (x : ℕ) (o : Option (Option Val)) → ((v : Option Val) → o ≡ Some v → slice_get store.globals x ≡ v)
          → option_map (λ value. value.ty) (unwrap_or o (known.global x)) ≡ global_type store x
      go x None r = k.types x
      go x (Some v) r = ap (option_map (λ value. value.ty)) (sym (r v refl))

-- ---- several observations

-- the observation changes no store
abbrev pub IsRead : Observation → Type 0
IsRead (Writes address bytes) = ⊥
IsRead (Resizes found left) = ⊥
IsRead (WritesEntry index func) = ⊥
IsRead (ResizesTable found left func) = ⊥
IsRead (WritesGlobal global value) = ⊥
IsRead o = Unit {0}

-- no observation but the last changes the store
abbrev pub OnlyLastWrites : List Observation → Type 0
OnlyLastWrites [] = Unit {0}
OnlyLastWrites (o ∷ []) = Unit {0}
OnlyLastWrites (o ∷ next ∷ seen) = IsRead o × OnlyLastWrites (next ∷ seen)

read_keeps : (store : Store) (o : Observation) → IsRead o → CanChange store o × (with_change store o ≡ store)
read_keeps store (Writes address bytes) r = absurd r
read_keeps store (Resizes found left) r = absurd r
read_keeps store (WritesEntry index func) r = absurd r
read_keeps store (ResizesTable found left func) r = absurd r
read_keeps store (WritesGlobal global value) r = absurd r
read_keeps store o r = (tt, refl)

read_possible : (store : Store) (o : Observation) → IsRead o → CanChange store o
read_possible store o r = (read_keeps store o r).0

pub read_changes : (store : Store) (o : Observation) → IsRead o → with_change store o ≡ store
read_changes store o r = (read_keeps store o r).1

-- an empty window reads nothing first
pub nothing_read : (known : Known) (store : Store) → IsReadOf known [] store
nothing_read known store =
    record {
      byte = λ at x h. absurd (none-some x h);
      entry = λ at x h. absurd (none-some x h);
      global = λ at x h. absurd (none-some x h);
      pages = Unseen refl (λ at x h. absurd (none-some x h));
      entries = Unseen refl (λ at x h. absurd (none-some x h));
    }

pub known_of_all : (known : Known) (store : Store) (seen : List Observation) → AreSeen known store seen
    → IsKnownOf known store → IsKnownOf (known_after_all known seen) (with_changes store seen)
known_of_all known store [] are k = k
known_of_all known store (o ∷ seen) are k =
    known_of_all (known_after known o) (with_change store o) seen are.1 (known_of_after known store o are.0 k)

module _ (later : List Observation) where
  pub read_of_all : (known : Known) (store : Store) (seen : List Observation) → AreSeen known store seen
      → IsReadOf (known_after_all known seen) later (with_changes store seen) → IsReadOf known (seen ++ later) store
  read_of_all known store [] are real = real
  read_of_all known store (o ∷ seen) are real =
      read_of_before known store o are.0 (seen ++ later)
      (read_of_all (known_after known o) (with_change store o) seen are.1 real)

  -- the other store answers all observations
  pub held_answers_all : (known : Known) (store : Store) (seen : List Observation) (other : Store)
      → AreSeen known store seen → OnlyLastWrites seen → IsKnownOf known store → maxima other ≡ maxima store
      → IsReadOf (known_after_all known seen) later (with_changes store seen) → Holds known (seen ++ later) other
      → AnswersAll other seen
  held_answers_all known store [] other are last k same real holds = tt
  held_answers_all known store (o ∷ []) other are last k same real holds =
      (held_answers known store k o are.0 later real other holds, tt)
  held_answers_all known store (o ∷ next ∷ seen) other are last k same real holds =
      let rest = read_of_all (known_after known o) (with_change store o) (next ∷ seen) are.1 real in (
        held_answers known store k o are.0 (next ∷ seen ++ later) rest other holds,
        subst (λ s. AnswersAll s (next ∷ seen)) (read_changes other o last.0)
            (held_answers_all (known_after known o) (with_change store o) (next ∷ seen) (with_change other o) are.1
            last.1 (known_of_after known store o are.0 k)
            (same_maxima other o ∙ same ∙ sym (same_maxima store o)) real
            (holds_after known store k o are.0 (next ∷ seen ++ later) rest other holds
            (here_too store other same o are.0.here) (read_possible other o last.0))),
      )

  -- what the other store holds after all observations
  pub holds_after_all : (known : Known) (store : Store) (seen : List Observation) (other : Store)
      → AreSeen known store seen → IsKnownOf known store → maxima other ≡ maxima store
      → IsReadOf (known_after_all known seen) later (with_changes store seen) → CanChangeAll other seen
      → Holds known (seen ++ later) other → Holds (known_after_all known seen) later (with_changes other seen)
  holds_after_all known store [] other are k same real possible holds = holds
  holds_after_all known store (o ∷ seen) other are k same real possible holds =
      let rest = read_of_all (known_after known o) (with_change store o) seen are.1 real in
      holds_after_all (known_after known o) (with_change store o) seen (with_change other o) are.1
      (known_of_after known store o are.0 k) (same_maxima other o ∙ same ∙ sym (same_maxima store o)) real possible.1
      (holds_after known store k o are.0 (seen ++ later) rest other holds (here_too store other same o are.0.here)
      possible.0)
