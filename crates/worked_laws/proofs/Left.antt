-- Segments with effects removed.
use Rattle.std.proofs.Common.{◌≡◌, ℕ, zero, suc, ◌-◌, List, [], ◌∷◌, Option, Some, None, Bool, true, false, cond, nat_le, nat_eq, slice_get, refl, sym, ◌∙◌, inl, inr}
use Rattle.std.specs.Option.{option_or}
use Rattle.std.specs.List.{list_all, list_any}
use Rattle.std.proofs.lemmas.Option.{none-some}
use Rattle.trace_model.specs.declared.tapes.Effect.{Effect}
use Rattle.trace_model.specs.declared.tapes.Effect.TheVariants.{Table, Bytes, Entry}
use Rattle.trace_model.specs.declared.tapes.Segment.{Segment}
use Rattle.trace_model.specs.Effects.{are_ordered}
use Rattle.record_replay_spec.specs.Observations.{Observation, Copies}
use Rattle.record_replay_spec.specs.Known.{carried_byte}
use Rattle.record_replay_spec.specs.Windows.{unless_some}
use Rattle.record_replay_spec.specs.Needed.{has_bytes}
use Rattle.record_replay_spec.specs.Unshown.{first_copied}
use Rattle.tape_laws.specs.Dropped.{IsLeft, AreLeft, IsLeftSegment}

-- the observation reads bytes by a copy
abbrev pub copies : Observation → Bool
copies (Copies address bytes) = true
copies o = false

none_first : (carried later : Option ℕ) → later ≡ None → option_or None (unless_some carried later) ≡ None
none_first None later h = h
none_first (Some x) later h = refl

pub uncopied : (window : List Observation) → list_any copies window ≡ false → (at : ℕ)
    → first_copied window at ≡ None
uncopied [] h at = refl
uncopied (Copies address bytes ∷ window) h at = cc
uncopied (o ∷ window) h at = none_first (carried_byte at o) (first_copied window at) (uncopied window h at)

not_copied : (window : List Observation) → list_any copies window ≡ false → (at x : ℕ)
    → first_copied window at ≡ Some x → ⊥
not_copied window h at x e = none-some x (sym (uncopied window h at) ∙ e)

-- a segment from which nothing is removed
pub kept : (window : List Observation) (segment : Segment) → are_ordered segment.effects ≡ true
    → list_all has_bytes segment.effects ≡ true → IsLeftSegment window segment segment
kept window segment ordered nonempty =
    record {
      begins = refl;
      leaves = refl;
      changes = record {
        ordered = ordered;
        nonempty = nonempty;
        pages = inl refl;
        entries = inl refl;
        byte = λ at. inl refl;
        entry = λ at. inl refl;
        global = λ at. inl refl;
        copied = λ at x h. refl;
      };
    }

-- effects that are all removed, if no copy reads first
pub none_of : (window : List Observation) (effects : List Effect) → list_any copies window ≡ false
    → AreLeft window effects []
none_of window effects uncopied =
    record {
      ordered = refl;
      nonempty = refl;
      pages = inr refl;
      entries = inr refl;
      byte = λ at. inr refl;
      entry = λ at. inr refl;
      global = λ at. inr refl;
      copied = λ at x h. absurd (not_copied window uncopied at x h);
    }

-- the second of two bytes is removed
pub first_of_two : (window : List Observation) (address a b : ℕ) → list_any copies window ≡ false
    → AreLeft window (Bytes address (a ∷ b ∷ []) ∷ []) (Bytes address (a ∷ []) ∷ [])
first_of_two window address a b uncopied =
    record {
      ordered = refl;
      nonempty = refl;
      pages = inl refl;
      entries = inl refl;
      byte = λ at. go (nat_le address at) (at - address);
      entry = λ at. inl refl;
      global = λ at. inl refl;
      copied = λ at x h. absurd (not_copied window uncopied at x h);
    }
  where
    go : (t : Bool) (n : ℕ) → IsLeft (cond t (slice_get (a ∷ b ∷ []) n) None) (cond t (slice_get (a ∷ []) n) None)
    go false n = inl refl
    go true zero = inl refl
    go true (suc n) = inr refl

-- a table's size is removed, and the entry remains
pub entry_alone : (window : List Observation) (size index : ℕ) (func : Option ℕ)
    → AreLeft window (Table size ∷ Entry index func ∷ []) (Entry index func ∷ [])
entry_alone window size index func =
    record {
      ordered = refl;
      nonempty = refl;
      pages = inl refl;
      entries = inr refl;
      byte = λ at. inl refl;
      entry = λ at. go (nat_eq index at);
      global = λ at. inl refl;
      copied = λ at x h. refl;
    }
  where
    go : (t : Bool) → IsLeft (option_or (option_or None (cond t (Some func) None)) None)
        (option_or None (cond t (Some func) None))
    go true = inl refl
    go false = inl refl

-- an entry of a table is removed, and the size remains
pub size_alone : (window : List Observation) (size index : ℕ) (func : Option ℕ)
    → AreLeft window (Table size ∷ Entry index func ∷ []) (Table size ∷ [])
size_alone window size index func =
    record {
      ordered = refl;
      nonempty = refl;
      pages = inl refl;
      entries = inl refl;
      byte = λ at. inl refl;
      entry = λ at. inr refl;
      global = λ at. inl refl;
      copied = λ at x h. refl;
    }

-- a segment with effects removed
pub taken : (window : List Observation) (segment : Segment) (left : List Effect)
    → AreLeft window segment.effects left → IsLeftSegment window segment (record segment { effects = left })
taken window segment left are = record { begins = refl; leaves = refl; changes = are }
