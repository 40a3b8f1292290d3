-- One place of a store, beside what is known of it and what a window reads first of it: a byte, an entry or a global.
use Rattle.std.proofs.Common.{◌≡◌, Option, Some, None, refl, sym, ap, ◌∙◌, inl, inr}
use Rattle.std.specs.Prelude.{◌⊎◌, unwrap_or}
use Rattle.std.specs.Option.{option_or}
use Rattle.std.proofs.lemmas.Option.{none-some}
use Rattle.record_replay_spec.specs.Windows.{unless_some}

-- an observation reads or writes the place, if it touches it: the place holds what is read before, and what is written
-- after
pub record IsTouched {X : Type 0} (read written : Option X) (found left : X) : Type 0 where
  pub reads : (x : X) → read ≡ Some x → found ≡ x
  pub writes : left ≡ unwrap_or written found
  pub one : (read ≡ None) ⊎ (written ≡ None)

module _ {X : Type 0} where
  -- if what the rest reads first is in the place after the observation, what all read first is in the place before it
  pub found_before : (read written later : Option X) (found left x : X) → IsTouched read written found left
      → ((y : X) → later ≡ Some y → left ≡ y) → option_or read (unless_some written later) ≡ Some x → found ≡ x
  found_before (Some y) written later found left x t real h = t.reads x h
  found_before None (Some z) later found left x t real h = absurd (none-some x h)
  found_before None None later found left x t real h = sym t.writes ∙ real x h

  -- another store that holds what is read first, else what is known, does so after the observation
  pub held_after : (read written later : Option X) (found left known other : X) → IsTouched read written found left
      → ((y : X) → later ≡ Some y → left ≡ y)
      → other ≡ unwrap_or (option_or read (unless_some written later)) known
      → unwrap_or written other ≡ unwrap_or later (unwrap_or (option_or read written) known)
  held_after (Some y) (Some z) later found left known other t real h = go t.one
    where
      go : (Some y ≡ None) ⊎ (Some z ≡ None) → z ≡ unwrap_or later y
      go (inl e) = absurd (none-some y (sym e))
      go (inr e) = absurd (none-some z (sym e))
  held_after (Some y) None (Some b) found left known other t real h =
      h ∙ sym (t.reads y refl) ∙ sym t.writes ∙ real b refl
  held_after (Some y) None None found left known other t real h = h
  held_after None (Some z) (Some b) found left known other t real h = sym t.writes ∙ real b refl
  held_after None (Some z) None found left known other t real h = refl
  held_after None None later found left known other t real h = h

  -- a part in which what is known agrees with what is found agrees with what is left
  pub part_after : {Y : Type 0} (part : X → Y) (read written : Option X) (found left known : X)
      → IsTouched read written found left → part known ≡ part found
      → part (unwrap_or (option_or read written) known) ≡ part left
  part_after part (Some y) (Some z) found left known t h = go t.one
    where
      go : (Some y ≡ None) ⊎ (Some z ≡ None) → part y ≡ part left
      go (inl e) = absurd (none-some y (sym e))
      go (inr e) = absurd (none-some z (sym e))
  part_after part (Some y) None found left known t h = ap part (sym (t.reads y refl) ∙ sym t.writes)
  part_after part None (Some z) found left known t h = ap part (sym t.writes)
  part_after part None None found left known t h = h ∙ ap part (sym t.writes)
