-- One place of a store that may lack what a window reads first of it.
use Rattle.std.proofs.Common.{◌≡◌, List, [], ◌∷◌, ◌++◌, Option, Some, None, refl, sym, ◌∙◌, inl, inr}
use Rattle.std.specs.Prelude.{◌⊎◌, unwrap_or}
use Rattle.std.specs.Option.{option_or}
use Rattle.record_replay_spec.specs.Observations.{Observation}
use Rattle.record_replay_spec.specs.Windows.{unless_some, first_read}
use Rattle.tape_laws.proofs.Places.{IsTouched, held_after}

module _ {X : Type 0} where
  -- the place holds what is read first, else what is known; or it holds what is known, if that is allowed
  abbrev pub MayLack : (first : Option X) (known found : X) → Type 0 → Type 0
  MayLack first known found free = (found ≡ unwrap_or first known) ⊎ ((found ≡ known) × free)

  -- a place that may lack a value may lack it after an observation that the place answers
  pub lack_after : (read written later : Option X) (real real_left known found left : X)
      → IsTouched read written real real_left → IsTouched read written found left
      → ((y : X) → later ≡ Some y → real_left ≡ y) → (free free_after : Type 0)
      → (read ≡ None → written ≡ None → free → free_after)
      → MayLack (option_or read (unless_some written later)) known found free
      → MayLack later (unwrap_or (option_or read written) known) left free_after
  lack_after read written later real real_left known found left t u reads free free_after kept (inl h) =
      inl (u.writes ∙ held_after read written later real real_left known found t reads h)
  lack_after (Some y) written later real real_left known found left t u reads free free_after kept (inr h) =
      inl (u.writes ∙ held_after (Some y) written later real real_left known found t reads (u.reads y refl))
  lack_after None (Some z) later real real_left known found left t u reads free free_after kept (inr h) =
      inl (u.writes ∙ held_after None (Some z) later real real_left known found t reads h.0)
  lack_after None None later real real_left known found left t u reads free free_after kept (inr h) =
      inr (u.writes ∙ h.0, kept refl refl h.1)

  -- a place that lacks nothing after an observation lacks nothing before it
  pub none_before : (read written later : Option X) (known found left : X) (free : Type 0)
      → IsTouched read written found left → left ≡ unwrap_or later (unwrap_or (option_or read written) known)
      → MayLack (option_or read (unless_some written later)) known found free
      → found ≡ unwrap_or (option_or read (unless_some written later)) known
  none_before (Some y) written later known found left free u after lack = u.reads y refl
  none_before None (Some z) later known found left free u after (inl h) = h
  none_before None (Some z) later known found left free u after (inr h) = h.0
  none_before None None later known found left free u after lack = sym u.writes ∙ after

  -- a place of which a window reads nothing holds what is known
  pub lack_nothing : (known found : X) (free : Type 0) → MayLack None known found free → found ≡ known
  lack_nothing known found free (inl h) = h
  lack_nothing known found free (inr h) = h.0

  -- a place that answers what is read of it lacks nothing, if what follows lacks nothing
  answered_first : (read written later : Option X) (known found : X) (free : Type 0)
      → ((x : X) → read ≡ Some x → found ≡ x)
      → (MayLack later known found free → found ≡ unwrap_or later known)
      → MayLack (option_or read (unless_some written later)) known found free
      → found ≡ unwrap_or (option_or read (unless_some written later)) known
  answered_first (Some y) written later known found free answers rest lack = answers y refl
  answered_first None (Some z) later known found free answers rest (inl h) = h
  answered_first None (Some z) later known found free answers rest (inr h) = h.0
  answered_first None None later known found free answers rest lack = rest lack

  -- the place holds what observations read of it
  abbrev pub AllRead : (read : Observation → Option X) (found : X) → List Observation → Type 0
  AllRead read found [] = Unit {0}
  AllRead read found (o ∷ seen) = ((x : X) → read o ≡ Some x → found ≡ x) × AllRead read found seen

  -- a place that answers all that is read of it lacks nothing, if nothing follows
  pub answered_place : (read written : Observation → Option X) (seen : List Observation) (known found : X)
      (free : Type 0) → AllRead read found seen → MayLack (first_read read written (seen ++ [])) known found free
      → found ≡ unwrap_or (first_read read written (seen ++ [])) known
  answered_place read written [] known found free answers lack = lack_nothing known found free lack
  answered_place read written (o ∷ seen) known found free answers lack =
      answered_first (read o) (written o) (first_read read written (seen ++ [])) known found free answers.0
      (answered_place read written seen known found free answers.1) lack
