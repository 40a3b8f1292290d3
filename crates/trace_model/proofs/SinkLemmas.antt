-- What sinks take, one part after another.
use Rattle.std.proofs.Common.{◌≡◌, List, [], ◌++◌, sym, subst}
use Rattle.std.proofs.lemmas.List.{append_assoc, append-nil}
use Rattle.trace_model.specs.declared.events.Event.{Event}
use Rattle.trace_model.specs.Sink.{TookAlso}

module _ {S : Type 0} (has_taken : S → S → List Event → Type 0) where
  -- nothing was taken
  pub took_none : (sink : S) → TookAlso has_taken sink sink []
  took_none sink first taken h = subst (has_taken first sink) (sym (append-nil taken)) h

  -- some events, and others then
  pub took_both : (a b c : S) (early late : List Event) → TookAlso has_taken a b early → TookAlso has_taken b c late
      → TookAlso has_taken a c (early ++ late)
  took_both a b c early late f g first taken h =
      subst (has_taken first c) (append_assoc taken early late) (g first (taken ++ early) (f first taken h))

  -- the same events, written otherwise
  pub took_same : (a b : S) (events others : List Event) → events ≡ others → TookAlso has_taken a b events
      → TookAlso has_taken a b others
  took_same a b events others same f = subst (TookAlso has_taken a b) same f
