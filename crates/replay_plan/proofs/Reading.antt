-- Laws on reading a tape from its end.
use Rattle.std.proofs.Common.{◌≡◌, ◌∙◌, refl, ap, sym, ℕ, List, [], ◌∷◌, ◌++◌}
use Rattle.trace_model.specs.declared.tapes.Segment.{Segment}
use Rattle.replay_module_spec.specs.Plans.{Left, left_of}
use Rattle.replay_plan.specs.Reading.{nothing_left, left_before, left_from}

-- the last segment is read first
pub last_first : (segments : List Segment) (last : Segment) (left : Left)
    → left_from (segments ++ last ∷ []) left ≡ left_from segments (left_before last left)
last_first [] last left = refl
last_first (segment ∷ segments) last left = ap (left_before segment) (last_first segments last left)

-- reading one more segment, if the result of the whole is known
pub read_on : (all segments : List Segment) (last : Segment) (before after whole : Left)
    → all ≡ segments ++ last ∷ [] → after ≡ left_before last before → left_from all before ≡ whole
    → left_from segments after ≡ whole
read_on all segments last before after whole parts is invariant =
    ap (left_from segments) is ∙ (sym (last_first segments last before)
    ∙ (ap (λ (xs : List Segment). left_from xs before) (sym parts) ∙ invariant))

-- the rest after all segments are read
pub all_read : (imports : ℕ) (segments : List Segment) → left_from segments (nothing_left imports) ≡ left_of imports segments
all_read imports [] = refl
all_read imports (segment ∷ later) = ap (left_before segment) (all_read imports later)

pub all_left : (imports : ℕ) (segments read : List Segment) (start left : Left)
    → read ≡ segments → start ≡ nothing_left imports → left ≡ left_from read start → left ≡ left_of imports segments
all_left imports segments read start left same starts is =
    is ∙ (ap (λ (xs : List Segment). left_from xs start) same
    ∙ (ap (left_from segments) starts ∙ all_read imports segments))
