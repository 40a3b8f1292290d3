-- How a script with hooks answers the imports after its own: hooks by doing nothing, and imports past them not at all.
use Rattle.std.proofs.Common.{◌≡◌, ℕ, zero, suc, ◌-◌, ◌<◌, ◌≤◌, List, [], ◌∷◌, Option, Some, None, slice_get, refl, sym, ap, ◌∙◌, arith}
use Rattle.std.specs.Prelude.{replicate, option_and_then, MatchOption}
use Rattle.host_script.specs.declared.scripts.Answer.{Answer}
use Rattle.host_script.specs.declared.scripts.Script.{Script}
use Rattle.history_spec.specs.Step.{response_of, response_to}
use Rattle.record_replay_spec.specs.Hooks.{hook_count}
use Rattle.record_replay_spec.specs.HookedRuns.{hook_answer, hooked_script, with_hook_answers}
use Rattle.host_play.specs.declared.responses.Reply.{Reply}
use Rattle.host_play.specs.Hosts.{IsResponse}
use Rattle.host_play.specs.Replies.{nothing_done, response_in}

pub repeated : {A : Type 0} (x : A) (count i : ℕ) → i < count → slice_get (replicate count x) i ≡ Some x
repeated x zero i below = absurd (omega (arith, below))
repeated x (suc count) zero below = refl
repeated x (suc count) (suc i) below = repeated x count i (omega (arith, below))

past_repeated : {A : Type 0} (x : A) (count i : ℕ) → count ≤ i → slice_get (replicate count x) i ≡ None
past_repeated x zero i past = refl
past_repeated x (suc count) zero past = absurd (omega (arith, past))
past_repeated x (suc count) (suc i) past = past_repeated x count i (omega (arith, past))

pub past_own : (n : ℕ) (answers : List (Option Answer)) (import : ℕ) → n ≤ import
    → slice_get (with_hook_answers n answers) import ≡ slice_get (replicate hook_count (Some hook_answer)) (import - n)
past_own zero answers import past = let same : import - 0 ≡ import = omega arith in ap (slice_get (replicate hook_count (Some hook_answer))) (sym same)
past_own (suc n) answers zero past = absurd (omega (arith, past))
past_own (suc n) [] (suc i) past =
    let same : suc i - suc n ≡ i - n = omega arith in
    past_own n [] i (omega (arith, past)) ∙ ap (slice_get (replicate hook_count (Some hook_answer))) (sym same)
past_own (suc n) (answer ∷ answers) (suc i) past =
    let same : suc i - suc n ≡ i - n = omega arith in
    past_own n answers i (omega (arith, past)) ∙ ap (slice_get (replicate hook_count (Some hook_answer))) (sym same)

pub hook_answered : (n import number : ℕ) (answers : List (Option Answer)) → n ≤ import → import - n < hook_count
    → response_to (with_hook_answers n answers) import number ≡ Some nothing_done
hook_answered n import number answers past below =
    ap (λ found. option_and_then (λ answer. response_of answer number) (option_and_then (λ a. a) found))
    (past_own n answers import past ∙ repeated (Some hook_answer) hook_count (import - n) below)

unanswered : (n import number : ℕ) (answers : List (Option Answer)) → n ≤ import → hook_count ≤ import - n
    → response_to (with_hook_answers n answers) import number ≡ None
unanswered n import number answers past above =
    ap (λ found. option_and_then (λ answer. response_of answer number) (option_and_then (λ a. a) found))
    (past_own n answers import past ∙ past_repeated (Some hook_answer) hook_count (import - n) above)

-- what the host does at a call of a hook is what the script with hooks has for it
module _ (n import number : ℕ) (script : Script) (past : n ≤ import) where
  pub replies : (found : Option Reply) → MatchOption found (hook_count ≤ import - n) (λ reply. (import - n < hook_count) × (response_in reply ≡ nothing_done))
      → MatchOption found (response_to (hooked_script n script).imports import number ≡ None)
      (λ reply. response_to (hooked_script n script).imports import number ≡ Some (response_in reply))
  replies None above = unanswered n import number script.imports past above
  replies (Some reply) is = hook_answered n import number script.imports past is.0 ∙ ap (λ r. Some r) (sym is.1)

  pub replies_kept : (found : Option Reply) → MatchOption found (hook_count ≤ import - n)
      (λ reply. (import - n < hook_count) × (response_in reply ≡ nothing_done))
      → MatchOption found (IsResponse (hooked_script n script) import number None)
      (λ reply. IsResponse (hooked_script n script) import number (Some (response_in reply)))
  replies_kept None above = λ count is. unanswered n import count script.imports past above
  replies_kept (Some reply) is = λ count same. hook_answered n import count script.imports past is.0 ∙ ap (λ r. Some r) (sym is.1)
