use Rattle.std.proofs.Common.{◌≡◌, ℕ, suc, ◌+◌, ◌++◌, ◌∙◌, ap, refl, subst, arith}
use Rattle.std.proofs.lemmas.List.{append_assoc}
use Rattle.load_maker.specs.Loads.{comma_before, response_text, responses_text}
use Rattle.load_maker.proofs.scripts.put_responses.Goals as goal

one_more : (call : ℕ) → responses_text call ++ (comma_before call ++ response_text call) ≡ responses_text (call + 1)
one_more call =
    let next : suc call ≡ call + 1 = omega (arith) in
    subst (λ count. responses_text call ++ (comma_before call ++ response_text call) ≡ responses_text count) next refl

pub calls-preserved : goal.calls-preserved
calls-preserved c =
    let next = comma_before c.calls.call ++ response_text c.calls.call in
    c.in_ok-put_next.ensures
    ∙ ap (λ front. front ++ next) c.calls.invariant
    ∙ append_assoc c.args.text.now.items (responses_text c.calls.call) next
    ∙ ap (λ responses. c.args.text.now.items ++ responses) (one_more c.calls.call)
