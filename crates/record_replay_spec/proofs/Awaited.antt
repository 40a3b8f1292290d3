-- The response to a call of an import whose activation waits.
use Rattle.std.proofs.Common.{◌≡◌, ℕ, ◌<◌, [], ◌∷◌, length, Option, Some, None, true, nat_lt, replicate, option_and_then, ap, ◌∙◌, arith}
use Rattle.std.proofs.lemmas.Bool.Decides.{nat_tests}
use Rattle.std.proofs.lemmas.List.{length-replicate, get_or-replicate}
use Rattle.std.proofs.lemmas.Option.{slice_get-get_or}
use Rattle.host_script.specs.declared.scripts.Answer.{Answer}
use Rattle.host_script.specs.declared.scripts.ResponseEnd.TheVariants.{Trap as EndsInTrap}
use Rattle.history_spec.specs.Code.{Code}
use Rattle.history_spec.specs.Step.{response_of, response_to}
use Rattle.record_replay_spec.specs.TapeRun.{pause, awaiting_answer, program_awaiting}

pub awaits : (code : Code) (import number : ℕ) → nat_lt import code.imported ≡ true
    → response_to (program_awaiting code).answers import number
    ≡ Some (record { actions = pause ∷ []; end = EndsInTrap })
awaits code import number h =
    let below : import < code.imported = grind (arith, nat_tests, h) in
    let long : length (replicate {A = Option Answer} code.imported (Some awaiting_answer)) ≡ code.imported =
    length-replicate code.imported (Some awaiting_answer) in
    let there =
    slice_get-get_or (replicate code.imported (Some awaiting_answer)) import None (omega (arith, below, long)) in
    let is = get_or-replicate code.imported import (Some awaiting_answer) None below in
    ap
    (λ o. option_and_then (λ answer. response_of answer number)
    (option_and_then (λ a. a) o))
    (there ∙ ap Some is)
