-- The place of the first unbalanced event of a log is within the log, so its number is reported as it is for a log that is
-- not too long.
use Rattle.std.proofs.Common.{◌≡◌, ℕ, suc, ◌+◌, ◌-◌, ◌^◌, ◌≤◌, List, [], ◌∷◌, length, Option, Some, None, Bool, true, false, cond, min, sym, ap, ◌∙◌, arith}
use Rattle.std.specs.Option.{option_map_or}
use Rattle.base.specs.declared.outcomes.Outcome.{Outcome}
use Rattle.trace_model.specs.declared.balance.Balance.{Balance}
use Rattle.trace_model.specs.declared.events.Event.{Event}
use Rattle.trace_model.specs.declared.events.Log.{Log}
use Rattle.trace_model.specs.Balance.{balance_start, balanced_step, ends_so, first_unbalanced, unbalanced_from}
use Rattle.trace_reduce.specs.Answers.{IsFirstUnbalanced}

place_is : (at place : ℕ) → Some at ≡ Some place → at ≡ place
place_is at place h = cc

at_end : (ends : Bool) (at place : ℕ) → cond ends None (Some at) ≡ Some place → at ≡ place
at_end true at place h = cc
at_end false at place h = place_is at place h

within : (n at : ℕ) (state : Balance) (outcome : Outcome) (events : List Event) (place : ℕ)
    → unbalanced_from n at state outcome events ≡ Some place → place ≤ at + length events
within n at state outcome [] place h = grind (arith, at_end (ends_so n state outcome) at place h)
within n at state outcome (event ∷ events) place h =
    go (balanced_step n state event) (λ next later. within n (suc at) next outcome events place later) h
  where
    go : (next : Option Balance)
        → ((next : Balance) → unbalanced_from n (suc at) next outcome events ≡ Some place
        → place ≤ suc at + length events)
        → option_map_or (λ next. unbalanced_from n (suc at) next outcome events) next (Some at) ≡ Some place
        → place ≤ at + suc (length events)
    go None rest h = grind (arith, place_is at place h)
    go (Some next) rest h = grind (arith, rest next h)

pub exact_place : (log : Log) (number : ℕ) → length log.events ≤ 2 ^ 64 - 1 → IsFirstUnbalanced log number
    → first_unbalanced log ≡ Some number
exact_place log number few h =
    h.first ∙ ap Some (sym (same h.place (within log.imports 0 balance_start log.outcome log.events h.place h.first) h.reported))
  where
    same : (place : ℕ) → place ≤ 0 + length log.events → number ≡ min place (2 ^ 64 - 1) → number ≡ place
    same place near reported = grind (arith, near, reported, few)
