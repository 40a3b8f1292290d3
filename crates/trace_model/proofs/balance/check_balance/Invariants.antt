use Rattle.std.proofs.Common.{◌≡◌, drop}
use Rattle.trace_model.specs.Balance.{balance_start, unbalanced_from}
use Rattle.trace_model.proofs.balance.check_balance.Given as goal

abbrev pub invariant-events : goal.invariant-events
invariant-events l =
    unbalanced_from l.log.imports 0 balance_start l.log.outcome l.log.events
    ≡ unbalanced_from l.log.imports l.number l.state l.log.outcome (drop l.number l.log.events)
