use Rattle.bench_machine.specs.Positions.{ComesBy}
use Rattle.tests_machine.proofs.both_ways.end_by_turns.Given as goal

abbrev pub invariant-turns : goal.invariant-turns
invariant-turns l = ComesBy l.instance.module l.turn.pause l.instance.machine
