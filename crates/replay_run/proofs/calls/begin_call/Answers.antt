use Rattle.std.proofs.Common.{[], ◌∷◌, subst}
use Rattle.history_spec.specs.declared.entries.Entry.TheVariants.{HostCall}
use Rattle.shown_lines.specs.ShownLines.{Shows}
use Rattle.replay_run.proofs.CallParts.{call_made}
use Rattle.replay_run.proofs.calls.begin_call.Goals as goal

pub returns-clause-begins : goal.returns-clause-begins
returns-clause-begins c = λ m heights actions can.
    call_made c.args.func c.in_ok-turn.turn c.args.machine.now c.invoke.new.self c.settle.new.self
    c.in_ok-invoke.ensures.run c.in_ok-turn.ensures.run m heights actions can
    c.projections_run_along.ensures c.args.shown.now c.show_all.new.self c.show_part.new.shown c.in_ok-stand.stand
    (subst (λ args. Shows c.args.shown.now c.show_all.new.self [] (HostCall c.args.func args ∷ [])) c.new.ensures
    c.in_ok-show_all.ensures) c.in_ok-stand.ensures.shows c.in_ok-stand.ensures.stands
