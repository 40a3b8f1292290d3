use Rattle.std.proofs.Common.{Some, refl, sym, ap, ◌∙◌}
use Rattle.host_play.specs.declared.play_state.Host.TheVariants as host
use Rattle.host_play.specs.Hosts.{action_at}
use Rattle.host_play.specs.Replies.{response_in}
use Rattle.host_play.proofs.Ends.{main_leads, answered, trap_leads, return_leads}
use Rattle.host_play.proofs.actions.end.Goals as goal

pub returns-in-Main-clause-leads : goal.returns-in-Main-clause-leads
returns-in-Main-clause-leads c = λ m s standing.
    main_leads m c.args.script.now s c.in-Main.next c.args.playing.now standing
    (c.requires.top ∙ ap (λ t. Some t) c.in-Main.is)
    (ap (action_at c.args.script.now) (sym c.in-Main.is) ∙ c.requires.done)

pub returns-in-Trap-clause-leads : goal.returns-in-Trap-clause-leads
returns-in-Trap-clause-leads c = λ m s standing.
    let a =
    answered m c.args.script.now s c.args.playing.now c.args.top c.in-Answer.import c.in-Answer.number c.in-Answer.next
    (response_in c.in-Some.reply) standing c.in-Answer.is c.requires.top c.requires.done c.in-Some.ensures.own in
    trap_leads m c.args.script.now s c.args.playing.now
    (host.Answer c.in-Answer.import c.in-Answer.number c.in-Answer.next) standing a.done (a.same_end ∙ c.in-Trap.is)

pub returns-in-Return-clause-leads : goal.returns-in-Return-clause-leads
returns-in-Return-clause-leads c = λ m s standing.
    let a =
    answered m c.args.script.now s c.args.playing.now c.args.top c.in-Answer.import c.in-Answer.number c.in-Answer.next
    (response_in c.in-Some.reply) standing c.in-Answer.is c.requires.top c.requires.done c.in-Some.ensures.own in
    return_leads m c.args.script.now s c.args.playing.now
    (host.Answer c.in-Answer.import c.in-Answer.number c.in-Answer.next) standing a.done c.in-Answer.import
    c.in-Return.value _ a.same_import c.hosts_go_on.ensures.results (a.same_end ∙ c.in-Return.is)
    c.resume.ensures.run refl refl c.pop.ensures
