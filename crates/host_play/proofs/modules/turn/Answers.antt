use Rattle.std.proofs.Common.{Some, ap, ◌∙◌, refl}
use Rattle.wasm_interp.specs.InstrEntries.{entries_of, turn_of}
use Rattle.host_play.specs.declared.play_state.PlayState.{PlayState}
use Rattle.host_play.specs.HostSteps.{result_with}
use Rattle.host_play.specs.Stands.{MakesStep}
use Rattle.host_play.proofs.Errors.{at_error}
use Rattle.host_play.proofs.Turns.{turn_at_instruction, turn_at_host, turn_at_trap, counted_import, import_begins, no_response}
use Rattle.host_play.proofs.modules.turn.Goals as goal

pub returns-in-None-clause-makes : goal.returns-in-None-clause-makes
returns-in-None-clause-makes c = λ m s standing.
    turn_at_instruction m c.args.script.now s c.args.playing.now c.turn_into.new.self
    (turn_of (entries_of c.turn_into.new.entries) c.in_ok-pause.pause) standing c.in_ok-pause.ensures.run c.in-None.is

pub returns-in-Returned-clause-makes : goal.returns-in-Returned-clause-makes
returns-in-Returned-clause-makes c = λ m s standing.
    turn_at_host m c.args.script.now s c.args.playing.now c.turn_into.new.self
    (turn_of (entries_of c.turn_into.new.entries) c.in_ok-pause.pause) standing c.in_ok-pause.ensures.run
    (c.in-Some.is ∙ ap (λ p. Some p) c.in-Returned.is)

pub returns-in-Trapped-clause-makes : goal.returns-in-Trapped-clause-makes
returns-in-Trapped-clause-makes c = λ m s standing.
    turn_at_trap m c.args.script.now s c.args.playing.now c.turn_into.new.self
    (turn_of (entries_of c.turn_into.new.entries) c.in_ok-pause.pause) standing c.in_ok-pause.ensures.run
    (c.in-Some.is ∙ ap (λ p. Some p) c.in-Trapped.is)

pub begin_answer-requires : goal.begin_answer-requires
begin_answer-requires c =
    counted_import c.requires.0 c.args.script.now c.requires.1 c.args.playing.now c.turn_into.new.self
    (turn_of (entries_of c.turn_into.new.entries) c.in_ok-pause.pause) c.requires.2 c.in_ok-pause.ensures.run
    c.in-Import.index (c.in-Some.is ∙ ap (λ p. Some p) c.in-Import.is)

pub returns-in_ok-begin_answer-in-Import-clause-makes : goal.returns-in_ok-begin_answer-in-Import-clause-makes
returns-in_ok-begin_answer-in-Import-clause-makes c = λ m s standing.
    import_begins m c.args.script.now s c.args.playing.now c.turn_into.new.self
    (turn_of (entries_of c.turn_into.new.entries) c.in_ok-pause.pause) standing c.in_ok-pause.ensures.run
    c.in-Import.index (c.in-Some.is ∙ ap (λ p. Some p) c.in-Import.is)
    c.begin_answer.new.hosts _ refl refl refl c.in_ok-begin_answer-in-Import.ensures

pub returns-in_err-begin_answer-in-Import-clause-makes : goal.returns-in_err-begin_answer-in-Import-clause-makes
returns-in_err-begin_answer-in-Import-clause-makes c = λ m s standing.
    let after : PlayState = record {
      machine = c.turn_into.new.self;
      functions = c.args.playing.now.functions;
      hosts = c.begin_answer.new.hosts;
      counts = c.begin_answer.new.counts;
    } in
    at_error c.from_residual-in_err-begin_answer-in-Import.result c.in_err-begin_answer-in-Import.field-0.0
    (λ result. MakesStep m c.args.script.now s (result_with (entries_of c.turn_into.new.entries) result) after)
    c.from_residual-in_err-begin_answer-in-Import.ensures.1
    (no_response m c.args.script.now s c.args.playing.now c.turn_into.new.self
    (turn_of (entries_of c.turn_into.new.entries) c.in_ok-pause.pause) standing c.in_ok-pause.ensures.run
    c.in-Import.index (c.in-Some.is ∙ ap (λ p. Some p) c.in-Import.is) c.in_err-begin_answer-in-Import.field-0.0 after
    c.in_err-begin_answer-in-Import.ensures)
