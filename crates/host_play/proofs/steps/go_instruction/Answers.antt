use Rattle.std.proofs.Common.{◌-◌, ◌≤◌, sym, subst, arith}
use Rattle.std.specs.Prelude.{None}
use Rattle.history_spec.specs.Run.{program_of}
use Rattle.history_spec.proofs.Budgets.{takes_one}
use Rattle.wasm_interp.specs.InstrEntries.{entries_of}
use Rattle.host_play.specs.declared.play_state.Stand.TheVariants as at
use Rattle.host_play.specs.HostSteps.{play_step}
use Rattle.host_play.specs.Results.{Refuses}
use Rattle.host_play.proofs.NextSteps.{goes_step, step_fails}
use Rattle.host_play.proofs.steps.go_instruction.Goals as goal

pub returns-in-Ok-clause-goes : goal.returns-in-Ok-clause-goes
returns-in-Ok-clause-goes c = λ m initial history r.
    let small : c.args.left.now ≤ c.args.turns = c.requires.left in
    let made = c.in-Ok.ensures.makes m r.pending r.standing in
    goes_step m c.args.script.now None initial c.args.turns history at.Instruction c.args.playing.now c.args.left.now r
    (play_step c.in-Ok.next (entries_of c.turn.new.entries)) c.turn.new.playing (c.args.left.now - 1) (omega arith) made
    (takes_one made.config.stack)

pub returns-in-Err-clause-goes : goal.returns-in-Err-clause-goes
returns-in-Err-clause-goes c = λ m initial history r.
    let small : c.args.left.now ≤ c.args.turns = c.requires.left in
    subst (Refuses (program_of m c.args.script.now) initial c.args.turns) (sym c.play_fault.ensures)
    (step_fails m c.args.script.now initial c.args.turns history at.Instruction c.args.playing.now c.args.left.now r
    c.in-Err.refusal c.turn.new.playing (c.args.left.now - 1) (c.args.turns - (c.args.left.now - 1)) (omega arith)
    (omega arith) (c.in-Err.ensures.makes m r.pending r.standing))
