use Rattle.wasm_syntax.specs.declared.modules.Module.{Module}
use Rattle.history_spec.specs.Step.{StepResult}
use Rattle.host_play.specs.HooksSoFar.{HooksSoFar}
use Rattle.host_play.proofs.hooked_parts.go_until_turn.Goals as goal

pub go_on-requires-clause-hooked : goal.go_on-requires-clause-hooked
go_on-requires-clause-hooked g c =
    let m : Module = c.requires.so_far.0 in
    let initial : StepResult = c.requires.so_far.1 in
    let here : HooksSoFar g.H.Hooks.is_step m c.args.script.now c.args.settings.now initial c.requires.so_far.2
    c.parts.hooks c.parts.stand c.parts.playing c.parts.left =
    c.parts.invariant.0 m initial c.requires.so_far.2 c.requires.so_far.3 in
    (m, here.reached.pending, here.reached.standing, here.can_play)
