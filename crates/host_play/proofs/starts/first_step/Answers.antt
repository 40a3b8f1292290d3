use Rattle.std.proofs.Common.{◌≤◌, refl, sym, subst, ap, arith}
use Rattle.std.proofs.lemmas.Bool.{le-ltb}
use Rattle.wasm_interp.specs.Calls.{InvokesRun}
use Rattle.host_play.specs.declared.host_steps.HostStep.TheVariants.{Calls}
use Rattle.host_play.specs.Starts.{Starts, StartsBy}
use Rattle.host_play.proofs.starts.first_step.Goals as goal

pub returns-in_ok-call-in-Some : goal.returns-in_ok-call-in-Some
returns-in_ok-call-in-Some c =
    let le : c.args.playing.now.functions.imported ≤ c.in-Some.func = omega arith in
    subst (λ st. Starts st c.args.playing.now (Calls c.in-Some.func c.new-args.result)
    (record c.args.playing.now { machine = c.call.new.machine })) (sym c.in-Some.is)
    (subst (λ b. StartsBy b c.in-Some.func c.args.playing.now (Calls c.in-Some.func c.new-args.result)
    (record c.args.playing.now { machine = c.call.new.machine }))
    (sym (le-ltb c.in-Some.func c.args.playing.now.functions.imported le))
    (record {
      calls = ap (Calls c.in-Some.func) c.new-args.ensures;
      machine = subst (λ args. InvokesRun c.args.playing.now.machine c.in-Some.func args c.call.new.machine) c.new-args.ensures c.in_ok-call-in-Some.ensures;
      rest = refl;
    }))
