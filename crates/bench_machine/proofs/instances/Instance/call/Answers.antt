use Rattle.std.proofs.Common.{subst, refl}
use Rattle.host_script.specs.Fits.{IsCallable}
use Rattle.bench_machine.proofs.Positions.{call_place}
use Rattle.bench_machine.proofs.instances.Instance.call.Goals as goal

pub returns-clause-running : goal.returns-clause-running
returns-clause-running c = λ _.
    let m = c.args.self.now.module in
    let k : IsCallable m c.args.func c.args.args.now = subst (λ scope. IsCallable scope c.args.func c.args.args.now)
    c.in_ok-scope.ensures (c.if-not-is_callable.ensures.0 refl) in
    call_place m c.args.func c.args.args.now k.ty c.args.self.now.machine c.invoke.new.self c.requires k.defined
    k.has_type (c.hosts_go_on.ensures.results m k.ty.params c.args.args.now k.fit) c.in_ok-invoke.ensures.run
