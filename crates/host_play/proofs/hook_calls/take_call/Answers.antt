use Rattle.std.proofs.Common.{◌≡◌, ◌+◌, ◌-◌, arith}
use Rattle.host_play.proofs.HookRuns.{hook_run}
use Rattle.host_play.proofs.hook_calls.take_call.Goals as goal

pub call_hook-requires : goal.call_hook-requires
call_hook-requires g c =
    let same : c.args.import ≡ c.args.imports + (c.args.import - c.args.imports) = omega (arith, c.if-import-imports.false) in
    record {
      waits = (
        c.requires.waits.0,
        (
          c.requires.waits.1.0,
          c.requires.waits.1.1.count (c.args.import - c.args.imports) c.hook_at.result c.hook_at.ensures same,
        ),
      );
    }

pub returns : goal.returns
returns g c = λ args awaits.
    let same : c.args.import ≡ c.args.imports + (c.args.import - c.args.imports) = omega (arith, c.if-import-imports.false) in
    hook_run g.H.Hooks.is_step c.args.hooks.now c.call_hook.new.hooks c.args.imports c.args.import c.hook_at.result args
    c.args.machine.now.store c.call_hook.result c.if-import-imports.false c.hook_at.ensures
    (c.call_hook.ensures args (awaits.0, awaits.1.count (c.args.import - c.args.imports) c.hook_at.result c.hook_at.ensures same))
