use Rattle.std.proofs.Common.{◌≡◌, ◌++◌, map, take}
use Rattle.record_replay_spec.specs.Hooks.{hooks}
use Rattle.record_replay_spec.specs.Instrumented.{hook_import}
use Rattle.hook_insert.proofs.hook_imports.hooked_imports.Given as goal

abbrev pub invariant-hooks : goal.invariant-hooks
invariant-hooks l =
    l.imports.items ≡ l.«module».imports ++ map (hook_import l.«module») (take l.kind-index hooks)
