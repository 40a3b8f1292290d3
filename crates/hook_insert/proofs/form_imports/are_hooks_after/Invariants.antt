use Rattle.std.proofs.Common.{◌≡◌, ◌≤◌, length, drop, filter}
use Rattle.wasm_syntax.specs.declared.modules.Import.{Import}
use Rattle.record_replay_spec.specs.Hooks.{hooks}
use Rattle.record_replay_spec.specs.HookedForm.{are_hooks, is_func_kind}
use Rattle.hook_insert.proofs.FormImports.{left_are_hooks}
use Rattle.hook_insert.proofs.form_imports.are_hooks_after.Given as goal

abbrev pub invariant-imports : goal.invariant-imports
invariant-imports l =
    record {
      left : are_hooks l.«module» hooks (drop l.own (filter (λ (i : Import). is_func_kind i.kind) l.imports))
          ≡ left_are_hooks l.«module» hooks l.place l.skipped (drop l.import-index l.imports);
      within : l.place ≤ length hooks;
    }
