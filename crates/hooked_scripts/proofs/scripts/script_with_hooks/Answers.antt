use Rattle.std.proofs.Common.{◌≡◌, ℕ, IfOk, sym, ◌∙◌, subst}
use Rattle.record_replay_spec.specs.HookedRuns.{hooked_script, renumbered_script}
use Rattle.hooked_scripts.proofs.Fitting.{imports_counted, script_low}
use Rattle.hooked_scripts.proofs.scripts.script_with_hooks.Goals as goal

pub hooked_script-requires-clause-same : goal.hooked_script-requires-clause-same
hooked_script-requires-clause-same c =
    imports_counted c.args.«module».now c.args.script c.requires.fits ∙ sym c.count_of_imports-imports.ensures

pub hooked_script-requires-clause-low : goal.hooked_script-requires-clause-low
hooked_script-requires-clause-low c = script_low c.args.«module».now c.requires.few c.args.script c.requires.fits

pub returns : goal.returns
returns c =
    subst (λ (n : ℕ). IfOk c.hooked_script.result (λ hooked. hooked ≡ hooked_script n (renumbered_script n c.args.script)))
    c.count_of_imports-imports.ensures c.hooked_script.ensures
