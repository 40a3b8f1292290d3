use Rattle.std.proofs.Common.{◌≡◌, Some, sym, subst}
use Rattle.record_replay_spec.specs.HookedForm.{hooked_form}
use Rattle.hook_insert.specs.Forms.{form_of}
use Rattle.tests_instrumented.proofs.hooked_runs.played.Goals as goal

pub play-requires-clause-hooked : goal.play-requires-clause-hooked
play-requires-clause-hooked g c =
    c.forms_have_hooks.ensures c.module.result.now (form_of c.in-Ok.form)
    (subst (λ m. hooked_form m ≡ Some (form_of c.in-Ok.form)) (sym c.module.ensures.same) c.in-Ok.ensures.ok)
