use Rattle.std.proofs.Common.{◌≡◌, sym, subst}
use Rattle.std.proofs.lemmas.Result.{IfOk-weaker}
use Rattle.r3_instances.specs.ForeignInputs.{widened_of}
use Rattle.r3_instances.specs.RecordedModules.{CanBeRecorded}
use Rattle.r3_instances.proofs.FileFacts.{can_be_recorded}
use Rattle.r3_instances.proofs.foreign_inputs.widened_module.Goals as goal

pub returns-clause-recorded : goal.returns-clause-recorded
returns-clause-recorded c =
    let declared = c.args.declared.now in
    let fact =
    can_be_recorded c.widened_are_accepted.ensures c.widened_are_core.ensures c.widened_are_encodable.ensures
    c.widened_are_short.ensures c.widened_are_supported.ensures c.widened_are_within.ensures
    c.encoding_forms.ensures.core declared c.requires
    in
    IfOk-weaker c.widen.result (λ wide. wide ≡ widened_of declared) CanBeRecorded
    (λ wide is. subst CanBeRecorded (sym is) fact) c.widen.ensures
