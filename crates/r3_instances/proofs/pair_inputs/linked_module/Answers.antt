use Rattle.std.proofs.Common.{Err, sym, subst}
use Rattle.pair_spec.specs.Pairs.{ModulePair}
use Rattle.r3_faults.specs.Answers.{IsExactValue}
use Rattle.r3_faults.specs.declared.faults.Fault.{Fault}
use Rattle.r3_instances.specs.PairInputs.{IsPairFault}
use Rattle.r3_instances.specs.RecordedModules.{CanBeRecorded, IsLinkedOf}
use Rattle.r3_instances.proofs.PairFacts.{few_indices, linked_answer, linked_recorded, pair_fault_answer}
use Rattle.r3_instances.proofs.pair_inputs.linked_module.Goals as goal

pub link_pair-requires : goal.link_pair-requires
link_pair-requires c =
    let modules : ModulePair = record { left = c.args.left.now; right = c.args.right.now } in
    record { few = few_indices modules c.requires c.counts_are_within.ensures }

pub returns-in-Ok-clause-exact : goal.returns-in-Ok-clause-exact
returns-in-Ok-clause-exact c =
    linked_answer (record { left = c.args.left.now; right = c.args.right.now }) c.in-Ok.pair.module
    c.in-Ok.ensures.linked.module c.in-Ok.ensures.taken

pub returns-in-Ok-clause-recorded : goal.returns-in-Ok-clause-recorded
returns-in-Ok-clause-recorded c =
    subst CanBeRecorded (sym c.in-Ok.ensures.linked.module)
    (linked_recorded (record { left = c.args.left.now; right = c.args.right.now }) c.requires c.counts_are_within.ensures
    c.linked_are_accepted.ensures c.linked_are_core.ensures c.linked_are_encodable.ensures c.linked_are_short.ensures
    c.linked_are_supported.ensures c.linked_are_within.ensures c.encoding_forms.ensures.core c.in-Ok.ensures.taken)

pub returns-in-Err-clause-exact : goal.returns-in-Err-clause-exact
returns-in-Err-clause-exact c =
    let modules : ModulePair = record { left = c.args.left.now; right = c.args.right.now } in
    subst (λ (fault : Fault). IsExactValue (IsLinkedOf modules) (IsPairFault modules) (Err fault)) (sym c.pair_fault.ensures)
    (pair_fault_answer modules c.in-Err.fault c.in-Err.ensures.cause)
