use Rattle.tape_laws.proofs.RealReads.{reads_are_real, reads_are_real_after_settling}
use Rattle.tape_laws.proofs.laws.reads_are_real.Goals as goal

pub returns-clause-configurations : goal.returns-clause-configurations
returns-clause-configurations c = reads_are_real c.laws_of_steps.ensures

pub returns-clause-settling : goal.returns-clause-settling
returns-clause-settling c = reads_are_real_after_settling c.laws_of_steps.ensures
