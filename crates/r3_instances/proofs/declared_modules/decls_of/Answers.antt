use Rattle.r3_instances.proofs.ReadDecls.{read_answer}
use Rattle.r3_instances.proofs.declared_modules.decls_of.Goals as goal

pub returns-in-Ok-clause-exact : goal.returns-in-Ok-clause-exact
returns-in-Ok-clause-exact c = read_answer c.args.module.now c.args.bytes.now c.in-Ok.decls c.in-Ok.ensures.gives
