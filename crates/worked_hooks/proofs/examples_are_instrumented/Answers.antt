use Rattle.worked_hooks.proofs.Calls.{hook_call_examples}
use Rattle.worked_hooks.proofs.Instrumented.{instrumented_examples}
use Rattle.worked_hooks.proofs.examples_are_instrumented.Goals as goal

pub returns-clause-instrumented : goal.returns-clause-instrumented
returns-clause-instrumented c = instrumented_examples

pub returns-clause-calls : goal.returns-clause-calls
returns-clause-calls c = hook_call_examples
