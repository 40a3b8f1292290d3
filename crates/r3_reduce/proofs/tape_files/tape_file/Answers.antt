use Rattle.std.proofs.Common.{rules, inr, Err, subst}
use Rattle.trace_reduce.specs.Answers.{IsAnswer}
use Rattle.trace_reduce.specs.Reducer.{imports_of, most_of}
use Rattle.r3_reduce.proofs.TakenEvents.{unbalanced_log}
use Rattle.r3_reduce.proofs.tape_files.tape_file.Goals as goal

pub returns-in-Err-Unbalanced-clause-cause : goal.returns-in-Err-Unbalanced-clause-cause
returns-in-Err-Unbalanced-clause-cause c = λ log h.
    inr
    (unbalanced_log c.args.reducer c.args.outcome log c.in-Err-Unbalanced.event _ (search rules) h
    (subst
    (λ fault. IsAnswer (most_of c.args.reducer)
    (record { imports = imports_of c.args.reducer; events = log.events; outcome = c.args.outcome }) (Err fault))
    c.in-Err-Unbalanced.field-0-is (c.in-Err-Unbalanced.ensures log.events h.taken)))
