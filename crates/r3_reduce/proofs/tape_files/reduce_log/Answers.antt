use Rattle.r3_faults.proofs.OneAnswer.{exact_answer}
use Rattle.r3_reduce.specs.TapeFiles.{IsReduced, IsReduceRefusal}
use Rattle.r3_reduce.proofs.OneReduced.{one_cause, one_file, reduced_apart}
use Rattle.r3_reduce.proofs.tape_files.reduce_log.Goals as goal

pub returns : goal.returns
returns c =
    let bytes = c.args.log.now in
    let logs = c.log_files.ensures.apart in
    let tapes = c.log_tape_is_one.ensures in
    exact_answer (IsReduced bytes) (IsReduceRefusal bytes) (reduced_apart logs tapes bytes)
    (one_file logs tapes bytes) (one_cause logs tapes bytes) c.reduced_file.result c.reduced_file.ensures
