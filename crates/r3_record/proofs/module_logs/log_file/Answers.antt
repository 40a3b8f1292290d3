use Rattle.r3_record.proofs.OneLog.{exact}
use Rattle.r3_record.proofs.module_logs.log_file.Goals as goal

pub returns-in-Ok : goal.returns-in-Ok
returns-in-Ok c =
    exact c.records_are_one.ensures c.args.checked.now c.args.turns c.args.script.now c.scripted_file.result
    c.scripted_file.ensures
