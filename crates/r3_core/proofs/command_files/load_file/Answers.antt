use Rattle.r3_core.proofs.CauseLemmas.{file_loading}
use Rattle.r3_core.proofs.command_files.load_file.Goals as goal

pub returns-clause-loads : goal.returns-clause-loads
returns-clause-loads g c =
    let clauses = c.load_named.ensures in
    file_loading _ _ _ _ _ _ _ _ c.load_named.result c.as_str.ensures.value clauses.faults_never_fall clauses.taken_never_falls
    clauses.bytes clauses.failed_none clauses.short clauses.within_limit clauses.cause
