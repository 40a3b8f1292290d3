use Rattle.std.proofs.Common.{Ok}
use Rattle.std.proofs.lemmas.Result.{err_from_is_err_and}
use Rattle.trace_format.specs.declared.files.FormatFault.TheVariants.{Bad}
use Rattle.trace_format.proofs.FileSteps.{log_header_fault}
use Rattle.trace_format.proofs.LogHeaders.{header_begins, one_header, start_fault_is, start_is_there}
use Rattle.trace_format.proofs.log_readers.log_header.Goals as goal

pub returns-in-Some : goal.returns-in-Some
returns-in-Some c =
    let numbers = c.event_readers.ensures.numbers in
    let bytes = c.args.bytes.now in
    let start = c.in-Some.ensures.start c.in_ok-digest.field-0-0 c.in_ok-digest.digest c.in_ok-digest.ensures in
    record {
      found = header_begins numbers bytes _ _ _ _ start;
      only = λ digest imports begins. let same = one_header numbers bytes _ _ _ _ start digest imports begins in
          λ i. Ok (same.0 i, same.1 i);
      fault = tt;
      caused = λ is. cc;
    }

pub returns-in-None : goal.returns-in-None
returns-in-None c =
    let is = c.in-None.ensures.start c.in_ok-digest.field-0-0 c.in_ok-digest.digest c.in_ok-digest.ensures in
    record {
      found = tt;
      only = λ digest imports begins.
          absurd (start_is_there c.event_readers.ensures.numbers c.args.bytes.now digest imports begins (Bad 0) is);
      fault = start_fault_is c.event_readers.ensures.numbers c.args.bytes.now c.event_readers.ensures.events (Bad 0) is;
      caused = λ memory. cc;
    }

pub returns-in_err-digest-clause-only : goal.returns-in_err-digest-clause-only
returns-in_err-digest-clause-only c = λ digest imports begins.
    let bytes = c.args.bytes.now in
    let cause = c.in_err-digest.field-0.0 in
    absurd (start_is_there c.event_readers.ensures.numbers bytes digest imports begins cause
    (log_header_fault bytes cause c.in_err-digest.ensures))

pub returns-in_err-digest-clause-fault : goal.returns-in_err-digest-clause-fault
returns-in_err-digest-clause-fault c =
    let bytes = c.args.bytes.now in
    let cause = c.in_err-digest.field-0.0 in
    let p = err_from_is_err_and c.from_residual.result c.from_residual.ensures.1 in
    rw (p.1, p.2)
    (start_fault_is c.event_readers.ensures.numbers bytes c.event_readers.ensures.events cause
    (log_header_fault bytes cause c.in_err-digest.ensures))
