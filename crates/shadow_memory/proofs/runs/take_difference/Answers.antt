use Rattle.std.proofs.Common.{length, drop, ◌-◌, arith}
use Rattle.std.proofs.lemmas.List.{length-drop, length-take}
use Rattle.shadow_memory.proofs.WrittenBytes.{taken_whole}
use Rattle.shadow_memory.proofs.runs.take_difference.Goals as goal

pub returns-clause-taken : goal.returns-clause-taken
returns-clause-taken c =
    let bytes = c.args.bytes.now in
    let start = c.known_count-start in
    let count = c.known_count-count in
    taken_whole c.args.kept.now.bytes c.take_run.new.kept.bytes c.args.addr bytes start.result count.result
    (omega (
      arith,
      start.ensures.within,
      count.ensures.within,
      length-take (length bytes - start.result) (drop start.result bytes),
      length-drop start.result bytes,
    ))
    start.ensures.alike c.in_ok-take_run.ensures.ok
