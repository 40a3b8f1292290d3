use Rattle.std.proofs.Common.{◌+◌, ◌≤◌, take, replicate, ◌∙◌, arith}
use Rattle.std.proofs.lemmas.List.{take-replicate}
use Rattle.recorder.proofs.FoundBytes.{taken_same}
use Rattle.recorder.proofs.bytes.take_same.Goals as goal

pub parts-preserved : goal.parts-preserved
parts-preserved c =
    let within : c.parts.done + c.min-more.result ≤ c.args.count =
    omega (arith, c.min-more.ensures, c.parts.invariant.within) in
    let few : c.min-more.result ≤ 256 = omega (arith, c.min-more.ensures) in
    record {
      within = within;
      taken =
          taken_same c.args.memory.now c.args.addr c.parts.done c.min-more.result c.args.byte c.parts.memory
          c.take_run.new.self (take c.min-more.result (replicate 256 c.args.byte))
          (take-replicate c.min-more.result 256 c.args.byte few) c.parts.invariant.taken c.in_ok-take_run.ensures.ok;
      frozen = c.in_ok-take_run.ensures.ok.frozen ∙ c.parts.invariant.frozen;
    }
