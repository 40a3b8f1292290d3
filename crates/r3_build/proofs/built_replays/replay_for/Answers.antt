use Rattle.sha2.specs.Sha256.{sha256}
use Rattle.r3_faults.proofs.OneAnswer.{exact_answer}
use Rattle.r3_build.specs.BuiltReplays.{IsBuilt}
use Rattle.r3_build.specs.BuildRefusals.{IsUnbuilt}
use Rattle.r3_build.proofs.OneBuilt.{built_one, built_unbuilt, unbuilt_one}
use Rattle.r3_build.proofs.built_replays.replay_for.Goals as goal

pub returns : goal.returns
returns c =
    let m = c.args.checked in
    let script = c.args.script.now in
    let digest = sha256 c.args.bytes.now in
    let bytes = c.args.tape.now in
    let apart = c.tape_files.ensures.apart in
    exact_answer (IsBuilt m script digest bytes) (IsUnbuilt m script digest bytes)
    (built_unbuilt m script apart digest bytes) (built_one m script apart digest bytes)
    (unbuilt_one m script apart digest bytes) c.built_replay.result c.built_replay.ensures
