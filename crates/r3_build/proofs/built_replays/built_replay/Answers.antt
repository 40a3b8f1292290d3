use Rattle.std.proofs.Common.{subst}
use Rattle.wasm_syntax.specs.Validity.{IsValid}
use Rattle.r3_build.proofs.built_replays.built_replay.Goals as goal

pub replay_bytes-requires-clause-encoded : goal.replay_bytes-requires-clause-encoded
replay_bytes-requires-clause-encoded c = (
  c.args.bytes.now,
  record {
    encoded = c.requires.encoded;
    valid = subst IsValid c.module.ensures.same c.module.ensures.valid;
    few = c.requires.small;
  },
)

pub replay_bytes-requires-clause-supplied : goal.replay_bytes-requires-clause-supplied
replay_bytes-requires-clause-supplied c =
    c.typed_store.ensures.supplied c.args.checked c.args.script.now c.in_ok-supply.supply c.requires.runnable.fits
    c.in_ok-supply.ensures.linked.1.supplied
