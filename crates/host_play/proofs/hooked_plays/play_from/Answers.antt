use Rattle.history_spec.specs.Run.{start_in_store}
use Rattle.host_play.proofs.hooked_plays.play_from.Goals as goal

pub play_start-requires : goal.play_start-requires
play_start-requires g c =
    record {
      leads = (
        c.args.play.code.now,
        start_in_store c.args.play.code.now c.args.script.now c.args.play.store,
        c.requires.hooked,
        c.in_ok-playing.ensures,
      );
    }

pub returns : goal.returns
returns g c =
    c.play_start.ensures c.args.play.code.now
    (start_in_store c.args.play.code.now c.args.script.now c.args.play.store) c.requires.hooked c.in_ok-playing.ensures
