use Rattle.wasm_syntax.specs.Opcodes.{load_of}
use Rattle.record_replay_spec.specs.Insertions.{before_load}
use Rattle.hook_insert.proofs.Accesses.{reported_on_ok}
use Rattle.hook_insert.proofs.sites.BodySite.push_before_load.Goals as goal

pub returns-in-Some : goal.returns-in-Some
returns-in-Some c =
    reported_on_ok c.push_load.result c.args.code.now.items (load_of c.args.at.op) c.load.result c.in-Some.access
    (before_load c.args.self.now c.args.at) c.push_load.new.code.items c.in-Some.is c.load.ensures c.push_load.ensures
