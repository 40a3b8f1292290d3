use Rattle.wasm_syntax.specs.Opcodes.{store_of}
use Rattle.record_replay_spec.specs.Insertions.{before_store}
use Rattle.hook_insert.proofs.Accesses.{reported_on_ok}
use Rattle.hook_insert.proofs.sites.BodySite.push_before_store.Goals as goal

pub returns-in-Some : goal.returns-in-Some
returns-in-Some c =
    reported_on_ok c.push_store.result c.args.code.now.items (store_of c.args.at.op) c.store.result c.in-Some.access
    (before_store c.args.self.now c.args.at) c.push_store.new.code.items c.in-Some.is c.store.ensures c.push_store.ensures
