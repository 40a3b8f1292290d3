use Rattle.std.proofs.Common.{rules, ◌<◌, length, arith}
use Rattle.replay_gen.proofs.Widths.{store_more}
use Rattle.replay_gen.proofs.stores.push_stores.Goals as goal

pub stores-preserved : goal.stores-preserved
stores-preserved c =
    let some : 0 < length c.stores.rest.now = search rules in (
      store_more c.stores.rest.now c.split_at.result.0.now c.split_at.result.1.now c.stores.at c.widest_store-width.result.0
          c.number_of.result c.widest_store-width.result.2 c.widest_store-width.result.1 c.stores.code.items c.push_store.new.code.items _
          some c.widest_store-width.ensures.width c.widest_store-width.ensures.ty c.widest_store-width.ensures.op
          c.split_at.ensures.front c.split_at.ensures.back c.number_of.ensures c.in_ok-push_store.ensures c.stores.invariant.0,
      omega (arith, c.split_at.ensures.back_len, c.stores.invariant.1, c.widest_store-width.ensures.within),
    )
