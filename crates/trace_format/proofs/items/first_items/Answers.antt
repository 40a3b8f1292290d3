use Rattle.std.proofs.Common.{◌≡◌, [], ◌∷◌, length, Some, ap, subst, arith}
use Rattle.std.proofs.lemmas.List.{length-append}
use Rattle.wasm_syntax.specs.Encoding.Combinators.{first_items}
use Rattle.trace_format.proofs.FileLaws.{counted_read, read_last}
use Rattle.trace_format.proofs.ItemLoops.{misses}
use Rattle.trace_format.proofs.items.first_items.Goals as goal

pub loop-preserved : goal.loop-preserved
loop-preserved g c = record {
  read = rw c.in_ok-push-in-Ok.ensures.items
      (read_last (g.K.Kind.first c.args.version) c.args.bytes.now c.loop.rest.now c.in-Ok.after.now c.loop.items.items
      c.in-Ok.item c.loop.invariant.read c.in-Ok.ensures);
  counted = omega (
    arith,
    ap length c.in_ok-push-in-Ok.ensures.items,
    length-append c.loop.items.items (c.in-Ok.item ∷ []),
    c.loop.invariant.counted,
  );
}

pub returns-in-Err : goal.returns-in-Err
returns-in-Err g c =
    misses (g.K.Kind.first c.args.version) c.in-Err.unread c.args.bytes.now c.loop.rest.now c.loop.items.items c.args.count
    c.loop.invariant.read (omega (arith, c.loop.invariant.counted, c.loop-test.true)) c.in-Err.ensures

pub returns : goal.returns
returns g c =
    let full : length c.loop.items.items ≡ c.args.count =
    omega (arith, c.loop.invariant.counted, c.loop-test.false, c.loop.auto.counter-end) in
    subst (λ k. first_items (g.K.Kind.first c.args.version) k c.args.bytes.now ≡ Some (c.from_vec.result, c.loop.rest.now)) full
    (rw c.from_vec.ensures (counted_read (g.K.Kind.first c.args.version) c.args.bytes.now c.loop.rest.now c.loop.items.items c.loop.invariant.read))
