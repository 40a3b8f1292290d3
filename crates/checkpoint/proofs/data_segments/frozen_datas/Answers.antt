use Rattle.std.proofs.Common.{◌<◌, ◌+◌, ◌*◌, ◌≤◌, ◌∙◌, ap, arith}
use Rattle.rest_spec.specs.StateSegments.{block_segments, block_size}
use Rattle.checkpoint.specs.FrozenStates.{state_of_frozen}
use Rattle.checkpoint.proofs.Blocks.{none_made, one_made, all_made, block_count}
use Rattle.checkpoint.proofs.data_segments.frozen_datas.Goals as goal

pub places-init : goal.places-init
places-init c =
    none_made block_size (c.pages.result * 16) (state_of_frozen c.args.frozen.now).bytes c.new-datas.result.items
    c.new-datas.ensures.items

pub places-preserved : goal.places-preserved
places-preserved c =
    let frozen = c.args.frozen.now in
    let place = c.places.place in
    let below : place < c.pages.result * 16 = c.places-test.true in
    let within : place * 4096 + 4096 ≤ frozen.pages * 65536 = omega (arith, below) in
    one_made block_size (c.pages.result * 16) (frozen.pages * 65536) place frozen.bytes c.block-block.result.now
    c.places.datas.items c.push_block.new.datas.items _ below within c.block-block.ensures.size
    c.block-block.ensures.byte c.in_ok-push_block.ensures c.places.invariant

pub returns : goal.returns
returns c =
    let frozen = c.args.frozen.now in
    let bytes = (state_of_frozen frozen).bytes in
    let count = c.pages.result * 16 in
    c.from_vec.ensures
    ∙ all_made block_size count c.places.place bytes c.places.datas.items _ (omega arith) c.places.invariant
    ∙ ap (λ n. block_segments block_size n 0 bytes)
    (block_count frozen.bytes frozen.pages c.pages.result c.pages.ensures)
