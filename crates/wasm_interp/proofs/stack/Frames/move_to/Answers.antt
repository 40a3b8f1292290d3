-- The topmost activation is the last item.
use Rattle.std.proofs.Common.{ap, ◌∙◌, arith}
use Rattle.wasm_interp.specs.Frames.{with_number}
use Rattle.wasm_interp.proofs.Stacks.{last_moved}
use Rattle.wasm_interp.proofs.stack.Frames.move_to.Goals as goal

pub returns-then-count-gt0 : goal.returns-then-count-gt0
returns-then-count-gt0 c =
    last_moved c.self.inside.items.items _ c.index_mut.result.now c.args.number (omega arith) c.index_mut.ensures.value
    ∙ ap (λ frames. with_number frames c.args.number) c.self.view_is
