use Rattle.std.proofs.Common.{◌≡◌, ◌+◌, ◌-◌, [], length, reverse, sym, ◌∙◌}
use Rattle.std.proofs.lemmas.Result.{err_from_is_err_and}
use Rattle.wasm_syntax.specs.Encoding.Readers.{first_expr}
use Rattle.wasm_decode.proofs.InstructionLemmas.{none_open, some_open, goes_on, ends, misses, misplaced, runs_out}
use Rattle.wasm_decode.proofs.expressions.first_expr.Goals as goal

pub returns-in_err-instr : goal.returns-in_err-instr
unfolding first_expr
returns-in_err-instr c =
    let p = err_from_is_err_and c.from_residual-in_err-instr.result c.from_residual-in_err-instr.ensures.1 in
    rw (p.1, p.2) (misses c.args.form c.in_err-instr.field-0.0 c.loop.instrs.items (length c.args.bytes.now)
    c.loop.counter (reverse c.loop.open_blocks.items) c.loop.rest.now _ c.loop-test.true c.loop.invariant.some
    c.in_err-instr.ensures c.loop.invariant.read)

pub returns-in_err-follow : goal.returns-in_err-follow
unfolding first_expr
returns-in_err-follow c =
    let p = err_from_is_err_and c.from_residual-in_err-follow.result c.from_residual-in_err-follow.ensures.1 in
    rw (p.1, p.2) (misplaced c.args.form c.in_err-follow.field-0.0 c.loop.instrs.items (length c.args.bytes.now)
    c.loop.counter (reverse c.loop.open_blocks.items) c.loop.rest.now c.in_ok-instr.instr c.in_ok-instr.after.now _
    c.loop-test.true c.loop.invariant.some c.in_ok-instr.ensures c.in_err-follow.ensures c.loop.invariant.read)

pub returns-then-is_empty : goal.returns-then-is_empty
unfolding first_expr
returns-then-is_empty c =
    let none : reverse c.follow.new.open_blocks.items
    ≡ [] = none_open c.follow.new.open_blocks.items _ c.follow.new.open_blocks.ok.0
    (sym c.is_empty.ensures ∙ c.if-is_empty.true) in
    let so_far = goes_on c.args.form c.loop.instrs.items (length c.args.bytes.now) c.loop.counter
    (reverse c.loop.open_blocks.items) (reverse c.follow.new.open_blocks.items) c.loop.rest.now c.in_ok-instr.instr
    c.in_ok-instr.after.now _ c.loop-test.true c.loop.invariant.some c.in_ok-instr.ensures c.in_ok-follow.ensures
    c.loop.invariant.read in
    rw (c.from_vec.ensures, c.in_ok-push-2.ensures.items)
    (ends c.args.form _ (length c.args.bytes.now - (c.loop.counter + 1)) _ c.in_ok-instr.after.now _ none so_far)

pub loop-preserved : goal.loop-preserved
unfolding first_expr
loop-preserved c =
    record {
      read =
          rw c.in_ok-push-2.ensures.items
          (goes_on c.args.form c.loop.instrs.items (length c.args.bytes.now) c.loop.counter
          (reverse c.loop.open_blocks.items) (reverse c.follow.new.open_blocks.items) c.loop.rest.now
          c.in_ok-instr.instr c.in_ok-instr.after.now _ c.loop-test.true c.loop.invariant.some c.in_ok-instr.ensures
          c.in_ok-follow.ensures c.loop.invariant.read);
      some =
          some_open c.follow.new.open_blocks.items _ c.follow.new.open_blocks.ok.0
          (sym c.is_empty.ensures ∙ c.if-is_empty.false);
    }

pub returns : goal.returns
unfolding first_expr
returns c =
    runs_out c.args.form c.loop.instrs.items (length c.args.bytes.now) c.loop.counter
    (reverse c.loop.open_blocks.items) c.loop.rest.now _ c.loop-test.false c.loop.invariant.some c.loop.invariant.read
