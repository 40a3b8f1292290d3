use Rattle.std.proofs.Common.{length, ap, ◌∙◌}
use Rattle.leb_bytes.specs.Unsigned.{u32_bytes}
use Rattle.wasm_encode.proofs.InstructionLemmas.{copy_length, fill_length, indexed_length}
use Rattle.wasm_encode.proofs.instructions.InstrsEncoding.length.Goals as goal

pub returns-in-MemoryCopy : goal.returns-in-MemoryCopy
returns-in-MemoryCopy c = copy_length c.args.item.now c.in-MemoryCopy.is

pub returns-in-MemoryFill : goal.returns-in-MemoryFill
returns-in-MemoryFill c = fill_length c.args.item.now c.in-MemoryFill.is

pub returns-in-TableGrow : goal.returns-in-TableGrow
returns-in-TableGrow c =
    indexed_length c.args.item.now c.in-TableGrow.table c.u32_length-in-TableGrow.result
    (c.u32_length-in-TableGrow.ensures.length ∙ ap (λ n. length (u32_bytes n)) c.from-in-TableGrow.ensures)
    c.u32_length-in-TableGrow.ensures.few c.in-TableGrow.is
