use Rattle.std.proofs.Common.{OnOk, subst}
use Rattle.wasm_interp.specs.InstrEntries.{as_entry}
use Rattle.host_play.specs.PrintedLines.{Prints}
use Rattle.host_play.proofs.PrintedRuns.{prints_first}
use Rattle.host_play.proofs.history_text.HistoryText.print_turn.Goals as goal

pub returns-in_default : goal.returns-in_default
returns-in_default c =
    prints_first c.print_all.result c.args.self.now c.print_instr_entry.new.self c.print_all.new.self
    (as_entry c.args.entries.now.instr) c.args.entries.now.after.items
    c.in_ok-print_instr_entry.ensures
    (subst (λ after. OnOk c.print_all.result (Prints c.print_instr_entry.new.self c.print_all.new.self after))
    c.as_slice.ensures.value c.print_all.ensures)
