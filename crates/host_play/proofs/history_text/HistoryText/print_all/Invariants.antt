use Rattle.std.proofs.Common.{take}
use Rattle.host_play.specs.PrintedLines.{Prints}
use Rattle.host_play.proofs.history_text.HistoryText.print_all.Given as goal

abbrev pub invariant-entries : goal.invariant-entries
invariant-entries l = Prints l.fn.self l.self (take l.entry-index l.entries)
