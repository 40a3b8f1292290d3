use Rattle.std.proofs.Common.{sym, ◌∙◌}
use Rattle.recorder.proofs.Entries.{knows_entry, true_false}
use Rattle.recorder.proofs.tables.find_entry.Goals as goal

pub returns-else-entry_differs-clause-reports : goal.returns-else-entry_differs-clause-reports
returns-else-entry_differs-clause-reports g c n is =
    knows_entry g.S.EventSink.has_taken n c.args.tables.now c.args.index c.args.func c.requires c.args.sink.now (λ apart.
    true_false (sym (c.entry_differs.ensures.1 apart) ∙ c.if-entry_differs.false))
