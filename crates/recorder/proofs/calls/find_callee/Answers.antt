use Rattle.std.proofs.Common.{◌≤◌, [], ◌∷◌, length, option_and_then, subst, sym, ap, ◌∙◌, arith}
use Rattle.std.proofs.lemmas.Bool.Decides.{nat_tests}
use Rattle.history_spec.specs.Instantiation.{table_length}
use Rattle.wasm_store.specs.Calls.{entries_in}
use Rattle.record_replay_spec.specs.Observations.{ReachesEntry}
use Rattle.record_replay_spec.specs.Hooks.{original}
use Rattle.recorder.specs.Known.{ReportsTables}
use Rattle.recorder.proofs.Arms.{on_ok}
use Rattle.recorder.proofs.Callees.{callee_past, callee_there, entry_is, not_none}
use Rattle.recorder.proofs.calls.find_callee.Goals as goal

pub returns-then-call-from-clause-reports : goal.returns-then-call-from-clause-reports
returns-then-call-from-clause-reports g c n is =
    let few : length c.args.tables.now.entries ≤ table_length c.args.view.now.table =
    grind (arith, nat_tests, c.requires) in
    let past : length (entries_in c.args.view.now) ≤ c.args.call.index =
    omega (arith, c.if-call-from.true, c.from.ensures, c.table_size-size.ensures) in
    callee_past g.S.EventSink.has_taken n c.args.tables.now c.reach_entry.new.tables c.args.sink.now c.reach_entry.new.sink c.args.call.index
    c.args.view.now.table few past
    (subst
    (λ size. ReportsTables g.S.EventSink.has_taken n c.args.tables.now c.args.sink.now (ReachesEntry c.args.call.index size ∷ [])
    c.reach_entry.new.tables c.reach_entry.new.sink)
    c.table_size-size.ensures (c.in_ok-reach_entry.ensures.reports n))

pub unreachable-requires : goal.unreachable-requires
unreachable-requires g c =
    not_none (entries_in c.args.view.now) c.args.call.index
    (omega (arith, c.if-call-from.false, c.from.ensures, c.table_size-size.ensures))
    (sym c.entry.ensures ∙ c.in_default.is)

pub returns-clause-reports : goal.returns-clause-reports
returns-clause-reports g c =
    on_ok c.find_entry.result
    (λ reports n is.
    callee_there g.S.EventSink.has_taken n c.args.tables.now c.reach_entry.new.tables c.args.sink.now c.reach_entry.new.sink
    c.args.call.index c.args.view.now.table c.in-Some.func c.find_entry.new.tables c.find_entry.new.sink
    (sym c.entry.ensures ∙ c.in-Some.is)
    (subst
    (λ size. ReportsTables g.S.EventSink.has_taken n c.args.tables.now c.args.sink.now (ReachesEntry c.args.call.index size ∷ [])
    c.reach_entry.new.tables c.reach_entry.new.sink)
    c.table_size-size.ensures (c.in_ok-reach_entry.ensures.reports n))
    (reports n
    (ap (option_and_then (original n))
    (sym
    (entry_is c.args.view.now.table c.args.call.index c.in-Some.func (sym c.entry.ensures ∙ c.in-Some.is)))
    ∙ is)))
    c.find_entry.ensures.reports
