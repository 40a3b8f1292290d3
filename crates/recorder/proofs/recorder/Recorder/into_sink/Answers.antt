use Rattle.std.proofs.Common.{None, false, length, sym, ap, ◌∙◌, subst}
use Rattle.wasm_syntax.specs.Index.{all_globals}
use Rattle.history_spec.specs.Instantiation.{instantiate, table_length}
use Rattle.record_replay_spec.specs.Order.{order_start, shape_of}
use Rattle.record_replay_spec.specs.Logs.{log_start}
use Rattle.hook_order.specs.Shapes.{HaveIndices, parts_of}
use Rattle.recorder.specs.Known.{HaveTypes}
use Rattle.recorder.specs.Recorders.{StandsAt}
use Rattle.recorder.proofs.Arms.{is_ok}
use Rattle.recorder.proofs.Openings.{stands_at_start, types_at_start}
use Rattle.recorder.proofs.recorder.Recorder.into_sink.Goals as goal

pub of-requires : goal.of-requires
of-requires g c =
    subst (λ m. HaveIndices c.args.imports (length m.funcs) (all_globals m)) (sym c.module.ensures.same)
    (record { func = c.requires.funcs; global = c.requires.globals })

pub invariant_of-result : goal.invariant_of-result
invariant_of-result g c =
    let opened = is_ok (instantiate c.args.checked.now c.args.supply.now) c.requires.links in
    record {
      typed =
          subst (λ order. HaveTypes order.shape.globals c.in_ok-tables.tables.globals) (sym c.new.ensures)
          (types_at_start opened.0 c.in_ok-memory.memory c.in_ok-tables.tables
          (c.in_ok-memory.ensures.opens opened.0 opened.1) (c.in_ok-tables.ensures opened.0 opened.1) c.args.imports c.args.checked.now c.in_ok-shape.shape
          (c.in_ok-shape.ensures ∙ ap (parts_of c.args.imports) c.module.ensures.same)
          (c.requires.typed opened.0 opened.1));
    }

pub returns-clause-stands : goal.returns-clause-stands
returns-clause-stands g c store is =
    subst
    (λ order. StandsAt
    (record {
      recording =
          record { order = order; memory = c.in_ok-memory.memory; tables = c.in_ok-tables.tables; sink = c.args.sink };
      frozen = None;
      calls = 0;
      broken = false;
    })
    (shape_of c.args.imports c.args.checked.now) (order_start (table_length store.table)) (log_start store) 0)
    (sym c.new.ensures)
    (stands_at_start store c.in_ok-memory.memory c.in_ok-tables.tables (c.in_ok-memory.ensures.opens store is)
    (c.in_ok-tables.ensures store is) c.args.imports c.args.checked.now c.in_ok-shape.shape c.args.sink
    (c.in_ok-shape.ensures ∙ ap (parts_of c.args.imports) c.module.ensures.same))
