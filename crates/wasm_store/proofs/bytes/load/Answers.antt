use Rattle.std.proofs.Common.{rules, ap, ◌∙◌, take}
use Rattle.wasm_store.proofs.Numbers.{number_at-word, number_at-fits, drop_all}
use Rattle.wasm_store.proofs.bytes.load.Goals as goal

pub returns-clause-ok : goal.returns-clause-ok
returns-clause-ok c =
    number_at-word c.args.bytes.now c.args.addr c.args.width c.from_le_bytes.result _ c.requires
    c.in_ok-end_of.ensures.ok
    (c.copy_from_slice.ensures.after ∙ ap (take c.args.width) (drop_all c.args.addr c.args.bytes.now))
    c.from_le_bytes.ensures

pub returns-clause-fits : goal.returns-clause-fits
returns-clause-fits c =
    number_at-fits c.args.bytes.now c.args.addr c.args.width c.from_le_bytes.result
    (search rules) c.in_ok-end_of.ensures.ok (returns-clause-ok c)
