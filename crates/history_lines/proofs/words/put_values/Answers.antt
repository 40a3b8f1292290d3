use Rattle.std.proofs.Common.{suc, get_or, take, drop, subst}
use Rattle.wasm_syntax.specs.declared.values.Val.{Val}
use Rattle.wasm_syntax.specs.declared.values.ValType.TheVariants.{I32}
use Rattle.history_spec.specs.Line.{with_space, value_text, values_text}
use Rattle.history_lines.specs.Growth.{GrewByFirstPart}
use Rattle.history_lines.proofs.Growths.{grew-after, grew-longer, at-exit}
use Rattle.history_lines.proofs.Values.{values-cut}
use Rattle.history_lines.proofs.words.put_values.Goals as goal

pub returns-in_err-put_value-clause-refused : goal.returns-in_err-put_value-clause-refused
returns-in_err-put_value-clause-refused c =
    let values = c.args.values.now in
    let index = c.values.value-index in
    let none : Val = record { ty = I32; bits = 0 } in
    let own = with_space (value_text (get_or values index none)) in
    let later = values_text (drop (suc index) values) in
    at-exit c.from_residual.result
    (subst (GrewByFirstPart c.args.out.now.items c.put_value.new.out.items) (values-cut values index none c.values-test.true)
    (grew-after _ _ _ (values_text (take index values)) _ c.values.invariant
    (grew-longer _ _ own later c.in_err-put_value.ensures.refused)))
