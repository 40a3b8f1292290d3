use Rattle.std.proofs.Common.{◌≡◌, ◌++◌, take}
use Rattle.history_spec.specs.Line.{values_text}
use Rattle.history_lines.proofs.words.put_values.Given as goal

abbrev pub invariant-values : goal.invariant-values
invariant-values l = l.out.items ≡ l.initial.out.items ++ values_text (take l.value-index l.values)
