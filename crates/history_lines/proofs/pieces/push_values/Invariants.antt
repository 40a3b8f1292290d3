use Rattle.std.proofs.Common.{◌≡◌, ◌+◌, ◌*◌, ◌≤◌, ◌++◌, take, vec_len, vec_capacity}
use Rattle.history_spec.specs.Line.{values_text}
use Rattle.history_lines.proofs.pieces.push_values.Given as goal

-- the texts of the values so far are pushed, and nothing else has changed
abbrev pub invariant-values : goal.invariant-values
invariant-values l = record {
  items : l.out.items ≡ l.initial.out.items ++ values_text (take l.value-index l.values);
  len : vec_len l.out ≤ vec_len l.initial.out + 25 * l.value-index;
  capacity : vec_capacity l.out ≡ vec_capacity l.initial.out;
}
