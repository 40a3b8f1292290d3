use Rattle.std.proofs.Common.{◌≡◌, ◌++◌, take}
use Rattle.trace_format.specs.Text.{hex_text}
use Rattle.trace_format.proofs.texts.put_digits.Given as goal

abbrev pub invariant-bytes : goal.invariant-bytes
invariant-bytes l = l.out.items ≡ l.fn.out.items ++ hex_text (take l.byte-index l.bytes)
