use Rattle.std.proofs.Common.{◌≡◌, ◌++◌}
use Rattle.load_maker.specs.Loads.{responses_text}
use Rattle.load_maker.proofs.scripts.put_responses.Given as goal

abbrev pub invariant-calls : goal.invariant-calls
invariant-calls l = l.text.items ≡ l.fn.text.items ++ responses_text l.call
