use Rattle.instrumented_module_laws.proofs.EncodedWords.{globals_within_encoding}
use Rattle.instrumented_module_laws.proofs.size_laws.globals_within_encoding.Goals as goal

pub returns : goal.returns
returns c = globals_within_encoding c.shortest_encoding.ensures.least
