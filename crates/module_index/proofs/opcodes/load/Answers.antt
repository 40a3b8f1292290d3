use Rattle.std.proofs.Common.{◌∙◌, ap, arith}
use Rattle.std.specs.Prelude.{option_map}
use Rattle.module_index.specs.Tables.{reach_of_transfer}
use Rattle.module_index.proofs.TableLemmas.{load-entry}
use Rattle.module_index.proofs.opcodes.load.Goals as goal

pub returns : goal.returns
returns c = ap (option_map reach_of_transfer) c.entry.ensures ∙ load-entry c.args.op (omega arith) (omega arith)
