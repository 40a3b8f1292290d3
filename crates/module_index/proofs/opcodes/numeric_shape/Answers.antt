use Rattle.std.proofs.Common.{◌∙◌, ap, arith}
use Rattle.std.specs.Prelude.{option_map}
use Rattle.module_index.specs.Tables.{shape_of}
use Rattle.module_index.proofs.TableLemmas.{numeric-entry}
use Rattle.module_index.proofs.opcodes.numeric_shape.Goals as goal

pub returns : goal.returns
returns c = ap (option_map shape_of) c.entry.ensures ∙ numeric-entry c.args.op (omega arith) (omega arith)
