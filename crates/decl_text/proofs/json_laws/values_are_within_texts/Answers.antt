-- The law.
use Rattle.decl_text.proofs.Values.{values_are_within_texts}
use Rattle.decl_text.proofs.json_laws.values_are_within_texts.Goals as goal

pub returns : goal.returns
returns c = values_are_within_texts
