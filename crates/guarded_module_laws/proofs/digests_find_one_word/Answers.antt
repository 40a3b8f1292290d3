use Rattle.guarded_module_laws.proofs.Digests.{one_word_is_found}
use Rattle.guarded_module_laws.proofs.digests_find_one_word.Goals as goal

pub returns : goal.returns
returns c = one_word_is_found
