use Rattle.instrumented_module_laws.proofs.Words.{encodable_have_words}
use Rattle.instrumented_module_laws.proofs.laws.encodable_have_words.Goals as goal

pub returns : goal.returns
returns c = encodable_have_words c.encoding_forms.ensures.core
