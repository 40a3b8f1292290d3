use Rattle.instrumented_module_laws.proofs.EncodedWords.{encoded_have_words}
use Rattle.instrumented_module_laws.proofs.size_laws.encoded_have_words.Goals as goal

pub returns : goal.returns
returns c =
    encoded_have_words c.encodable_have_words.ensures c.lists_of_encoding.ensures.within
    c.shortest_encoding.ensures.encodable c.shortest_encoding.ensures.least
