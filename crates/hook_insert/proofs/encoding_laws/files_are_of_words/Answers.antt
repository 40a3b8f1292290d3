use Rattle.hook_insert.proofs.Words.{files_are_of_words}
use Rattle.hook_insert.proofs.encoding_laws.files_are_of_words.Goals as goal

pub returns : goal.returns
returns c =
    files_are_of_words c.shortest_encoding.ensures.encodable c.shortest_encoding.ensures.least c.lists_of_encoding.ensures.within
    c.encodable_have_words.ensures
