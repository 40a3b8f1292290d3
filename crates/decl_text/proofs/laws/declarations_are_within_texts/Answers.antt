-- The law.
use Rattle.decl_text.proofs.Sizes.{decls_within}
use Rattle.decl_text.proofs.laws.declarations_are_within_texts.Goals as goal

pub returns : goal.returns
returns c = λ m bytes decls read. decls_within c.values_are_within_texts.ensures m bytes decls read
