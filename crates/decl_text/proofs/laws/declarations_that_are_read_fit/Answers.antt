-- The law.
use Rattle.decl_text.proofs.FittingDecls.{decls_fit}
use Rattle.decl_text.proofs.laws.declarations_that_are_read_fit.Goals as goal

pub returns : goal.returns
returns c = decls_fit
