use Rattle.std.proofs.Common.{sym, ◌∙◌}
use Rattle.checkpoint.proofs.Blocks.{page_count}
use Rattle.checkpoint.proofs.state_modules.known_pages.Goals as goal

pub returns : goal.returns
returns c = c.pages.ensures ∙ sym (page_count c.args.frozen.now.bytes c.args.frozen.now.pages)
