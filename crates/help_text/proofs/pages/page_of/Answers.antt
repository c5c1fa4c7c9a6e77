use Rattle.std.proofs.Common.{◌∙◌}
use Rattle.help_text.proofs.PageLemmas.{page_is}
use Rattle.help_text.proofs.pages.page_of.Goals as goal

pub returns : goal.returns
returns c = c.page_constant.ensures ∙ page_is c.args.page
