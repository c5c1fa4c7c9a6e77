use Rattle.report_text.proofs.QuoteLemmas.{parted}
use Rattle.report_text.proofs.line_text.laws.texts_in_quotes_are_told_apart.Goals as goal

pub returns : goal.returns
returns c = parted
