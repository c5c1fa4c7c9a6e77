use Rattle.safe_boot.proofs.SetLemmas.{unlisted_changes_no_line}
use Rattle.safe_boot.proofs.laws.an_unlisted_entry_changes_no_line.Goals as goal

pub returns : goal.returns
returns c = unlisted_changes_no_line
