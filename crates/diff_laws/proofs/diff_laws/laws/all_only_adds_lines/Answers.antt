use Rattle.diff_laws.proofs.AllLemmas.{all_adds}
use Rattle.diff_laws.proofs.diff_laws.laws.all_only_adds_lines.Goals as goal

pub returns : goal.returns
returns c = record { adds = all_adds }
