use Rattle.hive_alt.proofs.TwinLemmas.{pair_is_clean}
use Rattle.hive_alt.proofs.twin_scheme.TwinSchemeScheme.settled_is_clean.Goals as goal

pub returns : goal.returns
returns c = pair_is_clean
