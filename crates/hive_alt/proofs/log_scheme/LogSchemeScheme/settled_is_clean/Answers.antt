use Rattle.hive_alt.proofs.LogLemmas.{carried_is_clean}
use Rattle.hive_alt.proofs.log_scheme.LogSchemeScheme.settled_is_clean.Goals as goal

pub returns : goal.returns
returns c = carried_is_clean
