use Rattle.hive_laws.proofs.SecurityRead.{kept_as_they_are}
use Rattle.hive_laws.proofs.hive_laws.in_place.cells_keep_themselves.Goals as goal

pub returns : goal.returns
returns c = kept_as_they_are
