use Rattle.found_laws.proofs.Files.{files-add, files-lines}
use Rattle.found_laws.proofs.Withins.{adds-only}
use Rattle.found_laws.proofs.parent_laws.laws.a_search_by_parents_adds_only.Goals as goal

pub returns-clause-cells : goal.returns-clause-cells
returns-clause-cells c = adds-only

pub returns-clause-files : goal.returns-clause-files
returns-clause-files c = files-add

pub returns-clause-lines : goal.returns-clause-lines
returns-clause-lines c = files-lines
