use Rattle.hive_alt.proofs.ReadingLemmas.{reads_one}
use Rattle.hive_alt.proofs.blocks.second_sector_is.Goals as goal

pub returns-in_err-read-clause-asked : goal.returns-in_err-read-clause-asked
returns-in_err-read-clause-asked g c = reads_one _ _ _ c.read.ensures.made

pub returns-in-Whole-clause-asked : goal.returns-in-Whole-clause-asked
returns-in-Whole-clause-asked g c = reads_one _ _ _ c.read.ensures.made

pub returns-in-Absent-clause-asked : goal.returns-in-Absent-clause-asked
returns-in-Absent-clause-asked g c = reads_one _ _ _ c.read.ensures.made

pub returns-in-Unreadable-clause-asked : goal.returns-in-Unreadable-clause-asked
returns-in-Unreadable-clause-asked g c = reads_one _ _ _ c.read.ensures.made
