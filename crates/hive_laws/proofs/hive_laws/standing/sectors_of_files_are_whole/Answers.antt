use Rattle.hive_laws.proofs.FileSectors.{whole_of_files, bytes_of_files}
use Rattle.hive_laws.proofs.hive_laws.standing.sectors_of_files_are_whole.Goals as goal

pub returns-clause-whole : goal.returns-clause-whole
returns-clause-whole c = whole_of_files

pub returns-clause-bytes : goal.returns-clause-bytes
returns-clause-bytes c = bytes_of_files
