use Rattle.hive_laws.proofs.WrittenLists.{packed_list}
use Rattle.hive_laws.proofs.hive_laws.packing.packed_lists_are_written_lists.Goals as goal

pub returns : goal.returns
returns c = packed_list
