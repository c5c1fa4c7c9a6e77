use Rattle.hive_pack.proofs.Heap.{packed_is_bins}
use Rattle.hive_pack.proofs.laws.packed_form_is_its_bins.Goals as goal

pub returns : goal.returns
returns c = packed_is_bins
