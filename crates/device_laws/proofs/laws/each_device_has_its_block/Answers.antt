use Rattle.device_laws.proofs.BlockLemmas.{one_each, whole_stay}
use Rattle.device_laws.proofs.PlainLemmas.{database_adds}
use Rattle.device_laws.proofs.laws.each_device_has_its_block.Goals as goal

pub returns : goal.returns
returns c = record { each = one_each; whole = whole_stay; adds = database_adds }
