use Rattle.salvage_walk.specs.Keys.{salvaged}
use Rattle.salvage_laws.proofs.BytesApart.{no-byte-twice}
use Rattle.salvage_laws.proofs.LeavingKeys.{salvage-is}
use Rattle.salvage_laws.proofs.UsesLie.{salvage-lies}
use Rattle.salvage_laws.proofs.bytes.no_byte_is_used_twice.Goals as goal

pub returns-clause-cells : goal.returns-clause-cells
returns-clause-cells c = λ hive root. salvage-lies hive root (salvaged hive root).0 (salvaged hive root).1 (salvage-is hive root)

pub returns-clause-bytes : goal.returns-clause-bytes
returns-clause-bytes c = λ version bytes root fits whole. no-byte-twice version bytes fits whole root
