use Rattle.file_disk.proofs.CallLemmas.{wrote_primary, wrote_log}
use Rattle.file_disk.proofs.CauseLemmas.{of_primary, of_log, stays_on}
use Rattle.file_disk.proofs.disk.FileDiskDisk.write.Goals as goal

pub returns-in-Primary-clause-made : goal.returns-in-Primary-clause-made
returns-in-Primary-clause-made g c = wrote_primary _ c.in-Primary.is c.at.view_is c.write_sector.ensures.asked

pub returns-in-Primary-clause-cause : goal.returns-in-Primary-clause-cause
returns-in-Primary-clause-cause g c = of_primary _ _ _ _ _ c.stopped.ensures c.write_sector.ensures.failed

pub returns-in-Primary-clause-power : goal.returns-in-Primary-clause-power
returns-in-Primary-clause-power g c = stays_on _ _ _ _ c.stopped.ensures

pub returns-in-Log-clause-made : goal.returns-in-Log-clause-made
returns-in-Log-clause-made g c = wrote_log _ c.in-Log.is c.at.view_is c.write_sector-in-Log.ensures.asked

pub returns-in-Log-clause-cause : goal.returns-in-Log-clause-cause
returns-in-Log-clause-cause g c = of_log _ _ _ _ _ c.stopped-in-Log.ensures c.write_sector-in-Log.ensures.failed

pub returns-in-Log-clause-power : goal.returns-in-Log-clause-power
returns-in-Log-clause-power g c = stays_on _ _ _ _ c.stopped-in-Log.ensures
