use Rattle.file_disk.proofs.CallLemmas.{synced}
use Rattle.file_disk.proofs.CauseLemmas.{of_both, stays_on}
use Rattle.file_disk.proofs.disk.FileDiskDisk.sync.Goals as goal

pub returns-clause-made : goal.returns-clause-made
returns-clause-made g c = synced c.sync_all-primary.ensures.asked c.sync_all-log.ensures.asked

pub returns-clause-cause : goal.returns-clause-cause
returns-clause-cause g c = of_both _ _ _ _ _ _ _ _ c.stopped.ensures c.both.ensures c.sync_all-primary.ensures.failed
    c.sync_all-log.ensures.failed (g.met.F.SectorFile.bounded _)

pub returns-clause-power : goal.returns-clause-power
returns-clause-power g c = stays_on _ _ _ _ c.stopped.ensures
