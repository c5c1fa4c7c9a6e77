use Rattle.std.proofs.lemmas.Result.{err_from_is_err_and}
use Rattle.hive_model.specs.Recovery.{base_in}
use Rattle.hive_log.proofs.SoFar.{fault_on}
use Rattle.hive_alt.specs.Twin.{twin_of}
use Rattle.hive_alt.proofs.ReadingLemmas.{reads_part, reads_then}
use Rattle.hive_alt.proofs.TwinLemmas.{by_fault}
use Rattle.hive_alt.proofs.pair.read_pair.Goals as goal

pub returns-in_err-base-clause-fault : goal.returns-in_err-base-clause-fault
returns-in_err-base-clause-fault g c = λ tells.
    let h = (g.D.Disk.state c.args.disk.now).held in
    let p = err_from_is_err_and c.from_residual.result c.from_residual.ensures.1 in
    rw (p.1, p.2) (fault_on c.in_err-base.field-0.0 (base_in h) (twin_of h) (by_fault h)
    (c.in_err-base.ensures.block tells))

pub returns-in-Some-clause-asked : goal.returns-in-Some-clause-asked
returns-in-Some-clause-asked g c =
    reads_then (reads_part c.read_primary_block.ensures.asked) c.read_behind_first.ensures.asked

pub returns-in-None-clause-asked : goal.returns-in-None-clause-asked
returns-in-None-clause-asked g c =
    reads_then (reads_part c.read_primary_block.ensures.asked) c.read_second.ensures.asked
