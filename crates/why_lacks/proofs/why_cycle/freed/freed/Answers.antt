use Rattle.wait_cycles.proofs.CycleLemmas.{edges_of}
use Rattle.why_lacks.proofs.FreedLemmas.{freed_are}
use Rattle.why_lacks.proofs.why_cycle.freed.freed.Goals as goal

pub inverse-requires : goal.inverse-requires
inverse-requires c = edges_of c.args.rows.now c.args.count c.requires

pub returns : goal.returns
returns c =
    freed_are c.args.rows.now c.args.count c.in_ok-marks.marks.items c.truncate.new.self.items c.requires c.in_ok-marks.ensures
    c.truncate.ensures.items
