use Rattle.std.proofs.Common.{ap, rules}
use Rattle.start_model.specs.Machine.{MachineState}
use Rattle.boot_run.proofs.CutLemmas.{cut_plays, cut_sound}
use Rattle.boot_run.proofs.PlayLemmas.{ends}
use Rattle.boot_run.proofs.cutting.cut.Goals as goal

pub returns : goal.returns
returns g c = ends (cut_sound c.end_with.result c.args.hive c.end_with.new.runner (g.B.Disk.state c.args.bench.now)
    (g.B.Disk.state c.cut.new.self) (g.B.Disk.state c.end_with.new.bench) c.requires.up c.cut.ensures.cut
    c.end_with.ensures.off (ap (λ (k : MachineState). k.start) c.end_with.ensures.machine)) (search rules) (λ m tells counts live.
    cut_plays c.end_with.new.runner (g.met.B.Disk.bounded c.args.bench.now) c.requires.up live counts
    c.cut.ensures.cut c.end_with.ensures.off c.end_with.ensures.machine c.end_with.ensures.starts
    (c.end_with.ensures.tells tells))
