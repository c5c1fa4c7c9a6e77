use Rattle.hive_model.specs.Image.{ArmedFault}
use Rattle.nt_edge.specs.Book.{call_of}
use Rattle.boot_run.proofs.CutLemmas.{armed_goes, armed_breaks}
use Rattle.boot_run.proofs.cutting.arm_fault.Goals as goal

pub returns-in-Ok-clause-plays : goal.returns-in-Ok-clause-plays
returns-in-Ok-clause-plays g c =
    λ m told left. armed_goes (ArmedFault (call_of c.args.call) c.args.n) m told (g.B.Disk.state c.args.bench.now)
    (g.B.Disk.state c.arm_fault.new.self) c.in-Ok.ensures.armed

pub returns-in-Err-clause-plays : goal.returns-in-Err-clause-plays
returns-in-Err-clause-plays g c =
    λ m told left. armed_breaks (ArmedFault (call_of c.args.call) c.args.n) m told (g.B.Disk.state c.args.bench.now)
    (g.B.Disk.state c.arm_fault.new.self) c.in-Err.ensures.before left
