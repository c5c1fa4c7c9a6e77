use Rattle.std.proofs.Common.{refl}
use Rattle.boot_machine.specs.boot_machine.Views.{event_in}
use Rattle.start_model.specs.Events.{Fail, Vital}
use Rattle.boot_run.proofs.TurnLemmas.{aside_goes, aside_breaks, other_does_nothing}
use Rattle.boot_run.proofs.turning.aside.Goals as goal

pub returns-in-Ok-clause-plays : goal.returns-in-Ok-clause-plays
returns-in-Ok-clause-plays g c = λ m told left.
    rw c.in-Fail.is (aside_goes (Fail c.in-Fail.name c.in-Fail.count) m told (g.B.Disk.state c.args.bench.now) refl)

pub returns-in-Err-clause-plays : goal.returns-in-Err-clause-plays
returns-in-Err-clause-plays g c =
    λ m told left. aside_breaks (event_in c.args.event.now) m told (g.B.Disk.state c.args.bench.now) left

pub returns-in-Ok-require-clause-plays : goal.returns-in-Ok-require-clause-plays
returns-in-Ok-require-clause-plays g c = λ m told left.
    rw c.in-Vital.is (aside_goes (Vital c.in-Vital.name) m told (g.B.Disk.state c.args.bench.now) refl)

pub returns-in-Err-require-clause-plays : goal.returns-in-Err-require-clause-plays
returns-in-Err-require-clause-plays g c =
    λ m told left. aside_breaks (event_in c.args.event.now) m told (g.B.Disk.state c.args.bench.now) left

pub returns-in-ArmCut-clause-plays : goal.returns-in-ArmCut-clause-plays
returns-in-ArmCut-clause-plays g c = λ m told left. rw c.in-ArmCut.is (c.arm_cut.ensures.plays m told left)

pub returns-in-ArmFault-clause-plays : goal.returns-in-ArmFault-clause-plays
returns-in-ArmFault-clause-plays g c = λ m told left. rw c.in-ArmFault.is (c.arm_fault.ensures.plays m told left)

pub returns-in_default : goal.returns-in_default
returns-in_default g c =
    let h = other_does_nothing c.args.event.now c.in_default.not-Fail c.in_default.not-Vital c.in_default.not-ArmCut
    c.in_default.not-ArmFault in
    record {
      machine = h.machine c.args.machine.now;
      disk = h.disk (g.B.Disk.state c.args.bench.now);
      plays = λ m told left. aside_goes (event_in c.args.event.now) m told (g.B.Disk.state c.args.bench.now) (h.act m);
    }
