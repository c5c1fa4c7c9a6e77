use Rattle.std.proofs.Common.{refl}
use Rattle.boot_machine.specs.boot_machine.Views.{event_in}
use Rattle.boot_run.specs.Views.{told_in}
use Rattle.boot_run.proofs.HostLemmas.{still-host}
use Rattle.boot_run.proofs.PlayLemmas.{agrees_left}
use Rattle.boot_run.proofs.TurnLemmas.{beside_sound, beside_goes}
use Rattle.boot_run.proofs.turning.beside.Goals as goal

pub returns-in-Ok : goal.returns-in-Ok
returns-in-Ok g c =
    let ev = event_in c.args.event.now in
    let r = c.args.runner.now in
    let after = record r { machine = c.aside.new.machine } in
    let d = g.B.Disk.state c.args.bench.now in
    let e = g.B.Disk.state c.aside.new.bench in
    record {
      sound = beside_sound ev r after d e c.args.hive c.in-Ok.ensures.machine c.in-Ok.ensures.disk c.requires.sound;
      plays = λ m h agrees. record {
        is = beside_goes ev m r after (told_in h r) d e c.args.hive c.in-Ok.ensures.machine refl c.in-Ok.ensures.disk agrees
            (c.in-Ok.ensures.plays m (told_in h r) (agrees_left m r d c.args.hive c.requires.sound agrees.by));
      };
      host = λ h. let s = still-host h in
          record { keeps = s.keeps; files = s.files; unasked = s.unasked; counts = s.counts };
    }

pub returns-in-Err-clause-plays : goal.returns-in-Err-clause-plays
returns-in-Err-clause-plays g c = λ m h agrees. record {
  is = c.in-Err.ensures.plays m (told_in h c.args.runner.now)
      (agrees_left m c.args.runner.now (g.B.Disk.state c.args.bench.now) c.args.hive c.requires.sound agrees.by);
}
