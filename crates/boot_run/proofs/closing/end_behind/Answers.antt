use Rattle.std.proofs.Common.{Some, None, ap, sym, refl}
use Rattle.start_model.specs.Machine.{MachineState}
use Rattle.boot_run.specs.Agrees.{IsSound}
use Rattle.boot_run.proofs.PlayLemmas.{plays-as, plays-here, live_left, turn_left}
use Rattle.boot_run.proofs.CloseLemmas.{end_plays, end_sound}
use Rattle.boot_run.proofs.closing.end_behind.Given.{Over}
use Rattle.boot_run.proofs.closing.end_behind.Goals as goal
use Rattle.boot_run.proofs.closing.end_behind.Goals.{In-Some}

sound_on : (g : Over) (c : In-Some g)
    → IsSound c.args.runner.now (g.B.Disk.state c.args.bench.now) (Some c.in-Some.hive)
sound_on g c = rw c.in-Some.is at c.requires.sound

pub returns-in-Some-clause-plays : goal.returns-in-Some-clause-plays
returns-in-Some-clause-plays g c = λ m tree rest tells ends h.
    let k = rw c.in-Some.is at h in
    plays-as (sym k.0)
    (end_plays c.args.word c.end_with.new.runner ends k.1.0
    (live_left (sound_on g (goal.at.returns-in-Some-clause-plays g c).In-Some).0 k.1.1)
    c.end_with.ensures.machine c.end_with.ensures.starts c.end_with.ensures.off (c.end_with.ensures.tells tells))

pub returns-in-None-clause-plays : goal.returns-in-None-clause-plays
returns-in-None-clause-plays g c = λ m tree rest tells ends h.
    plays-here refl (turn_left None (rw c.in-None.is at h))

pub returns-in-Some-clause-sound : goal.returns-in-Some-clause-sound
returns-in-Some-clause-sound g c =
    end_sound c.end_with.result c.in-Some.hive c.end_with.new.runner (g.B.Disk.state c.args.bench.now)
    (g.B.Disk.state c.end_with.new.bench) (sound_on g (goal.at.returns-in-Some-clause-sound g c).In-Some).0
    c.end_with.ensures.off (ap (λ (k : MachineState). k.start) c.end_with.ensures.machine)
