use Rattle.std.proofs.Common.{None, true, refl, sym}
use Rattle.start_model.specs.Commit.{select_line}
use Rattle.boot_run.proofs.PlayLemmas.{plays-as, plays-here, turn_left}
use Rattle.boot_run.proofs.SaveLemmas.{noted_plays}
use Rattle.boot_run.proofs.saving.note_behind.Goals as goal

pub returns-in-Some-clause-plays : goal.returns-in-Some-clause-plays
returns-in-Some-clause-plays g c = λ m s tree next d rest tells out sound left stays.
    let k = rw c.in-Some.is at left in
    let on = rw c.in-Some.is at sound in
    rw c.in-Some.is (plays-as (sym k.0) (noted_plays c.note.result (select_line c.args.numbers) true s next
    c.note.new.runner refl out k.1.0 on.0 k.1.1 stays (rw c.select_line.ensures at (c.note.ensures.tells tells))
    c.note.ensures.machine c.note.ensures.starts))

pub returns-in-None-clause-plays : goal.returns-in-None-clause-plays
returns-in-None-clause-plays g c = λ m s tree next d rest tells out sound left stays.
    let k = rw c.in-None.is at left in rw c.in-None.is (plays-here refl (turn_left None k))
