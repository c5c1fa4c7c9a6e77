use Rattle.std.proofs.Common.{None, refl, sym}
use Rattle.start_model.specs.Commit.{committed_state}
use Rattle.boot_run.proofs.PlayLemmas.{plays-as, plays-here, turn_left}
use Rattle.boot_run.proofs.beginning.begin_behind.Goals as goal

pub returns-in-Some-clause-plays : goal.returns-in-Some-clause-plays
returns-in-Some-clause-plays g c = λ m tree d rest tells up h.
    let k = rw c.in-Some.is at h in
    plays-as (sym k.0)
    (c.begin_start.ensures.plays (committed_state m tree) d tells (rw c.in-Some.is at up) k.1.0 k.1.1)

pub returns-in-None-clause-plays : goal.returns-in-None-clause-plays
returns-in-None-clause-plays g c = λ m tree d rest tells up h.
    plays-here refl (turn_left None (rw c.in-None.is at h))
