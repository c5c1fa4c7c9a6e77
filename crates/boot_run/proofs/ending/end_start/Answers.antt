use Rattle.std.proofs.Common.{refl}
use Rattle.boot_run.proofs.PlayLemmas.{plays-ok, plays-err}
use Rattle.boot_run.proofs.CloseLemmas.{end_plays}
use Rattle.boot_run.proofs.ending.end_start.Goals as goal

pub returns-in-Ok-clause-plays : goal.returns-in-Ok-clause-plays
returns-in-Ok-clause-plays g c = λ m tells counts left ends.
    plays-ok {v = tt} (end_plays c.args.word c.end_with.new.runner ends counts left c.end_with.ensures.machine
    c.end_with.ensures.starts c.end_with.ensures.off (c.in-Ok.ensures.tells tells)) (λ rest h. h)

pub returns-in-Err-clause-plays : goal.returns-in-Err-clause-plays
returns-in-Err-clause-plays g c = λ m tells counts left ends.
    plays-err {stop = c.in-Err.stop} refl (end_plays c.args.word c.end_with.new.runner ends counts left c.end_with.ensures.machine
    c.end_with.ensures.starts c.end_with.ensures.off (c.in-Err.ensures.tells tells))
