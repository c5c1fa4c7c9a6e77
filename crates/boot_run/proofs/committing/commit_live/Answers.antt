use Rattle.std.proofs.Common.{sym, subst}
use Rattle.hive_model.specs.Tree.{Tree}
use Rattle.boot_run.specs.Kept.{AreKept}
use Rattle.boot_run.proofs.PlayLemmas.{plays-ok, plays-err}
use Rattle.boot_run.proofs.committing.commit_live.Goals as goal

pub returns-in_err-left-clause-plays : goal.returns-in_err-left-clause-plays
returns-in_err-left-clause-plays g c = rw (← c.live.view_is) (λ m next tells counts stored stays.
    plays-err c.from_residual.ensures.0 (c.in_err-left.ensures.plays m next tells counts stored stays))

pub invariant_of-result : goal.invariant_of-result
invariant_of-result g c =
    let P : Tree → Type 0 = λ t. AreKept c.live.inside.lists c.live.inside.usable t in
    let up = rw c.in-Some.is at c.in_ok-left.ensures.sound in
    subst P (sym up.1.0) c.live.invariant

pub returns-in-Some-clause-sound : goal.returns-in-Some-clause-sound
returns-in-Some-clause-sound g c = rw (← c.live.view_is) (rw c.in-Some.is at c.in_ok-left.ensures.sound)

pub returns-in-Some-clause-plays : goal.returns-in-Some-clause-plays
returns-in-Some-clause-plays g c = rw (← c.live.view_is) (λ m next tells counts stored stays.
    plays-ok (c.in_ok-left.ensures.plays m next tells counts stored stays) (λ rest k. rw c.in-Some.is at k))

pub returns-in-None-clause-sound : goal.returns-in-None-clause-sound
returns-in-None-clause-sound g c = rw c.in-None.is at c.in_ok-left.ensures.sound

pub returns-in-None-clause-plays : goal.returns-in-None-clause-plays
returns-in-None-clause-plays g c = rw (← c.live.view_is) (λ m next tells counts stored stays.
    plays-ok (c.in_ok-left.ensures.plays m next tells counts stored stays) (λ rest k. rw c.in-None.is at k))
