use Rattle.std.proofs.Common.{get_or, refl}
use Rattle.wait_cycles.proofs.MemberLemmas.{members_more}
use Rattle.wait_cycles.proofs.finding.members.Goals as goal

pub loop-place-preserved : goal.loop-place-preserved
loop-place-preserved c =
    rw (c.in_ok-put_member.ensures)
    (members_more c.args.classes.now c.loop-place.place (get_or c.args.classes.now c.loop-place.place 0)
    c.loop-place.members.items refl c.loop-place.invariant)
