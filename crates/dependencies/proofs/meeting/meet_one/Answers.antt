use Rattle.std.proofs.Common.{◌≡◌, false, sym, ◌∙◌}
use Rattle.start_model.specs.Demand.{member}
use Rattle.dependencies.proofs.MeetLemmas.{one_met}
use Rattle.dependencies.proofs.meeting.meet_one.Goals as goal

pub returns-clause-ready : goal.returns-clause-ready
returns-clause-ready c =
    let w = c.args.wants.now in
    let unmarked : member w.met c.args.want ≡ false = sym c.is_met.ensures.met ∙ c.if-is_met.false in
    rw (c.refresh.ensures, c.mark.ensures)
    (one_met w c.args.others.now c.args.ready.now c.args.waits.now c.args.want c.requires.ready c.requires.within
    c.is_met.ensures.paired unmarked
    c.owner-owner.result c.owner-owner.ensures.owner c.owner-owner.ensures.within)
