use Rattle.start_model.specs.Demand.{member}
use Rattle.wait_cycles.specs.Classes.{which}
use Rattle.wait_cycles.proofs.WalkLemmas.{numbers_more}
use Rattle.wait_cycles.proofs.walks.number_all.Goals as goal

pub loop-at-preserved : goal.loop-at-preserved
loop-at-preserved c =
    numbers_more c.args.number (member (which c.args.key c.args.keys.now)) c.args.row.now c.loop-at.at-index _ _ _ _ _ _
    c.loop-at-test.true c.loop-at.invariant c.in_ok-number_one.ensures
