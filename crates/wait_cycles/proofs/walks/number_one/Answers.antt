use Rattle.start_model.specs.Demand.{member}
use Rattle.wait_cycles.specs.Classes.{which}
use Rattle.wait_cycles.proofs.WalkLemmas.{numbers_due}
use Rattle.wait_cycles.proofs.walks.number_one.Goals as goal

pub returns-in_ok-push : goal.returns-in_ok-push
returns-in_ok-push c =
    rw (c.in_ok-push.ensures.items)
    (numbers_due c.args.number c.args.at (member (which c.args.key c.args.keys.now)) c.args.numbers.now.items
    c.args.work.now.items c.requires (rw c.as_slice.ensures.value at c.if-is_new.ensures))
