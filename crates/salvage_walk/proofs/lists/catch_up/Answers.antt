use Rattle.std.proofs.Common.{sym, arith}
use Rattle.salvage_walk.proofs.RememberedLemmas.{follows-more}
use Rattle.salvage_walk.proofs.lists.catch_up.Goals as goal

pub uses-preserved : goal.uses-preserved
uses-preserved c = record {
  follows = follows-more c.args.used.now c.uses.lists c.in-Some.claim c.forget.new.least c.forget.new.watches
      (sym c.in-Some.ensures) (omega (arith, c.uses-test.true, c.len.ensures)) c.in_ok-forget.ensures c.uses.invariant.follows;
  same = c.uses.invariant.same;
}
