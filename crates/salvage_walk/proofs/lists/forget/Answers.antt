use Rattle.std.proofs.Common.{arith}
use Rattle.salvage_walk.proofs.RememberedLemmas.{watched-less, watched-more}
use Rattle.salvage_walk.proofs.lists.forget.Goals as goal

pub returns-in_default : goal.returns-in_default
returns-in_default c = λ claims lists h.
    watched-more claims lists c.watches.least c.watches.watches c.args.claim c.near_end-end.result c.near_end-end.ensures.begun
    c.near_end-end.ensures.ended
    (λ key from below. c.in_default.ensures key (omega (arith, from, c.near_from-from.ensures)))
    (c.watches.invariant.kept claims lists h)

pub returns-then-key-end : goal.returns-then-key-end
returns-then-key-end c = λ claims lists h.
    watched-more claims lists c.watches.least c.watches.watches c.args.claim c.near_end-end.result c.near_end-end.ensures.begun
    c.near_end-end.ensures.ended
    (λ key from below.
    c.in-Some.ensures.2 key (omega (arith, from, c.near_from-from.ensures)) (omega (arith, below, c.if-key-end.true)))
    (c.watches.invariant.kept claims lists h)

pub watches-preserved : goal.watches-preserved
watches-preserved c = record {
  kept = λ claims lists h.
      watched-less claims lists c.watches.least c.lower.new.least c.watches.watches c.remove-watch.new.self c.in-Some.key
      c.in-Some.watch c.in-Some.ensures.1 c.remove-watch.ensures.updates.0 c.in_ok-lower.ensures
      (c.watches.invariant.kept claims lists h);
}
