use Rattle.wait_cycles.proofs.MetLemmas.{back_within, settling_more}
use Rattle.wait_cycles.proofs.met.met.Goals as goal

pub settle_all-requires-clause-within : goal.settle_all-requires-clause-within
settle_all-requires-clause-within c =
    back_within c.args.rows.now c.args.back.now c.in-Some.at c.row_at.result.now c.row_at.ensures c.requires.back

pub work-preserved : goal.work-preserved
work-preserved c = record {
  settling = settling_more _ c.args.back.now _ _ _ _ _ _ _ c.requires.back c.in-Some.ensures.items c.work.invariant.settling
      (rw c.row_at.ensures at c.in_ok-settle_all.ensures.settled);
  firsts = c.in_ok-settle_all.ensures.firsts;
}
