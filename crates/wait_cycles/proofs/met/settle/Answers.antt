use Rattle.std.proofs.Common.{sym}
use Rattle.std.proofs.lemmas.Bool.{not-true, and_parts}
use Rattle.least_set.proofs.MarkLemmas.{still_set}
use Rattle.wait_cycles.proofs.MetLemmas.{settles_new, firsts_kept}
use Rattle.wait_cycles.proofs.met.settle.Goals as goal

pub returns-in_ok-push-clause-settled : goal.returns-in_ok-push-clause-settled
returns-in_ok-push-clause-settled c =
    let both = and_parts _ _ (rw c.as_slice.ensures.value at (sym c.if-is_due.ensures.due)) in
    rw (c.in_ok-push.ensures.items)
    (settles_new c.args.rows.now c.args.places c.args.at c.args.marks.now.items c.args.work.now.items c.requires.marks
    c.requires.at (not-true _ both.0) both.1)

pub returns-in_ok-push-clause-firsts : goal.returns-in_ok-push-clause-firsts
returns-in_ok-push-clause-firsts c =
    firsts_kept c.args.rows.now c.args.marks.now.items _ _ (still_set c.args.marks.now.items c.args.at)
    (rw c.as_slice.ensures.value at c.if-is_due.ensures.firsts)
