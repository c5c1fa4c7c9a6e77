use Rattle.std.proofs.Common.{sym}
use Rattle.std.proofs.lemmas.Bool.{not-true}
use Rattle.least_set.proofs.MarkLemmas.{marks_new}
use Rattle.least_set.proofs.marks.mark.Goals as goal

pub returns-in_ok-push : goal.returns-in_ok-push
returns-in_ok-push c =
    rw (c.in_ok-push.ensures.items)
    (marks_new c.args.at c.args.marks.now.items c.args.work.now.items c.requires
    (not-true _ (rw c.as_slice.ensures.value at (sym c.if-is_open.ensures))))
