use Rattle.std.proofs.Common.{◌≡◌, ◌/◌, true, false, not, refl, sym, ap, ◌∙◌}
use Rattle.std.specs.FinMap as map
use Rattle.std.proofs.lemmas.Result.{err_from_is_err_and}
use Rattle.hive_read.specs.Marks.{has_bit}
use Rattle.hive_read.specs.Walked.{clashes}
use Rattle.hive_read.proofs.MarkLemmas.{clash-marks, mark-kept, mark-security, same-marks}
use Rattle.hive_read.proofs.used.Used.mark_security.Goals as goal
use Rattle.hive_read.proofs.used.Used.mark_security.Goals.{Then-is_set, After-is_set-2}

-- the cell was used as one of security
used_so : (c : Then-is_set) → has_bit c.self.inside.security.items (c.args.at / 8) ≡ true
used_so c = rw c.as_slice.ensures.value at (sym c.is_set.ensures ∙ c.if-is_set.true)

-- then it clashes where it was used as another
clash_is : (c : After-is_set-2) → clashes (map.get c.args.self.now c.args.at) true ≡ c.is_set-2.result
clash_is c =
    let kept : has_bit c.self.inside.security.items (c.args.at / 8) ≡ false =
    rw c.as_slice.ensures.value at (sym c.is_set.ensures ∙ c.if-is_set.false) in
    rw (← c.self.view_is)
    (rw (clash-marks c.self.inside.plain.items c.self.inside.security.items c.args.at true c.requires, kept)
    (rw c.as_slice-2.ensures.value at (sym c.is_set-2.ensures)))

pub returns-then-is_set-clause-fresh : goal.returns-then-is_set-clause-fresh
returns-then-is_set-clause-fresh c =
    let kept = used_so (goal.at.returns-then-is_set-clause-fresh c).Then-is_set in
    rw (← c.self.view_is)
    (rw (clash-marks c.self.inside.plain.items c.self.inside.security.items c.args.at true c.requires, kept) refl)

pub returns-then-is_set-clause-marked : goal.returns-then-is_set-clause-marked
returns-then-is_set-clause-marked c = λ _.
    rw (← c.self.view_is)
    (mark-kept c.self.inside.plain.items c.self.inside.security.items c.args.at c.requires
    (used_so (goal.at.returns-then-is_set-clause-marked c).Then-is_set))

pub returns-then-is_set-2-clause-fresh : goal.returns-then-is_set-2-clause-fresh
returns-then-is_set-2-clause-fresh c =
    ap not (sym (clash_is (goal.at.returns-then-is_set-2-clause-fresh c).After-is_set-2 ∙ c.if-is_set-2.true))

pub returns-in_err-_fresh-clause-err : goal.returns-in_err-_fresh-clause-err
returns-in_err-_fresh-clause-err c =
    let p = err_from_is_err_and c.from_residual.result c.from_residual.ensures.1 in
    rw (p.1, ← c.self.view_is)
    (same-marks c.self.inside.plain.items c.self.inside.security.items c.self.inside.plain.items c.set.new.words.items
    (λ _. refl) c.in_err-_fresh.ensures.err)

pub returns-clause-fresh : goal.returns-clause-fresh
returns-clause-fresh c =
    ap not (sym (clash_is (goal.at.returns-clause-fresh c).After-is_set-2 ∙ c.if-is_set-2.false))

pub returns-clause-marked : goal.returns-clause-marked
returns-clause-marked c = λ _.
    rw (← c.self.view_is)
    (mark-security c.self.inside.plain.items c.self.inside.security.items c.set.new.words.items c.args.at c.requires
    c.in_ok-_fresh.ensures.ok)
