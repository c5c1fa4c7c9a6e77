use Rattle.std.proofs.Common.{◌≡◌, ◌/◌, true, false, not, refl, sym, ap, ◌∙◌}
use Rattle.std.proofs.lemmas.Result.{err_from_is_err_and}
use Rattle.hive_read.specs.Marks.{has_bit}
use Rattle.hive_read.proofs.MarkLemmas.{clash-marks, plain-clash, mark-unset, same-marks}
use Rattle.hive_read.proofs.used.Used.mark_plain.Goals as goal
use Rattle.hive_read.proofs.used.Used.mark_plain.Goals.{Else-is_set}

-- the cell was not used as one of security
not_security : (c : Else-is_set) → has_bit c.self.inside.security.items (c.args.at / 8) ≡ false
not_security c = rw c.as_slice.ensures.value at (sym c.is_set.ensures ∙ c.if-is_set.false)

pub returns-then-is_set-clause-fresh : goal.returns-then-is_set-clause-fresh
returns-then-is_set-clause-fresh c =
    let security = c.self.inside.security.items in
    let kept : has_bit security (c.args.at / 8) ≡ true =
    rw c.as_slice.ensures.value at (sym c.is_set.ensures ∙ c.if-is_set.true) in
    rw (← c.self.view_is)
    (rw (clash-marks c.self.inside.plain.items security c.args.at false c.requires, kept) refl)

pub returns-in_err-fresh-clause-err : goal.returns-in_err-fresh-clause-err
returns-in_err-fresh-clause-err c =
    let p = err_from_is_err_and c.from_residual.result c.from_residual.ensures.1 in
    rw (p.1, ← c.self.view_is)
    (same-marks c.self.inside.plain.items c.self.inside.security.items c.set.new.words.items c.self.inside.security.items
    c.in_err-fresh.ensures.err (λ _. refl))

pub returns-clause-fresh : goal.returns-clause-fresh
returns-clause-fresh c =
    rw (← c.self.view_is)
    (c.in_ok-fresh.ensures.fresh
    ∙ ap not (sym (plain-clash c.self.inside.plain.items c.self.inside.security.items c.args.at c.requires
    (not_security (goal.at.returns-clause-fresh c).Else-is_set))))

pub returns-clause-marked : goal.returns-clause-marked
returns-clause-marked c = λ e.
    rw (← c.self.view_is)
    (mark-unset c.self.inside.plain.items c.self.inside.security.items c.set.new.words.items c.args.at
    c.in_ok-fresh.fresh c.requires (not_security (goal.at.returns-clause-marked c).Else-is_set)
    c.in_ok-fresh.ensures.fresh c.in_ok-fresh.ensures.ok e)
