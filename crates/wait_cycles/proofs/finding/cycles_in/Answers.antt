use Rattle.std.proofs.Common.{ℕ, List, ◌++◌, get_or, ap, ◌∙◌}
use Rattle.wait_cycles.specs.Graph.{row_at}
use Rattle.wait_cycles.specs.Classes.{first_from}
use Rattle.wait_cycles.proofs.CycleLemmas.{flat_more}
use Rattle.wait_cycles.proofs.finding.cycles_in.Goals as goal

pub loop-place-preserved : goal.loop-place-preserved
loop-place-preserved c =
    flat_more (λ p. first_from p (row_at c.args.members.now (get_or c.args.classes.now p 0))) c.loop-place.place
    c.loop-place.cycles c.put_cycle.new.cycles c.loop-place.invariant
    (c.in_ok-put_cycle.ensures
    ∙ ap (λ (xs : List ℕ). c.loop-place.cycles ++ first_from c.loop-place.place xs) c.row_at.ensures)
