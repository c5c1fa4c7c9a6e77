use Rattle.std.proofs.Common.{ℕ, List, ◌+◌, ◌++◌, map, ap, ◌∙◌}
use Rattle.service_check.specs.Check.{cycle_line, lines_of_cycle}
use Rattle.service_check.proofs.WaitLemmas.{lines_more}
use Rattle.service_check.proofs.cycles.put_all.Goals as goal

pub loop-at-preserved : goal.loop-at-preserved
loop-at-preserved c =
    lines_more (lines_of_cycle c.args.table.now c.args.cycles.now) c.loop-at.at c.args.lines.now c.loop-at.lines
    c.put_cycle.new.lines c.loop-at.invariant
    (c.in_ok-put_cycle.ensures
    ∙ ap (λ (places : List ℕ). c.loop-at.lines ++ map (cycle_line c.args.table.now (c.loop-at.at + 1)) places) c.cycle_at.ensures)
