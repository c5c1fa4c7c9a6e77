use Rattle.std.proofs.Common.{◌+◌, ◌*◌, not}
use Rattle.std.specs.Prelude.{count_by, vec_len}
use Rattle.least_set.specs.Work.{IsReaching}
use Rattle.least_set.proofs.search.least_set.Given as goal

abbrev pub invariant-work : goal.invariant-work
invariant-work g l = IsReaching (g.E.Edges.rows l.edges) l.firsts l.marks.items l.work.items

abbrev pub decreases-work : goal.decreases-work
decreases-work g l = 2 * count_by not l.marks.items + vec_len l.work
