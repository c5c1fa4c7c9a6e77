use Rattle.dependencies.proofs.EdgeLemmas.{are_edges, firsts_within, least_is}
use Rattle.dependencies.proofs.demand.taken_in.Goals as goal

pub least_set-requires-clause-edges : goal.least_set-requires-clause-edges
least_set-requires-clause-edges g c = are_edges (g.T.NeedTable.needs c.args.table.now)

pub least_set-requires-clause-firsts : goal.least_set-requires-clause-firsts
least_set-requires-clause-firsts g c =
    rw (c.as_slice.ensures, c.in_ok-firsts.ensures) (firsts_within (g.T.NeedTable.needs c.args.table.now))

pub returns : goal.returns
returns g c =
    least_is (g.T.NeedTable.needs c.args.table.now) _
    (rw (c.as_slice.ensures, c.in_ok-firsts.ensures) at c.in_ok-taken.ensures)
