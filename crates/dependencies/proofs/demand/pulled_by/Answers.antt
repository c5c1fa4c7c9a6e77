use Rattle.dependencies.proofs.EdgeLemmas.{places_within}
use Rattle.dependencies.proofs.demand.pulled_by.Goals as goal

pub put_demanded-requires : goal.put_demanded-requires
put_demanded-requires g c =
    rw (c.in_ok-places.ensures) (places_within (g.T.NeedTable.needs c.args.table.now) _)
